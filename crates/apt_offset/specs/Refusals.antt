-- What refuses a target, in words of the surfaces.
use Rattle.std.specs.Prelude.{◌≡◌, ℤ, pos, ◌-ℤ◌, ◌*ℤ◌, ◌<ℤ◌}
use Rattle.apt_num.specs.declared.Sign.{Sign}
use Rattle.apt_num.specs.declared.Sign.TheVariants as signs
use Rattle.apt_words.specs.declared.Stop.{Stop}
use Rattle.apt_words.specs.declared.Stop.TheVariants as stops
use Rattle.apt_plane.specs.declared.figures.Pt.{Pt}
use Rattle.apt_plane.specs.declared.figures.Surface.{Surface}
use Rattle.apt_plane.specs.declared.figures.Surface.TheVariants as surfaces
use Rattle.apt_plane.specs.Vectors.{displacement, cross, length_squared}

-- a point is on a line or on a circle
abbrev pub IsOn : Surface → Pt → Type 0
IsOn (surfaces.Line l) p = cross l.dir (displacement l.base p) ≡ pos 0
IsOn (surfaces.Circ c) p = pos (length_squared (displacement c.c p)) ≡ c.r *ℤ c.r

-- TO and PAST are refused where the motion starts on its check surface
abbrev pub StartsOn : Surface → Stop → Pt → Type 0
StartsOn check stops.To start = IsOn check start
StartsOn check stops.Past start = IsOn check start
StartsOn check stops.On start = ⊥
StartsOn check stops.Tanto start = ⊥

-- a cutter has no room inside a circle whose radius is less than 100 greater than its own
abbrev pub HasNoRoom : Surface → Sign → ℤ → Type 0
HasNoRoom (surfaces.Line l) v r = ⊥
HasNoRoom (surfaces.Circ c) signs.Plus r = (c.r -ℤ r) <ℤ pos 100
HasNoRoom (surfaces.Circ c) signs.Zero r = ⊥
HasNoRoom (surfaces.Circ c) signs.Minus r = ⊥
