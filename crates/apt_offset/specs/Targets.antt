-- Targets and tolerance bands.
use Rattle.std.specs.Prelude.{ℤ, pos, neg_ℤ, ◌+ℤ◌, ◌-ℤ◌, int_lt, int_le, Bool, false, if◌then◌else◌}
use Rattle.apt_num.specs.declared.Sign.{Sign}
use Rattle.apt_num.specs.declared.Sign.TheVariants as signs
use Rattle.apt_plane.specs.declared.figures.Surface.{Surface}
use Rattle.apt_plane.specs.declared.figures.Surface.TheVariants as surfaces
use Rattle.apt_plane.specs.declared.figures.Band.{Band}
use Rattle.apt_offset.specs.declared.Target.{Target}
use Rattle.apt_offset.specs.declared.Target.TheVariants as targets

abbrev pub signed : Sign → ℤ → ℤ
signed signs.Plus r = r
signed signs.Zero r = pos 0
signed signs.Minus r = neg_ℤ r

-- the least radius of a circle
abbrev pub least_radius : ℤ
least_radius = pos 100

-- a surface moved by the cutter's radius to the cutter's place: a line to its left or right, a circle inwards or outwards
abbrev pub offset_surface : Surface → Sign → ℤ → Target
offset_surface (surfaces.Line l) v r = targets.Line l.base l.dir (signed v r)
offset_surface (surfaces.Circ c) v r = targets.Circ c.c (c.r -ℤ signed v r)

-- a circle that is too small
abbrev pub lacks_room : Target → Bool
lacks_room (targets.Line base dir off) = false
lacks_room (targets.Circ c r) = int_lt r least_radius

abbrev pub greater : ℤ → ℤ → ℤ
greater a b = if int_le a b then b else a

abbrev pub band : ℤ → ℤ → Band
band lo hi = record { lo = lo; hi = hi }

-- the tolerance band of the cutter's centre about a surface itself: i inwards and o outwards of the target, and the greater of both where the cutter is on the surface
abbrev pub line_band : Sign → ℤ → ℤ → ℤ → Band
line_band signs.Plus r i o = band (r -ℤ i) (r +ℤ o)
line_band signs.Minus r i o = band (neg_ℤ r -ℤ o) (neg_ℤ r +ℤ i)
line_band signs.Zero r i o = band (neg_ℤ (greater i o)) (greater i o)

abbrev pub circle_band : ℤ → Sign → ℤ → ℤ → ℤ → Band
circle_band circle signs.Plus r i o = band ((circle -ℤ r) -ℤ o) ((circle -ℤ r) +ℤ i)
circle_band circle signs.Minus r i o = band ((circle +ℤ r) -ℤ i) ((circle +ℤ r) +ℤ o)
circle_band circle signs.Zero r i o = band (circle -ℤ greater i o) (circle +ℤ greater i o)

abbrev pub band_at : Surface → Sign → ℤ → ℤ → ℤ → Band
band_at (surfaces.Line l) v r i o = line_band v r i o
band_at (surfaces.Circ c) v r i o = circle_band c.r v r i o
