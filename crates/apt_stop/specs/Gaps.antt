-- Whether two surfaces come near to touching: the gap between them is at most 2 grid units.
use Rattle.std.specs.Prelude.{ℕ, nat_le, ℤ, pos, neg_ℤ, ◌+ℤ◌, ◌-ℤ◌, ◌&&◌, Bool, false, unsigned_abs, if◌then◌else◌}
use Rattle.apt_num.specs.Sign.{square, is_at_least}
use Rattle.apt_plane.specs.declared.figures.Line.{Line}
use Rattle.apt_plane.specs.declared.figures.Circ.{Circ}
use Rattle.apt_plane.specs.declared.figures.Surface.{Surface}
use Rattle.apt_plane.specs.declared.figures.Surface.TheVariants as surfaces
use Rattle.apt_plane.specs.Vectors.{displacement, cross, length_squared}
use Rattle.apt_offset.specs.Sides.{touch_outside}
use Rattle.apt_offset.specs.Targets.{greater}

abbrev pub gap : ℤ
gap = pos 2

abbrev pub size : ℤ → ℤ
size z = pos (unsigned_abs z)

-- k is at most g times the root of n away from h times it
abbrev pub is_within : ℤ → ℤ → ℤ → ℕ → Bool
is_within k h g n = is_at_least k (h -ℤ g) n && is_at_least (neg_ℤ k) (neg_ℤ h -ℤ g) n

-- the root of n is at most a gap away from a length
abbrev pub is_about : ℤ → ℕ → Bool
is_about a n = nat_le (square (greater (pos 0) (a -ℤ gap))) n && nat_le n (square (a +ℤ gap))

-- a line touches a circle where its distance from the centre is the radius
abbrev pub line_touches : Line → Circ → Bool
line_touches l c = is_within (size (cross l.dir (displacement l.base c.c))) c.r gap (length_squared l.dir)

-- circles touch from outside where their centres are the sum of the radii apart, and one in the other where they are the difference apart
abbrev pub touching_distance : Circ → Circ → ℤ
touching_distance c d = if touch_outside c d then c.r +ℤ d.r else size (c.r -ℤ d.r)

abbrev pub circles_touch : Circ → Circ → Bool
circles_touch c d = is_about (touching_distance c d) (length_squared (displacement c.c d.c))

abbrev pub is_touching : Surface → Surface → Bool
is_touching (surfaces.Line l) (surfaces.Line k) = false
is_touching (surfaces.Line l) (surfaces.Circ c) = line_touches l c
is_touching (surfaces.Circ c) (surfaces.Line l) = line_touches l c
is_touching (surfaces.Circ c) (surfaces.Circ d) = circles_touch c d
