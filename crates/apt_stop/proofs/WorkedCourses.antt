-- Courses worked out by hand, which the definitions compute.
use Rattle.std.proofs.Common.{refl, ◌≡◌, ℤ, pos, neg_ℤ, Some, None}
use Rattle.apt_num.specs.Root.{root}
use Rattle.apt_num.specs.declared.Sign.TheVariants as signs
use Rattle.apt_words.specs.declared.Stop.{Stop}
use Rattle.apt_words.specs.declared.Stop.TheVariants as stops
use Rattle.apt_words.specs.declared.Case.TheVariants as cases
use Rattle.apt_words.specs.Rows.{first_of}
use Rattle.apt_plane.specs.declared.figures.Pt.{Pt}
use Rattle.apt_plane.specs.declared.figures.Dir.{Dir}
use Rattle.apt_plane.specs.declared.figures.Surface.{Surface}
use Rattle.apt_plane.specs.declared.figures.Surface.TheVariants as surfaces
use Rattle.apt_offset.specs.declared.Target.TheVariants as targets
use Rattle.apt_stop.specs.declared.course.Course.{Course}
use Rattle.apt_stop.specs.Courses.{stop_side}
use Rattle.apt_stop.specs.Choices.{course_cases, end_of}

abbrev pt : ℤ → ℤ → Pt
pt x y = record { x = x; y = y }

abbrev to : ℤ → ℤ → Dir
to x y = record { dx = x; dy = y }

abbrev line : Pt → Dir → Surface
line b d = surfaces.Line (record { base = b; dir = d })

abbrev ring : Pt → ℤ → Surface
ring c r = surfaces.Circ (record { c = c; r = r })

-- along the x axis, on it, from a place on it, to a circle of the radius 1 whose centre is 3 to the right
abbrev from_x : ℤ → ℤ → Stop → ℤ → Course
from_x x sense how y = record {
  start = pt x (pos 0);
  drive = line (pt (pos 0) (pos 0)) (to (pos 100000) (pos 0));
  track = targets.Line (pt (pos 0) (pos 0)) (to (pos 100000) (pos 0)) (pos 0);
  sense = sense;
  check = ring (pt (pos 300000) y) (pos 100000);
  how = how;
  stop = targets.Circ (pt (pos 300000) y) (pos 100000);
}

abbrev along_x : Stop → ℤ → Course
along_x = from_x (pos 0) (pos 1)

touch : first_of (course_cases (along_x stops.On (pos 100000))) ≡ None
unfolding root
touch = refl

touch_end : end_of (along_x stops.On (pos 100000)) ≡ pt (pos 300000) (pos 0)
unfolding root
touch_end = refl

no_touch : first_of (course_cases (along_x stops.On (pos 100001))) ≡ Some cases.NoContact
unfolding root
no_touch = refl

tangent : first_of (course_cases (along_x stops.Tanto (pos 100002))) ≡ None
unfolding root
tangent = refl

tangent_end : end_of (along_x stops.Tanto (pos 100002)) ≡ pt (pos 300000) (pos 0)
unfolding root
tangent_end = refl

no_tangent : first_of (course_cases (along_x stops.Tanto (pos 100003))) ≡ Some cases.NotTangent
unfolding root
no_tangent = refl

-- from outside it stops at the near side, and from inside at the far one
first_end : end_of (along_x stops.On (pos 0)) ≡ pt (pos 200000) (pos 0)
unfolding root
first_end = refl

inside_side : stop_side (from_x (pos 350000) (pos 1) stops.On (pos 0)) ≡ signs.Plus
inside_side = refl

inside_end : end_of (from_x (pos 350000) (pos 1) stops.On (pos 0)) ≡ pt (pos 400000) (pos 0)
unfolding root
inside_end = refl

-- inside and past the middle it still leads there; outside, past it, the circle lies behind
inside_free : first_of (course_cases (from_x (pos 350000) (pos 1) stops.On (pos 0))) ≡ None
unfolding root
inside_free = refl

outside_behind : first_of (course_cases (from_x (pos 400009) (pos 1) stops.On (pos 0))) ≡ Some cases.Behind
unfolding root
outside_behind = refl

away_behind : first_of (course_cases (from_x (pos 0) (neg_ℤ (pos 1)) stops.On (pos 0))) ≡ Some cases.Behind
unfolding root
away_behind = refl

-- 8 units from its near side the course heads inside, and from its far one it is past
near_enters : end_of (from_x (pos 199992) (pos 1) stops.On (pos 0)) ≡ pt (pos 400000) (pos 0)
unfolding root
near_enters = refl

near_leaves : first_of (course_cases (from_x (pos 400008) (pos 1) stops.On (pos 0))) ≡ Some cases.Behind
unfolding root
near_leaves = refl

-- half round a circle to a line through its centre, and to a line along which it starts
abbrev half : Pt → Dir → Course
half b d = record {
  start = pt (pos 0) (pos 225000);
  drive = ring (pt (pos 0) (pos 0)) (pos 200000);
  track = targets.Circ (pt (pos 0) (pos 0)) (pos 225000);
  sense = neg_ℤ (pos 1);
  check = line b d;
  how = stops.On;
  stop = targets.Line b d (pos 0);
}

half_side : stop_side (half (pt (pos 0) (pos 0)) (to (pos 0) (pos 100000))) ≡ signs.Minus
half_side = refl

half_end : end_of (half (pt (pos 0) (pos 0)) (to (pos 0) (pos 100000))) ≡ pt (pos 0) (neg_ℤ (pos 225000))
unfolding root
half_end = refl

half_behind : first_of (course_cases (half (pt (pos 0) (pos 225000)) (to (pos 100000) (pos 0)))) ≡ Some cases.Behind
unfolding root
half_behind = refl

-- circles that nearly coincide: both of the radius 2.25, their centres 1 apart; from where they cross above, 8 past it and 3 off
abbrev beside : ℤ → ℤ → ℤ → Course
beside x y sense = record {
  start = pt x y;
  drive = ring (pt (pos 0) (pos 0)) (pos 200000);
  track = targets.Circ (pt (pos 0) (pos 0)) (pos 225000);
  sense = sense;
  check = ring (pt (pos 100000) (pos 0)) (pos 200000);
  how = stops.To;
  stop = targets.Circ (pt (pos 100000) (pos 0)) (pos 225000);
}

above_inside : stop_side (beside (pos 50000) (pos 219374) (neg_ℤ (pos 1))) ≡ signs.Plus
above_inside = refl

above_outside : stop_side (beside (pos 50000) (pos 219374) (pos 1)) ≡ signs.Minus
above_outside = refl

to_below : end_of (beside (pos 50000) (pos 219374) (pos 1)) ≡ pt (pos 50000) (neg_ℤ (pos 219374))
unfolding root
to_below = refl

to_below_too : end_of (beside (pos 50000) (pos 219374) (neg_ℤ (pos 1))) ≡ pt (pos 50000) (neg_ℤ (pos 219374))
unfolding root
to_below_too = refl

leads_below : first_of (course_cases (beside (pos 50000) (pos 219374) (pos 1))) ≡ None
unfolding root
leads_below = refl
