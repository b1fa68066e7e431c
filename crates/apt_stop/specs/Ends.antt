-- What the end of a course is, by distances and products, whatever formula gives it.
use Rattle.std.specs.Prelude.{◌≡◌, ◌≢◌, ℤ, pos, ◌+ℤ◌, ◌-ℤ◌, ◌<ℤ◌, true, false, Option, Some, None}
use Rattle.apt_num.specs.declared.Sign.{Sign}
use Rattle.apt_num.specs.declared.Sign.TheVariants as signs
use Rattle.apt_plane.specs.declared.figures.Pt.{Pt}
use Rattle.apt_plane.specs.declared.figures.Dir.{Dir}
use Rattle.apt_plane.specs.declared.figures.Axis.{Axis}
use Rattle.apt_plane.specs.Vectors.{displacement, dot, Scaled}
use Rattle.apt_plane.specs.Order.{turn_class}
use Rattle.apt_plane.specs.Distances.{IsAbove, IsBelow, IsOver, IsUnder, EveryPoint, about}
use Rattle.apt_plane.specs.Axes.{IsOnAxis}
use Rattle.apt_offset.specs.declared.Target.{Target}
use Rattle.apt_offset.specs.declared.Target.TheVariants as targets
use Rattle.apt_contact.specs.Meetings.{line_on}
use Rattle.apt_contact.specs.Contacts.{IsNearTarget}
use Rattle.apt_stop.specs.declared.course.Course.{Course}
use Rattle.apt_stop.specs.Nearness.{heading, near_stop}
use Rattle.apt_stop.specs.Courses.{is_tanto, kept_side, axis_of}

-- a point is on a side of a target, or at most so far past it
abbrev pub IsKept : Target → ℤ → Sign → Scaled → Type 0
IsKept (targets.Line b d h) g signs.Plus s = IsAbove (line_on b d) (h -ℤ g) s
IsKept (targets.Line b d h) g signs.Minus s = IsBelow (line_on b d) (h +ℤ g) s
IsKept (targets.Line b d h) g signs.Zero s = ⊥
IsKept (targets.Circ o r) g signs.Plus s = IsUnder (about o) (r +ℤ g) s
IsKept (targets.Circ o r) g signs.Minus s = IsOver (about o) (r -ℤ g) s
IsKept (targets.Circ o r) g signs.Zero s = ⊥

abbrev pub IsOnAxisOf : Option Axis → Pt → Type 0
IsOnAxisOf None q = ⊥
IsOnAxisOf (Some axis) q = IsOnAxis axis q

-- a course that meets its stop ends on it within a unit, and no point on the way there is more than 8 units past it
pub record MeetsStop (c : Course) (q : Pt) : Type 0 where
  pub stop : IsNearTarget c.stop (pos 1) q
  pub kept : EveryPoint c.start q (IsKept c.stop near_stop (kept_side c))

-- one that touches ends within four units of it, on the axis
pub record TouchesStop (c : Course) (q : Pt) : Type 0 where
  pub stop : IsNearTarget c.stop (pos 4) q
  pub axis : IsOnAxisOf (axis_of c) q

-- a course along a line runs onwards to its end, which is within a unit of its track
pub record EndsOnLine (c : Course) (d : Dir) (q : Pt) : Type 0 where
  pub ahead : pos 0 <ℤ dot (heading c.sense d) (displacement c.start q)
  pub track : IsNearTarget c.track (pos 1) q
  pub meets : is_tanto c.how ≡ false → MeetsStop c q
  pub touches : is_tanto c.how ≡ true → TouchesStop c q

-- one round a circle about o ends within a unit of its track, and of its stop where it meets it; seen from the centre, its end is not in the direction of its start
pub record EndsOnCircle (c : Course) (o : Pt) (q : Pt) : Type 0 where
  pub track : IsNearTarget c.track (pos 1) q
  pub meets : is_tanto c.how ≡ false → IsNearTarget c.stop (pos 1) q
  pub touches : is_tanto c.how ≡ true → TouchesStop c q
  pub apart : turn_class (displacement o c.start) c.sense (displacement o q) ≢ 0

-- what is said of an end by its track
abbrev pub IsEndOn : Target → Course → Pt → Type 0
IsEndOn (targets.Line b d h) c q = EndsOnLine c d q
IsEndOn (targets.Circ o r) c q = EndsOnCircle c o q
