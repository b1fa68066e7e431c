-- On which side of its stop a course runs, by distances and products.
use Rattle.std.specs.Prelude.{◌≡◌, ℤ, pos}
use Rattle.apt_num.specs.declared.Sign.{Sign}
use Rattle.apt_num.specs.Sign.{sign_of}
use Rattle.apt_plane.specs.declared.figures.Pt.{Pt}
use Rattle.apt_plane.specs.declared.figures.Dir.{Dir}
use Rattle.apt_plane.specs.Vectors.{displacement, cross, dot, perp, scaled}
use Rattle.apt_canon.specs.Scale.{times}
use Rattle.apt_offset.specs.declared.Target.{Target}
use Rattle.apt_offset.specs.declared.Target.TheVariants as targets
use Rattle.apt_contact.specs.Contacts.{IsNearTarget}
use Rattle.apt_stop.specs.declared.course.Course.{Course}
use Rattle.apt_stop.specs.Ends.{IsKept}

-- the direction of a target at a point: that of a line, and of a circle the tangent, anticlockwise
abbrev pub direction_at : Target → Pt → Dir
direction_at (targets.Line b d h) p = d
direction_at (targets.Circ o r) p = perp (displacement o p)

-- the direction in which a course sets out
abbrev pub set_out : Course → Dir
set_out c = times c.sense (direction_at c.track c.start)

-- how much a step from a point leads to the left of a line, or towards the centre of a circle
abbrev pub step_in : Target → Pt → Dir → ℤ
step_in (targets.Line b d h) p u = cross d u
step_in (targets.Circ o r) p u = dot (displacement p o) u

-- a course that starts more than 8 units from its stop runs on the side on which it starts, and one that starts nearer on the side to which its first step leads
pub record RunsOn (c : Course) (side : Sign) : Type 0 where
  pub far : ¬ IsNearTarget c.stop (pos 8) c.start → IsKept c.stop (pos 0) side (scaled c.start)
  pub near : IsNearTarget c.stop (pos 8) c.start → side ≡ sign_of (step_in c.stop c.start (set_out c))
