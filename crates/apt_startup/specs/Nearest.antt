-- What the point of a start-up is, by distances and products, whatever formula gives it.
use Rattle.std.specs.Prelude.{◌≡◌, ◌⊎◌, ◌*◌, ◌≤◌, ◌<◌, pos, neg_ℤ, ◌<ℤ◌, Option, Some, None}
use Rattle.apt_num.specs.Sign.{square}
use Rattle.apt_plane.specs.declared.figures.Pt.{Pt}
use Rattle.apt_plane.specs.declared.figures.Dir.{Dir}
use Rattle.apt_plane.specs.Vectors.{displacement, cross, dot, length_squared}
use Rattle.apt_offset.specs.declared.Target.{Target}
use Rattle.apt_offset.specs.declared.Target.TheVariants as targets
use Rattle.apt_offset.specs.Sides.{StopsAside}
use Rattle.apt_contact.specs.Contacts.{contact_point, IsNearTarget}
use Rattle.apt_startup.specs.declared.Goal.{Goal}
use Rattle.apt_startup.specs.declared.StartUp.{StartUp}
use Rattle.apt_startup.specs.StartUps.{goal_target, way_or_right, distance_squared}

-- within one unit of the target of each surface
abbrev pub IsNearBoth : StartUp → Option Goal → Pt → Type 0
IsNearBoth u None q = IsNearTarget (goal_target u u.first) (pos 1) q
IsNearBoth u (Some g) q = IsNearTarget (goal_target u u.first) (pos 1) q × IsNearTarget (goal_target u g) (pos 1) q

-- ---- on one surface

-- q lies on the ray from c in a direction, up to less than a unit across it
pub record IsOnRay (c : Pt) (u : Dir) (q : Pt) : Type 0 where
  pub across : 2 * square (cross u (displacement c q)) ≤ length_squared u
  pub onwards : pos 0 <ℤ dot u (displacement c q)

-- from p, q lies square to a line, up to less than a unit along it, or on the ray from a circle's centre through p
abbrev pub IsFootOf : Pt → Target → Pt → Type 0
IsFootOf p (targets.Line b d h) q = 2 * square (dot d (displacement p q)) ≤ length_squared d
IsFootOf p (targets.Circ c r) q = IsOnRay c (way_or_right (displacement c p)) q

-- ---- on two surfaces

-- q is one of two points, and the other is not nearer to p; the first of two that are as near
abbrev pub IsNearerOf : Pt → Pt → Pt → Pt → Type 0
IsNearerOf p a b q = ((q ≡ a) × (distance_squared p a ≤ distance_squared p b)) ⊎ ((q ≡ b) × (distance_squared p b < distance_squared p a))

abbrev pub IsNearerContact : Pt → Target → Target → Pt → Type 0
IsNearerContact p a b q = IsNearerOf p (contact_point a b (neg_ℤ (pos 1))) (contact_point a b (pos 1)) q

abbrev pub IsNearest : StartUp → Option Goal → Pt → Type 0
IsNearest u None q = IsFootOf u.start (goal_target u u.first) q
IsNearest u (Some g) q = IsNearerContact u.start (goal_target u u.first) (goal_target u g) q

-- ---- on which side

-- at each surface it stops on the side of its start under TO, and on the other under PAST
abbrev pub GoesAside : StartUp → Goal → Pt → Type 0
GoesAside u g q = StopsAside g.surface g.how u.start q

abbrev pub EachAside : StartUp → Option Goal → Pt → Type 0
EachAside u None q = GoesAside u u.first q
EachAside u (Some g) q = GoesAside u u.first q × GoesAside u g q
