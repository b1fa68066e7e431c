-- A motion along a line to where it meets a circle: it leads onwards, and keeps to its side of the circle.
use Rattle.std.proofs.Common.{◌≡◌, inl, inr, ℕ, ◌+◌, ◌-◌, ◌*◌, ◌≤◌, subst, arith, ℤ, pos, neg_ℤ, ◌-ℤ◌, ◌*ℤ◌, ◌<ℤ◌}
use Rattle.std.proofs.lemmas.Int.{ints}
use Rattle.std.proofs.lemmas.Nat.{mul-le}
use Rattle.apt_num.specs.declared.Sign.{Sign}
use Rattle.apt_num.specs.declared.Sign.TheVariants as signs
use Rattle.apt_num.specs.Sign.{AtLeast}
use Rattle.apt_num.proofs.Ring.{neg-*ℤ}
use Rattle.apt_num.proofs.Squares.{size_neg}
use Rattle.apt_plane.specs.declared.figures.Pt.{Pt}
use Rattle.apt_plane.specs.declared.figures.Dir.{Dir}
use Rattle.apt_plane.specs.Ranges.{IsSense}
use Rattle.apt_plane.specs.Vectors.{displacement, dot, length_squared}
use Rattle.apt_plane.specs.Distances.{EveryPoint}
use Rattle.apt_plane.proofs.RingLaws.{under-between, length_at_most, under_to}
use Rattle.apt_plane.proofs.Turned.{size_sense}
use Rattle.apt_plane.proofs.Displacements.{dot_swap}
use Rattle.apt_canon.specs.Scale.{IsNearCircle}
use Rattle.apt_canon.specs.Circles.{HasSense}
use Rattle.apt_offset.specs.declared.Target.TheVariants as targets
use Rattle.apt_offset.specs.Targets.{signed}
use Rattle.apt_contact.specs.Meetings.{circle_about}
use Rattle.apt_stop.specs.Nearness.{heading, near_stop}
use Rattle.apt_stop.specs.Ends.{IsKept}
use Rattle.apt_stop.proofs.Onwards.{Runs, Onward, near_onwards, outside_onwards, inside_onwards, outside_stays}
use Rattle.apt_stop.proofs.Tracks.{heading_dot, heading_length}
use Rattle.apt_stop.proofs.Rings.{near_least, near_most}
use Rattle.apt_stop.proofs.Lies.{Lies, Near, Outside, Inside}

-- the contact lies onwards of the centre in the heading, or before it
sense_onward : (sense l : ℤ) (n : ℕ) → IsSense sense → HasSense sense l n → Onward (sense *ℤ l) n
sense_onward sense l n is (inl on) = inl on
sense_onward sense l n is (inr small) = inr (rw (size_sense sense l is) small)

sense_back : (sense l : ℤ) (n : ℕ) → IsSense sense → HasSense (neg_ℤ sense) l n → Onward (neg_ℤ (sense *ℤ l)) n
sense_back sense l n is (inl on) = inl (rw (neg-*ℤ sense l) at on)
sense_back sense l n is (inr small) = inr (rw (size_neg (sense *ℤ l), size_sense sense l is) small)

-- what is given of the motion: k is how far it runs on to the centre
pub record Towards (p : Pt) (d : Dir) (sense : ℤ) (o : Pt) (r : ℕ) (side : Sign) (q : Pt) : Type 0 where
  pub turn : IsSense sense
  pub radius : 100 ≤ r
  pub runs : Runs (heading sense d) p q
  pub lies : Lies side (dot (displacement p o) (heading sense d)) (length_squared d) (length_squared (displacement o p)) r
  pub end : IsNearCircle (circle_about o (pos r)) (pos 1) q
  pub contact : HasSense (signed side sense) (dot d (displacement o q)) (length_squared d)

onward_at : (d : Dir) (sense : ℤ) (o q : Pt) → IsSense sense → HasSense sense (dot d (displacement o q)) (length_squared d)
    → Onward (dot (heading sense d) (displacement o q)) (length_squared (heading sense d))
onward_at d sense o q is has = rw (heading_length sense d is, heading_dot sense d (displacement o q)) (sense_onward sense (dot d (displacement o q)) (length_squared d) is has)

back_at : (d : Dir) (sense : ℤ) (o q : Pt) → IsSense sense → HasSense (neg_ℤ sense) (dot d (displacement o q)) (length_squared d)
    → Onward (neg_ℤ (dot (heading sense d) (displacement o q))) (length_squared (heading sense d))
back_at d sense o q is has = rw (heading_length sense d is, heading_dot sense d (displacement o q)) (sense_back sense (dot d (displacement o q)) (length_squared d) is has)

eight_less : (r : ℕ) → 8 ≤ r → pos r -ℤ pos 8 ≡ pos (r - 8)
eight_less r least = omega (arith, ints)

seven_more : (r : ℕ) → 8 ≤ r → (r - 8 + 7) ≡ r - 1
seven_more r least = omega arith

nine_more : (r : ℕ) → 8 ≤ r → (r - 8 + 9) ≡ r + 1
nine_more r least = omega arith

ahead_by : (p : Pt) (d : Dir) (sense : ℤ) (o : Pt) (r : ℕ) (side : Sign) (q : Pt) → Towards p d sense o r side q
    → Lies side (dot (displacement p o) (heading sense d)) (length_squared d) (length_squared (displacement o p)) r → pos 0 <ℤ dot (heading sense d) (displacement p q)
ahead_by p d sense o r side q is (Near e at near) =
    let m = heading sense d in
    near_onwards m o p q is.runs.heading
    (subst (λ (z : ℤ). AtLeast z (pos 8) (length_squared m)) (dot_swap (displacement p o) m) (rw (heading_length sense d is.turn) at))
    (onward_at d sense o q is.turn (rw e at is.contact))
ahead_by p d sense o r side q is (Outside e before far) =
    let m = heading sense d in
    outside_onwards m o p q r is.runs (subst (λ (z : ℤ). pos 0 <ℤ z) (dot_swap (displacement p o) m) before) far (near_most o r q is.end)
ahead_by p d sense o r side q is (Inside e near) =
    inside_onwards (heading sense d) o p q (r - 8) is.runs (onward_at d sense o q is.turn (rw e at is.contact)) near
    (rw (seven_more r (omega (arith, is.radius))) (near_least o r q (omega (arith, is.radius)) is.end))

pub leads_on : (p : Pt) (d : Dir) (sense : ℤ) (o : Pt) (r : ℕ) (side : Sign) (q : Pt) → Towards p d sense o r side q → pos 0 <ℤ dot (heading sense d) (displacement p q)
leads_on p d sense o r side q is = ahead_by p d sense o r side q is is.lies

-- ---- inside: both ends are at most 8 units outside, and so is every point
stays_inside : (p o : Pt) (r : ℕ) (q : Pt) → length_squared (displacement o p) ≤ (r + 8) * (r + 8) → length_squared (displacement o q) ≤ (r + 1) * (r + 1)
    → EveryPoint p q (IsKept (targets.Circ o (pos r)) near_stop signs.Plus)
stays_inside p o r q start end =
    under-between o p q (pos (r + 8)) (under_to o p (r + 8) start) (under_to o q (r + 8) (omega (arith, end, mul-le (r + 1) (r + 1) (r + 8) (r + 8) (omega arith) (omega arith))))

stays_outside : (p : Pt) (d : Dir) (sense : ℤ) (o : Pt) (r : ℕ) (side : Sign) (q : Pt) → Towards p d sense o r side q → side ≡ signs.Minus
    → EveryPoint p q (IsKept (targets.Circ o (pos r)) near_stop signs.Minus)
stays_outside p d sense o r side q is e = λ j k some.
    let least : 8 ≤ r = omega (arith, is.radius) in
    rw (eight_less r least)
    ((length_at_most (j + k) (r - 8) _).1
    (outside_stays (heading sense d) o p q (r - 8) is.runs (leads_on p d sense o r side q is) (back_at d sense o q is.turn (rw e at is.contact))
    (rw (seven_more r least) (near_least o r q (omega (arith, is.radius)) is.end)) (rw (nine_more r least) (near_most o r q is.end)) (omega (arith, is.radius)) j k))

kept_by : (p : Pt) (d : Dir) (sense : ℤ) (o : Pt) (r : ℕ) (side : Sign) (q : Pt) → Towards p d sense o r side q
    → Lies side (dot (displacement p o) (heading sense d)) (length_squared d) (length_squared (displacement o p)) r → EveryPoint p q (IsKept (targets.Circ o (pos r)) near_stop side)
kept_by p d sense o r side q is (Near e at near) = rw e (stays_inside p o r q near (near_most o r q is.end))
kept_by p d sense o r side q is (Outside e before far) = rw e (stays_outside p d sense o r side q is e)
kept_by p d sense o r side q is (Inside e near) =
    rw e (stays_inside p o r q (omega (arith, near, mul-le (r - 8) (r - 8) (r + 8) (r + 8) (omega arith) (omega arith))) (near_most o r q is.end))

pub keeps_side : (p : Pt) (d : Dir) (sense : ℤ) (o : Pt) (r : ℕ) (side : Sign) (q : Pt) → Towards p d sense o r side q → EveryPoint p q (IsKept (targets.Circ o (pos r)) near_stop side)
keeps_side p d sense o r side q is = kept_by p d sense o r side q is is.lies
