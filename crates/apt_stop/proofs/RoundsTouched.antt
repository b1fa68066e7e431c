-- The end of a course round a circle that touches its check surface.
use Rattle.std.proofs.Common.{refl, ◌≡◌, ◌≢◌, ◌∙◌, inl, inr, ◌<◌, arith, true, false, true≢false, ◌&&◌, ℤ, pos, negsuc, ◌-ℤ◌, ◌≤ℤ◌, Option, Some}
use Rattle.std.proofs.lemmas.Int.{ints}
use Rattle.std.proofs.lemmas.Bool.Decides.{eqb_tells}
use Rattle.std.proofs.lemmas.Bool.{not-false}
use Rattle.apt_num.specs.declared.Sign.{Sign}
use Rattle.apt_num.specs.declared.Sign.TheVariants as signs
use Rattle.apt_num.specs.Sign.{sign_of}
use Rattle.apt_num.proofs.Products.{some_number}
use Rattle.apt_plane.specs.declared.figures.Pt.{Pt}
use Rattle.apt_plane.specs.declared.figures.Dir.{Dir}
use Rattle.apt_plane.specs.declared.figures.Axis.{Axis}
use Rattle.apt_plane.specs.declared.figures.Circ.{Circ}
use Rattle.apt_plane.specs.declared.figures.Surface.{Surface}
use Rattle.apt_plane.specs.declared.figures.Surface.TheVariants as surfaces
use Rattle.apt_plane.specs.Axes.{IsOnAxis}
use Rattle.apt_plane.specs.Order.{turn_class}
use Rattle.apt_plane.specs.Ranges.{IsSense, IsDir}
use Rattle.apt_plane.specs.Vectors.{displacement, cross, dot, length_squared, perp}
use Rattle.apt_canon.specs.Scale.{IsNearCircle}
use Rattle.apt_offset.specs.declared.Target.TheVariants as targets
use Rattle.apt_offset.specs.Sides.{side_at_tangency}
use Rattle.apt_offset.specs.Targets.{signed}
use Rattle.apt_offset.specs.Ranges.{IsCircleTarget}
use Rattle.apt_contact.specs.Meetings.{circle_about}
use Rattle.apt_contact.specs.Contacts.{IsNearTarget}
use Rattle.apt_stop.specs.declared.course.Course.{Course}
use Rattle.apt_stop.specs.Nearness.{is_near, off_track}
use Rattle.apt_stop.specs.Tangencies.{axis, half_towards, touching_half, tangent_axis}
use Rattle.apt_stop.specs.Choices.{is_same, is_by_axis, touches_on, touches_at}
use Rattle.apt_stop.specs.Ranges.{IsCourse}
use Rattle.apt_stop.specs.Ends.{IsOnAxisOf, TouchesStop}
use Rattle.apt_stop.proofs.Moved.{track_target, stop_target}
use Rattle.apt_stop.proofs.Placed.{has_half}
use Rattle.apt_stop.proofs.Parts.{moved, Touches}
use Rattle.apt_plane.proofs.Turned.{perp_dir}
use Rattle.apt_stop.proofs.OnRounds.{ray_at, two_centres}
use Rattle.apt_stop.proofs.OneWay.{one_way}
use Rattle.apt_stop.proofs.OnRays.{LiesOnAxis, ray_is, ray_on_axis, ray_apart}
use Rattle.apt_stop.proofs.RoundsApart.{rounds_of}
use Rattle.apt_stop.proofs.RoundStops.{near_line_stop, near_circle_stop}

-- an end on its track, near its stop and on the axis, and not in the direction of the start
pub record TouchedRound (c : Course) (o q : Pt) : Type 0 where
  pub track : IsNearTarget c.track (pos 1) q
  pub stop : TouchesStop c q
  pub apart : turn_class (displacement o c.start) c.sense (displacement o q) ≢ 0

ray_class : (o : Pt) (r : ℤ) (p q : Pt) (along : Dir) (half : Sign) (sense : ℤ) → pos 100 ≤ℤ r → IsSense sense → is_near (targets.Circ o r) off_track p ≡ true → IsNearCircle (circle_about o r) (pos 1) q
    → 0 < length_squared along → half ≢ signs.Zero → LiesOnAxis along half (displacement o q)
    → (is_by_axis (cross along (displacement o p)) (length_squared along) && is_same half (sign_of (dot along (displacement o p)))) ≡ false
    → turn_class (displacement o p) sense (displacement o q) ≢ 0
ray_class o (pos r) p q along half sense large turn start end some there ray past = λ first.
    ray_apart o r p q along half (rounds_of o r p q (omega (arith, ints, large)) start end) some there ray past (one_way (displacement o p) sense (displacement o q) turn first)
ray_class o (negsuc r) p q along half sense large turn start end some there ray past = absurd (omega (arith, ints, large))

on_axis_of : (given : Option Axis) (a : Axis) (q : Pt) → given ≡ Some a → IsOnAxis a q → IsOnAxisOf given q
on_axis_of given a q e is = rw e is

-- the drive surface k, moved to the place v, and a check surface that it touches, by a cutter of the radius m
abbrev touching : Course → Circ → Sign → ℤ → Surface → Course
touching c k v m check = moved c (surfaces.Circ k) v check (side_at_tangency (surfaces.Circ k) check v) m

by_axis : (c : Course) (k : Circ) (v : Sign) (m : ℤ) (check : Surface) (along : Dir) (half : Sign) → tangent_axis (surfaces.Circ k) check ≡ Some (axis k.c along half)
    → let n = touching c k v m check in IsCourse n → Touches n → IsDir along
    → (half ≢ signs.Zero → (q : Pt) → LiesOnAxis along half (displacement k.c q) → IsNearCircle (circle_about k.c (k.r -ℤ signed v m)) (pos 1) q → IsNearTarget n.stop (pos 4) q)
    → TouchedRound n k.c (touches_at n (tangent_axis (surfaces.Circ k) check))
by_axis c k v m check along half e is free dir stops =
    let n = touching c k v m check in
    let a = axis k.c along half in
    let r = k.r -ℤ signed v m in
    let circle : IsCircleTarget k.c r = track_target n is in
    let there = has_half n a is e in
    let q = touches_on (targets.Circ k.c r) a in
    let near = ray_at k.c r a circle dir there in
    let ray = ray_is k.c r a circle dir there in
    rw e (record {
      track = near;
      stop = record { stop = stops there q ray near; axis = on_axis_of _ a q (free.on ∙ e) (ray_on_axis a q there ray) };
      apart = ray_class k.c r c.start q along half c.sense circle.least is.sense is.near near (omega (arith, dir.length)) there ray (rw e at free.past);
    })

pub touches_on_round : (c : Course) (k : Circ) (v : Sign) (m : ℤ) (check : Surface)
    → let n = touching c k v m check in IsCourse n → Touches n → TouchedRound n k.c (touches_at n (tangent_axis (surfaces.Circ k) check))
touches_on_round c k v m (surfaces.Line l) is free =
    let circle : IsCircleTarget k.c (k.r -ℤ signed v m) = track_target (touching c k v m (surfaces.Line l)) is in
    by_axis c k v m (surfaces.Line l) (perp l.dir) (half_towards l k) refl is free (perp_dir l.dir is.check.dir)
    (λ there q ray near. near_line_stop k l v m q circle.least there (not-false _ free.touching) ray near)
touches_on_round c k v m (surfaces.Circ j) is free = elim (eqb_tells (length_squared (displacement k.c j.c)) 0) [
  | inl one ↦ absurd (true≢false (rw one.0 at free.axis))
  | inr two ↦
      let n = touching c k v m (surfaces.Circ j) in
      let circle : IsCircleTarget k.c (k.r -ℤ signed v m) = track_target n is in
      let stop : IsCircleTarget j.c (j.r -ℤ signed (side_at_tangency (surfaces.Circ k) (surfaces.Circ j) v) m) = stop_target n is in
      by_axis c k v m (surfaces.Circ j) (displacement k.c j.c) (touching_half k j) (rw two.0 refl) is free (two_centres k.c j.c is.drive.centre is.check.centre two.1)
      (λ there q ray near.
      near_circle_stop k j v m q (omega (arith, ints, is.drive.least)) (omega (arith, ints, is.check.least)) (some_number (length_squared (displacement k.c j.c)) two.1) circle.least stop.least there
      (not-false _ free.touching) ray near)
]
