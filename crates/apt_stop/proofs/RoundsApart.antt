-- A course round a circle does not end in the direction of its start, as seen from the centre.
use Rattle.std.proofs.Common.{refl, ◌≡◌, ◌≢◌, inl, inr, ℕ, ◌*◌, ◌≤◌, ◌<◌, arith, Bool, true, false, ◌&&◌, ℤ, pos, negsuc, ◌*ℤ◌}
use Rattle.std.specs.Prelude.{if◌then◌else◌}
use Rattle.std.proofs.lemmas.Int.{ints}
use Rattle.apt_num.specs.declared.Sign.{Sign}
use Rattle.apt_num.specs.Sign.{square, sign_of}
use Rattle.apt_num.proofs.Squares.{size_neg}
use Rattle.apt_plane.specs.declared.figures.Pt.{Pt}
use Rattle.apt_plane.specs.declared.figures.Dir.{Dir}
use Rattle.apt_plane.specs.Order.{turn_class}
use Rattle.apt_plane.specs.Ranges.{IsSense}
use Rattle.apt_plane.specs.Vectors.{displacement, cross, dot, length_squared}
use Rattle.apt_plane.proofs.Displacements.{cross_swap}
use Rattle.apt_canon.specs.Circles.{HasSense}
use Rattle.apt_canon.specs.Scale.{IsNearCircle}
use Rattle.apt_canon.proofs.CircleMeetings.Across.{point_further, point_beyond}
use Rattle.apt_offset.specs.declared.Target.{Target}
use Rattle.apt_offset.specs.declared.Target.TheVariants as targets
use Rattle.apt_offset.specs.Turns.{opposite}
use Rattle.apt_offset.specs.Targets.{signed}
use Rattle.apt_offset.specs.Ranges.{IsLineTarget, IsCircleTarget}
use Rattle.apt_contact.specs.Meetings.{line_on, circle_about}
use Rattle.apt_stop.specs.declared.course.Course.{Course}
use Rattle.apt_stop.specs.Nearness.{is_near, off_track, near_stop, side_of}
use Rattle.apt_stop.specs.Courses.{headed_side, starts_near_stop, stop_side}
use Rattle.apt_stop.specs.Choices.{is_by_axis, sigma_of, meets_at}
use Rattle.apt_stop.specs.Ranges.{IsCourse}
use Rattle.apt_stop.proofs.Rings.{ring_true, ring_false, near_least, near_most}
use Rattle.apt_stop.proofs.Moved.{track_target, stop_target, no_radius}
use Rattle.apt_stop.proofs.Contacts.{line_of, two_circles}
use Rattle.apt_stop.proofs.ToLines.{far_by}
use Rattle.apt_stop.proofs.Parts.{on_targets, Meets}
use Rattle.apt_stop.proofs.OneWay.{AreOneWay, one_way, Rounds, hardly_away}
use Rattle.apt_stop.proofs.Apart.{away_from_line, away_inside, away_outside}
use Rattle.apt_stop.proofs.Aside.{dot_on, cross_on, not_on_axis, far_aside, none_far, back_from_start, back_from_way}
use Rattle.apt_stop.proofs.OnRounds.{sigma_is, meets_on_round}

pub rounds_of : (o : Pt) (r : ℕ) (p q : Pt) → 100 ≤ r → is_near (targets.Circ o (pos r)) off_track p ≡ true → IsNearCircle (circle_about o (pos r)) (pos 1) q → Rounds o r p q
rounds_of o r p q large start end =
    let both = ring_true r 3 (length_squared (displacement o p)) (omega (arith, large)) start in record {
      radius = large;
      start_least = both.0;
      start_most = both.1;
      end_least = near_least o r q (omega (arith, large)) end;
      end_most = near_most o r q end;
    }

-- ---- near the stop
near_line : (o : Pt) (r : ℕ) (p q : Pt) (f : Dir) (sense : ℤ) (side : Sign) → Rounds o r p q → IsSense sense → 0 < length_squared f → side ≡ sign_of (sense *ℤ dot (displacement o p) f)
    → is_by_axis (dot (displacement o p) f) (length_squared f) ≡ false → HasSense (signed (opposite side) sense) (dot f (displacement o q)) (length_squared f)
    → AreOneWay (displacement o p) (displacement o q) → ⊥
near_line o r p q f sense side is turn some e past has way =
    let x = dot (displacement o p) f in
    let n = length_squared f in
    let far = far_aside x n past in
    not_on_axis o r p q (signed (opposite side) sense) x (dot f (displacement o q)) n is way some far (dot_on (displacement o p) (displacement o q) f way)
    (rw e (back_from_start sense x turn (none_far n x some far))) has

near_circle : (o : Pt) (r : ℕ) (p q : Pt) (g : Dir) (sense : ℤ) (side : Sign) → Rounds o r p q → IsSense sense → 0 < length_squared g → side ≡ sign_of (sense *ℤ cross (displacement o p) g)
    → is_by_axis (cross (displacement o p) g) (length_squared g) ≡ false → HasSense (signed side sense) (cross g (displacement o q)) (length_squared g)
    → AreOneWay (displacement o p) (displacement o q) → ⊥
near_circle o r p q g sense side is turn some e past has way =
    let s = displacement o p in
    let n = length_squared g in
    let far : 8 * 8 * n ≤ square (cross g s) = rw (cross_swap s g, size_neg (cross s g)) (far_aside (cross s g) n past) in
    not_on_axis o r p q (signed side sense) (cross g s) (cross g (displacement o q)) n is way some far (cross_on s (displacement o q) g way)
    (rw e (back_from_way sense (cross s g) (cross g s) turn (cross_swap s g) (none_far n (cross g s) some far))) has

-- ---- away from it
away_circle : (c : Pt) (h : ℕ) (p q : Pt) → 100 ≤ h → is_near (targets.Circ c (pos h)) near_stop p ≡ false → IsNearCircle (circle_about c (pos h)) (pos 1) q → length_squared (displacement p q) ≤ 25 → ⊥
away_circle c h p q large far on less = elim (ring_false h 8 (length_squared (displacement c p)) (omega (arith, large)) far) [
  | inl inside ↦ away_inside c h p q (omega (arith, large)) inside (near_least c h q (omega (arith, large)) on) less
  | inr outside ↦ away_outside c h p q outside (near_most c h q on) less
]

-- ---- both
second_false : (a b : Bool) → a ≡ true → (a && b) ≡ false → b ≡ false
second_false a b e f = rw e at f

first_of : (b : Bool) (x y : Sign) → b ≡ true → (if b then x else y) ≡ x
first_of b x y e = rw e refl

module _ (c : Course) (o : Pt) (r : ℕ) where
  abbrev to : Target → Course
  to stop = on_targets c (targets.Circ o (pos r)) stop

  abbrev end : Target → Pt
  end stop = meets_at (to stop) (stop_side (to stop))

  -- where the start is near the stop and where it is not
  apart : (stop : Target) → IsCourse (to stop) → Meets (to stop) → Rounds o r c.start (end stop) → (near : Bool) → starts_near_stop (to stop) ≡ near → AreOneWay (displacement o c.start) (displacement o (end stop)) → ⊥
  apart (targets.Line e f k) is free rounds true near way =
      let n = to (targets.Line e f k) in
      let line : IsLineTarget e f k = stop_target n is in
      let side = first_of (starts_near_stop n) (headed_side n n.track n.stop) (side_of n.stop c.start) near in
      let past = second_false (starts_near_stop n) (is_by_axis (dot (displacement o c.start) f) (length_squared f)) near free.past in
      near_line o r c.start (end n.stop) f c.sense (stop_side n) rounds is.sense (omega (arith, line.dir.length)) side past
      (point_further (line_on e f) k (circle_about o (pos r)) (sigma_of c.sense (stop_side n) n.track n.stop) (line_of e f k line) (sigma_is c o (pos r) n.stop is free)) way
  apart (targets.Line e f k) is free rounds false far way =
      let n = to (targets.Line e f k) in
      let line : IsLineTarget e f k = stop_target n is in
      away_from_line e f k (side_of n.stop c.start) c.start (end n.stop) (omega (arith, line.dir.length)) (far_by e f k c.start far)
      (meets_on_round c o (pos r) n.stop is free).1 (hardly_away o r c.start (end n.stop) rounds way)
  apart (targets.Circ p (pos h)) is free rounds true near way =
      let n = to (targets.Circ p (pos h)) in
      let g = displacement o p in
      let two = two_circles o r p h (track_target n is) (stop_target n is) free.meeting in
      let side = first_of (starts_near_stop n) (headed_side n n.track n.stop) (side_of n.stop c.start) near in
      let past = second_false (starts_near_stop n) (is_by_axis (cross (displacement o c.start) g) (length_squared g)) near free.past in
      near_circle o r c.start (end n.stop) g c.sense (stop_side n) rounds is.sense (omega (arith, two.way.length)) side past
      (point_beyond (circle_about o (pos r)) (circle_about p (pos h)) (sigma_of c.sense (stop_side n) n.track n.stop) two.way (sigma_is c o (pos r) n.stop is free)) way
  apart (targets.Circ p (pos h)) is free rounds false far way =
      let n = to (targets.Circ p (pos h)) in
      let circle : IsCircleTarget p (pos h) = stop_target n is in
      away_circle p h c.start (end n.stop) (omega (arith, ints, circle.least)) far (meets_on_round c o (pos r) n.stop is free).1 (hardly_away o r c.start (end n.stop) rounds way)
  apart (targets.Circ p (negsuc h)) is free rounds near e way = absurd (no_radius p h (stop_target (to (targets.Circ p (negsuc h))) is))

  meets_at_radius : (stop : Target) → IsCourse (to stop) → Meets (to stop) → turn_class (displacement o c.start) c.sense (displacement o (end stop)) ≢ 0
  meets_at_radius stop is free = λ first.
      let circle : IsCircleTarget o (pos r) = track_target (to stop) is in
      let rounds = rounds_of o r c.start (end stop) (omega (arith, ints, circle.least)) is.near (meets_on_round c o (pos r) stop is free).0 in
      apart stop is free rounds (starts_near_stop (to stop)) refl (one_way (displacement o c.start) c.sense (displacement o (end stop)) is.sense first)

-- a course that meets its stop
pub meets_apart : (c : Course) (o : Pt) (r : ℤ) (stop : Target) → let n = on_targets c (targets.Circ o r) stop in IsCourse n → Meets n
    → turn_class (displacement o c.start) c.sense (displacement o (meets_at n (stop_side n))) ≢ 0
meets_apart c o (pos r) stop is free = meets_at_radius c o r stop is free
meets_apart c o (negsuc r) stop is free = absurd (no_radius o r (track_target (on_targets c (targets.Circ o (negsuc r)) stop) is))
