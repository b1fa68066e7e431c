-- The side on which a course runs, read by distances and products.
use Rattle.std.specs.Prelude.{◌↔◌, if◌then◌else◌}
use Rattle.std.proofs.Common.{refl, ◌≡◌, ◌≢◌, sym, ◌∙◌, ap, subst, true≢false, zero, suc, ◌+◌, ◌-◌, ◌*◌, ◌≤◌, arith, Bool, true, false, ℤ, pos, negsuc, neg_ℤ, ◌+ℤ◌, ◌-ℤ◌, ◌*ℤ◌}
use Rattle.std.proofs.lemmas.Int.{ints}
use Rattle.apt_num.specs.declared.Sign.{Sign}
use Rattle.apt_num.specs.declared.Sign.TheVariants as signs
use Rattle.apt_num.specs.Sign.{AtLeast, square, sign_of, root_sign_of}
use Rattle.apt_num.proofs.AtLeast.{root_sign_at_least, root_sign_at_most}
use Rattle.apt_num.proofs.Ring.{as_diff, diff-same, differences}
use Rattle.apt_num.proofs.Squares.{square_le}
use Rattle.apt_num.proofs.Sums.{at_least-weaker}
use Rattle.apt_num.proofs.Nearest.{not_negative}
use Rattle.apt_plane.specs.declared.figures.Pt.{Pt}
use Rattle.apt_plane.specs.declared.figures.Dir.{Dir}
use Rattle.apt_plane.specs.Distances.{IsOver, IsUnder, about}
use Rattle.apt_plane.specs.Vectors.{displacement, cross, dot, perp, length_squared, scaled}
use Rattle.apt_plane.proofs.Heights.{one-times}
use Rattle.apt_plane.proofs.RingLaws.{tells_over, tells_under}
use Rattle.apt_plane.proofs.Displacements.{step_part}
use Rattle.apt_canon.specs.Scale.{times}
use Rattle.apt_offset.specs.declared.Target.{Target}
use Rattle.apt_offset.specs.declared.Target.TheVariants as targets
use Rattle.apt_offset.specs.Ranges.{IsTarget}
use Rattle.apt_contact.specs.Contacts.{IsNearTarget}
use Rattle.apt_stop.specs.declared.course.Course.{Course}
use Rattle.apt_stop.specs.Courses.{headed_side, stop_side, starts_near_stop}
use Rattle.apt_stop.specs.Ends.{IsKept}
use Rattle.apt_stop.specs.Nearness.{is_near, side_of, near_stop}
use Rattle.apt_stop.specs.Sides.{direction_at, step_in, RunsOn}
use Rattle.apt_stop.proofs.Moved.{no_radius}
use Rattle.apt_stop.proofs.Sided.{off_target}
use Rattle.apt_stop.proofs.Within.{near_tells}

-- ---- to which side the first step leads

-- the tangent of a circle against a line, and against the way to a centre
along_line : (fx fy vx vy s : ℤ) → (fx *ℤ (s *ℤ vx)) -ℤ (fy *ℤ (s *ℤ neg_ℤ vy)) ≡ s *ℤ ((vx *ℤ fx) +ℤ (vy *ℤ fy))
along_line fx fy vx vy s = rw (as_diff fx, as_diff fy, as_diff vx, as_diff vy, as_diff s) (simp differences (diff-same _ _ _ _ (omega arith)))

to_way : (wx wy vx vy s : ℤ) → ((wx -ℤ vx) *ℤ (s *ℤ neg_ℤ vy)) +ℤ ((wy -ℤ vy) *ℤ (s *ℤ vx)) ≡ s *ℤ ((vx *ℤ wy) -ℤ (vy *ℤ wx))
to_way wx wy vx vy s = rw (as_diff wx, as_diff wy, as_diff vx, as_diff vy, as_diff s) (simp differences (diff-same _ _ _ _ (omega arith)))

to_centre : (o p q : Pt) (s : ℤ) → dot (displacement p q) (times s (perp (displacement o p))) ≡ s *ℤ cross (displacement o p) (displacement o q)
to_centre o p q s = rw (step_part o.x p.x q.x, step_part o.y p.y q.y) (to_way (q.x -ℤ o.x) (q.y -ℤ o.y) (p.x -ℤ o.x) (p.y -ℤ o.y) s)

headed_is : (c : Course) (t s : Target) → headed_side c t s ≡ sign_of (step_in s c.start (times c.sense (direction_at t c.start)))
headed_is c (targets.Line b d h) (targets.Line e f k) = refl
headed_is c (targets.Line b d h) (targets.Circ o r) = refl
headed_is c (targets.Circ o r) (targets.Line e f k) =
    let v = displacement o c.start in
    ap sign_of (sym (along_line f.dx f.dy v.dx v.dy c.sense))
headed_is c (targets.Circ o r) (targets.Circ q s) = ap sign_of (sym (to_centre o c.start q c.sense))

-- ---- the side on which a point lies

-- by whole numbers
abbrev IsOn : Sign → Target → Pt → Type 0
IsOn signs.Zero t p = ⊥
IsOn signs.Plus (targets.Line b d h) p = AtLeast (cross d (displacement b p)) h (length_squared d)
IsOn signs.Plus (targets.Circ o r) p = length_squared (displacement o p) ≤ square r
IsOn signs.Minus (targets.Line b d h) p = AtLeast (neg_ℤ (cross d (displacement b p))) (neg_ℤ h) (length_squared d)
IsOn signs.Minus (targets.Circ o r) p = square r ≤ length_squared (displacement o p)

less_none : (z : ℤ) → z -ℤ pos 0 ≡ z
less_none z = omega (arith, ints)

more_none : (z : ℤ) → z +ℤ pos 0 ≡ z
more_none z = omega (arith, ints)

kept_tells : (s : Sign) (t : Target) (p : Pt) → IsTarget t → IsOn s t p ↔ IsKept t (pos 0) s (scaled p)
kept_tells signs.Zero (targets.Line b d h) p is = (λ on. on, λ kept. kept)
kept_tells signs.Zero (targets.Circ o r) p is = (λ on. on, λ kept. kept)
kept_tells signs.Plus (targets.Line b d h) p is = rw (less_none h, one-times h, one-times b.x, one-times b.y) (λ on. on, λ kept. kept)
kept_tells signs.Minus (targets.Line b d h) p is = rw (more_none h, one-times h, one-times b.x, one-times b.y) (λ on. on, λ kept. kept)
kept_tells signs.Plus (targets.Circ o (pos r)) p is =
    let n = length_squared (displacement o p) in
    subst (λ (z : ℤ). (n ≤ r * r) ↔ IsUnder (about o) z (scaled p)) (sym (more_none (pos r))) (tells_under (n ≤ r * r) o p (pos r) (displacement o p) n refl refl (rw (not_negative r) (λ le. le, λ le. le)))
kept_tells signs.Minus (targets.Circ o (pos r)) p is =
    let n = length_squared (displacement o p) in
    subst (λ (z : ℤ). (r * r ≤ n) ↔ IsOver (about o) z (scaled p)) (sym (less_none (pos r))) (tells_over (r * r ≤ n) o p (pos r) (displacement o p) n refl refl (rw (not_negative r) (λ le. le, λ le. le)))
kept_tells signs.Plus (targets.Circ o (negsuc r)) p is = absurd (no_radius o r is)
kept_tells signs.Minus (targets.Circ o (negsuc r)) p is = absurd (no_radius o r is)

line_on_side : (s : Sign) (b : Pt) (d : Dir) (h : ℤ) (p : Pt) → s ≡ root_sign_of (cross d (displacement b p)) h (length_squared d) → s ≢ signs.Zero → IsOn s (targets.Line b d h) p
line_on_side signs.Zero b d h p e off = off refl
line_on_side signs.Plus b d h p e off = (root_sign_at_least (cross d (displacement b p)) h (length_squared d)).0 (λ f. cc)
line_on_side signs.Minus b d h p e off = (root_sign_at_most (cross d (displacement b p)) h (length_squared d)).0 (λ f. cc)

circle_on_side : (z : ℤ) (o : Pt) (r : ℤ) (p : Pt) → z ≡ pos (square r) -ℤ pos (length_squared (displacement o p)) → sign_of z ≢ signs.Zero → IsOn (sign_of z) (targets.Circ o r) p
circle_on_side (pos zero) o r p e off = off refl
circle_on_side (pos (suc n)) o r p e off = omega (arith, ints, e)
circle_on_side (negsuc n) o r p e off = omega (arith, ints, e)

on_side : (t : Target) (p : Pt) → side_of t p ≢ signs.Zero → IsOn (side_of t p) t p
on_side (targets.Line b d h) p off = line_on_side (root_sign_of (cross d (displacement b p)) h (length_squared d)) b d h p refl off
on_side (targets.Circ o r) p off = circle_on_side (pos (square r) -ℤ pos (length_squared (displacement o p))) o r p refl off

-- on both sides is near
near_between : (t : Target) (p : Pt) → IsTarget t → IsOn signs.Plus t p → IsOn signs.Minus t p → IsNearTarget t (pos 8) p
near_between (targets.Line b d h) p is plus minus =
    let k = cross d (displacement b p) in
    let n = length_squared d in record {
      right = at_least-weaker k h (h -ℤ pos 8) n (omega (arith, ints)) plus;
      left = at_least-weaker (neg_ℤ k) (neg_ℤ h) (neg_ℤ h -ℤ pos 8) n (omega (arith, ints)) minus;
    }
near_between (targets.Circ o (pos r)) p is plus minus =
    let less : pos r -ℤ pos 8 ≡ pos (r - 8) = omega (arith, ints, is.least) in record {
      outside = rw (less, not_negative (r - 8)) (omega (arith, minus, square_le (r - 8) r (omega arith)));
      inside = rw (not_negative (r + 8)) (omega (arith, plus));
    }
near_between (targets.Circ o (negsuc r)) p is plus minus = absurd (no_radius o r is)

one_side : (s u : Sign) (t : Target) (p : Pt) → IsOn s t p → IsOn u t p → (IsOn signs.Plus t p → IsOn signs.Minus t p → ⊥) → s ≡ u
one_side signs.Zero u t p on also apart = absurd on
one_side signs.Plus signs.Zero t p on also apart = absurd also
one_side signs.Minus signs.Zero t p on also apart = absurd also
one_side signs.Plus signs.Plus t p on also apart = refl
one_side signs.Minus signs.Minus t p on also apart = refl
one_side signs.Plus signs.Minus t p on also apart = absurd (apart on also)
one_side signs.Minus signs.Plus t p on also apart = absurd (apart also on)

side_tells : (t : Target) (p : Pt) (s : Sign) → IsTarget t → is_near t near_stop p ≡ false → ¬ IsNearTarget t (pos 8) p → (side_of t p ≡ s) ↔ IsKept t (pos 0) s (scaled p)
side_tells t p s is far off =
    let on = on_side t p (off_target t p is far) in
    let kept = kept_tells s t p is in
    (λ e. kept.0 (subst (λ (u : Sign). IsOn u t p) e on), λ k. one_side (side_of t p) s t p on (kept.1 k) (λ plus minus. off (near_between t p is plus minus)))

-- ---- both

by_near : (c : Course) (s : Sign) (near : Bool) → IsTarget c.stop → starts_near_stop c ≡ near → ((if near then headed_side c c.track c.stop else side_of c.stop c.start) ≡ s) ↔ RunsOn c s
by_near c s true is e =
    let at = (near_tells c.stop c.start is).0 e in
    let heads = headed_is c c.track c.stop in
    (λ same. record { far = λ off. absurd (off at); near = λ a. sym same ∙ heads }, λ runs. heads ∙ sym (runs.near at))
by_near c s false is e =
    let off : ¬ IsNearTarget c.stop (pos 8) c.start = λ at. true≢false (sym ((near_tells c.stop c.start is).1 at) ∙ e) in
    let side = side_tells c.stop c.start s is e off in
    (λ same. record { far = λ a. side.0 same; near = λ at. absurd (off at) }, λ runs. side.1 (runs.far off))

pub runs_exactly : (r : Sign) (c : Course) → IsTarget c.stop → r ≡ stop_side c → (s : Sign) → (r ≡ s) ↔ RunsOn c s
runs_exactly r c is e s = rw e (by_near c s (starts_near_stop c) is refl)
