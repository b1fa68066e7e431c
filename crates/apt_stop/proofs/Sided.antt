-- A course that leads to its stop runs on a side of it.
use Rattle.std.proofs.Common.{refl, ◌≡◌, ◌≢◌, ◌∙◌, sym, ℕ, zero, suc, arith, inl, inr, Bool, true, false, ◌&&◌, ℤ, pos, negsuc, ◌-ℤ◌, ◌+ℤ◌, ◌*ℤ◌, ◌≤ℤ◌, neg_ℤ, unsigned_abs, Option, Some, None}
use Rattle.std.specs.Prelude.{if◌then◌else◌, ◌||◌, nat_le, int_le}
use Rattle.std.proofs.lemmas.Int.{ints}
use Rattle.std.proofs.lemmas.Bool.{le-leb}
use Rattle.apt_num.specs.declared.Sign.{Sign}
use Rattle.apt_num.specs.declared.Sign.TheVariants as signs
use Rattle.apt_num.specs.Sign.{sign_of, is_minus, square, root_sign_of, is_at_least}
use Rattle.apt_num.proofs.AtLeast.{root_sign_at_least, root_sign_at_most}
use Rattle.apt_num.proofs.Squares.{square_le}
use Rattle.apt_num.proofs.Sums.{at_least-weaker}
use Rattle.apt_num.proofs.Testing.{is_at_least-from}
use Rattle.apt_plane.specs.declared.figures.Pt.{Pt}
use Rattle.apt_plane.specs.Ranges.{IsSense}
use Rattle.apt_plane.specs.Vectors.{displacement, cross, dot, length_squared}
use Rattle.apt_plane.proofs.Heights.{one-times}
use Rattle.apt_plane.proofs.Turned.{minus-times}
use Rattle.apt_offset.specs.declared.Target.{Target}
use Rattle.apt_offset.specs.declared.Target.TheVariants as targets
use Rattle.apt_offset.specs.Ranges.{IsTarget}
use Rattle.apt_stop.specs.declared.course.Course.{Course}
use Rattle.apt_stop.specs.Nearness.{is_near, side_of, heading, near_stop}
use Rattle.apt_stop.specs.Courses.{headed_side, stop_side, starts_near_stop}
use Rattle.apt_stop.specs.Choices.{is_same, is_past, is_not_ahead, is_by_axis, way_on_to}
use Rattle.apt_stop.specs.Steps.{IsPlaced, HasSide, far_side, side_from, past_from}

-- ---- the steps come to the definitions

side_by : (near : Bool) (headed side : Sign) (c : Course) → headed ≡ headed_side c c.track c.stop → side_from c (if near then None else Some side) ≡ (if near then headed else side)
side_by true headed side c e = sym e
side_by false headed side c e = refl

pub side_is : (c : Course) → side_from c (far_side c.stop c.start) ≡ stop_side c
side_is c = side_by (starts_near_stop c) (headed_side c c.track c.stop) (side_of c.stop c.start) c refl

line_by : (near b : Bool) → (side : Sign) → (f : Option Sign → Bool) → f None ≡ true → f (Some side) ≡ b → f (if near then None else Some side) ≡ (near || b)
line_by true b side f none some = none
line_by false b side f none some = some

both_by : (near a b : Bool) → (side : Sign) → (f : Option Sign → Bool) → f None ≡ a → f (Some side) ≡ b → f (if near then None else Some side) ≡ (if near then a else b)
both_by true a b side f none some = none
both_by false a b side f none some = some

near_by : (near a : Bool) → (side : Sign) → (f : Option Sign → Bool) → f None ≡ a → f (Some side) ≡ false → f (if near then None else Some side) ≡ (near && a)
near_by true a side f none some = none
near_by false a side f none some = some

pub past_is : (c : Course) (t s : Target) → past_from c t s (far_side c.stop c.start) ≡ is_past c t s
past_is c (targets.Line b d h) (targets.Line e f k) =
    line_by (starts_near_stop c) (is_same (side_of c.stop c.start) (sign_of (cross f (heading c.sense d)))) (side_of c.stop c.start)
    (past_from c (targets.Line b d h) (targets.Line e f k)) refl refl
past_is c (targets.Line b d h) (targets.Circ o r) =
    both_by (starts_near_stop c) (is_not_ahead (way_on_to c d o) (length_squared d)) (is_minus (side_of c.stop c.start) && int_le (way_on_to c d o) (pos 0)) (side_of c.stop c.start)
    (past_from c (targets.Line b d h) (targets.Circ o r)) refl refl
past_is c (targets.Circ o r) (targets.Line e f k) =
    near_by (starts_near_stop c) (is_by_axis (dot (displacement o c.start) f) (length_squared f)) (side_of c.stop c.start)
    (past_from c (targets.Circ o r) (targets.Line e f k)) refl refl
past_is c (targets.Circ o r) (targets.Circ q s) =
    near_by (starts_near_stop c) (is_by_axis (cross (displacement o c.start) (displacement o q)) (length_squared (displacement o q))) (side_of c.stop c.start)
    (past_from c (targets.Circ o r) (targets.Circ q s)) refl refl

-- ---- from afar

apart : true ≡ false → ⊥
apart e = cc

not_minus : (s : Sign) → s ≡ signs.Zero → s ≢ signs.Minus
not_minus s e f = cc

not_plus : (s : Sign) → s ≡ signs.Zero → s ≢ signs.Plus
not_plus s e f = cc

off_line : (k h : ℤ) (n : ℕ) → (is_at_least k (h -ℤ near_stop) n && is_at_least (neg_ℤ k) (neg_ℤ h -ℤ near_stop) n) ≡ false → root_sign_of k h n ≢ signs.Zero
off_line k h n far on =
    let least = (root_sign_at_least k h n).0 (not_minus (root_sign_of k h n) on) in
    let most = (root_sign_at_most k h n).0 (not_plus (root_sign_of k h n) on) in
    let right = is_at_least-from k (h -ℤ near_stop) n (at_least-weaker k h (h -ℤ near_stop) n (omega (arith, ints)) least) in
    let left = is_at_least-from (neg_ℤ k) (neg_ℤ h -ℤ near_stop) n (at_least-weaker (neg_ℤ k) (neg_ℤ h) (neg_ℤ h -ℤ near_stop) n (omega (arith, ints)) most) in
    apart (rw (right, left) at far)

zero_alone : (z : ℤ) → sign_of z ≡ signs.Zero → z ≡ pos 0
zero_alone (pos zero) e = refl
zero_alone (pos (suc n)) e = absurd cc
zero_alone (negsuc n) e = absurd cc

off_circle : (r : ℤ) (n : ℕ) → pos 100 ≤ℤ r → (nat_le (square (r -ℤ near_stop)) n && nat_le n (square (r +ℤ near_stop))) ≡ false → sign_of (pos (square r) -ℤ pos n) ≢ signs.Zero
off_circle r n least far on =
    let same : n ≡ square r = omega (arith, ints, zero_alone (pos (square r) -ℤ pos n) on) in
    let inside = le-leb (square (r -ℤ near_stop)) n (rw same (square_le (unsigned_abs (r -ℤ near_stop)) (unsigned_abs r) (omega (arith, ints)))) in
    let outside = le-leb n (square (r +ℤ near_stop)) (rw same (square_le (unsigned_abs r) (unsigned_abs (r +ℤ near_stop)) (omega (arith, ints)))) in
    apart (rw (inside, outside) at far)

pub off_target : (t : Target) (p : Pt) → IsTarget t → is_near t near_stop p ≡ false → side_of t p ≢ signs.Zero
off_target (targets.Line b d h) p is far = off_line (cross d (displacement b p)) h (length_squared d) far
off_target (targets.Circ c r) p is far = off_circle r (length_squared (displacement c p)) is.least far

-- ---- near it

ahead_zero : (k : ℤ) (n : ℕ) → k ≡ pos 0 → is_not_ahead k n ≡ true
ahead_zero k n e = rw e (is_at_least-from (pos 0) (negsuc 7) n tt)

axis_zero : (k : ℤ) (n : ℕ) → k ≡ pos 0 → is_by_axis k n ≡ true
axis_zero k n e = rw (e, is_at_least-from (pos 0) (negsuc 7) n tt) refl

pub no_turn : (s k : ℤ) → IsSense s → s *ℤ k ≡ pos 0 → k ≡ pos 0
no_turn s k is none = elim is [
  | inl e ↦ omega (arith, ints, rw (e, one-times k) at none)
  | inr e ↦ omega (arith, ints, rw (e, minus-times k) at none)
]

ahead : (k : ℤ) (n : ℕ) → is_not_ahead k n ≡ false → sign_of k ≢ signs.Zero
ahead k n far on = apart (sym (ahead_zero k n (zero_alone k on)) ∙ far)

aside : (s k : ℤ) (n : ℕ) → IsSense s → is_by_axis k n ≡ false → sign_of (s *ℤ k) ≢ signs.Zero
aside s k n is far on = apart (sym (axis_zero k n (no_turn s k is (zero_alone (s *ℤ k) on))) ∙ far)

headed : (c : Course) (t s : Target) → IsSense c.sense → past_from c t s None ≡ false → headed_side c t s ≢ signs.Zero
headed c (targets.Line b d h) (targets.Line e f k) is far = absurd (apart far)
headed c (targets.Line b d h) (targets.Circ o r) is far = ahead (way_on_to c d o) (length_squared d) far
headed c (targets.Circ o r) (targets.Line e f k) is far = aside c.sense (dot (displacement o c.start) f) (length_squared f) is far
headed c (targets.Circ o r) (targets.Circ q s) is far = aside c.sense (cross (displacement o c.start) (displacement o q)) (length_squared (displacement o q)) is far

-- ---- both

by_near : (c : Course) (near : Bool) (side : Sign) → (near ≡ false → side ≢ signs.Zero) → IsSense c.sense → past_from c c.track c.stop (if near then None else Some side) ≡ false
    → (if near then headed_side c c.track c.stop else side) ≢ signs.Zero
by_near c true side off is far = headed c c.track c.stop is far
by_near c false side off is far = off refl

pub sided : (c : Course) → IsPlaced c → is_past c c.track c.stop ≡ false → stop_side c ≢ signs.Zero
sided c is far =
    by_near c (starts_near_stop c) (side_of c.stop c.start) (off_target c.stop c.start is.stop) is.sense (past_is c c.track c.stop ∙ far)

for_targets : (t s : Target) (side : Sign) → side ≢ signs.Zero → HasSide t s side
for_targets (targets.Line b d h) (targets.Line e f k) side is = tt
for_targets (targets.Line b d h) (targets.Circ o r) side is = is
for_targets (targets.Circ o r) (targets.Line e f k) side is = is
for_targets (targets.Circ o r) (targets.Circ q s) side is = is

pub has_side : (c : Course) → IsPlaced c → is_past c c.track c.stop ≡ false → HasSide c.track c.stop (stop_side c)
has_side c is far = for_targets c.track c.stop (stop_side c) (sided c is far)
