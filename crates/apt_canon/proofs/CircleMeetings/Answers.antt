-- How the answers of line_circle and circle_circle are made, and what they tell.
use Rattle.std.proofs.Common.{refl, ◌≡◌, ◌≢◌, ◌↔◌, ℕ, ◌+◌, ◌*◌, ◌^◌, ◌≤◌, ◌<◌, ◌&&◌, Bool, true, false, subst, sym, ◌∙◌, arith, ℤ, pos, negsuc, neg_ℤ, ◌+ℤ◌, ◌-ℤ◌, ◌≤ℤ◌, unsigned_abs, ◌==◌, nat_le, Result, Err, IfOk, IsErrOf}
use Rattle.std.specs.Prelude.{if◌then◌else◌}
use Rattle.std.proofs.lemmas.Int.{ints}
use Rattle.std.proofs.lemmas.Bool.Decides.{nat_tests}
use Rattle.std.proofs.lemmas.Bool.{le-leb, leb-true, and_parts}
use Rattle.apt_num.specs.Sign.{square, is_at_least}
use Rattle.apt_num.proofs.Testing.{is_at_least-true, is_at_least-from}
use Rattle.apt_plane.specs.declared.figures.Pt.{Pt}
use Rattle.apt_plane.specs.declared.figures.Line.{Line}
use Rattle.apt_plane.specs.declared.figures.Moved.{Moved}
use Rattle.apt_plane.specs.declared.figures.Circ.{Circ}
use Rattle.apt_plane.specs.Vectors.{displacement, cross, length_squared}
use Rattle.apt_plane.specs.Ranges.{IsPoint, IsDir, IsLine, IsMoved, IsRound, IsSense}
use Rattle.apt_plane.proofs.Displacements.{no_way}
use Rattle.apt_canon.specs.declared.FormFault.{FormFault}
use Rattle.apt_canon.specs.declared.FormFault.TheVariants.{NoMeeting, Degenerate}
use Rattle.apt_canon.specs.Scale.{in_range, IsNearLine, IsNearCircle}
use Rattle.apt_canon.specs.Circles.{DoMeet, IsFurther, IsBeyond, reaches, line_circle, line_circle_point, are_concentric, overlap, chord_depth, circle_circle, circle_circle_point}
use Rattle.apt_canon.proofs.Fits.{if_fits, in_range-IsPoint, no_other_fault}
use Rattle.apt_canon.proofs.Ways.{one_point, way-IsDir}
use Rattle.apt_canon.proofs.CircleMeetings.Across.{point_further, point_beyond}
use Rattle.apt_canon.proofs.CircleMeetings.LineCircle.{point_on_line, point_on_circle}
use Rattle.apt_canon.proofs.CircleMeetings.CircleCircle.{TwoCircles, chord_within, point_on_first, point_on_second}

-- ---- a line and a circle

reaches-true : (l : Line) (h : ℤ) (c : Circ) → reaches l h c ≡ true → IsNearLine l h c.r c.c
reaches-true l h c e =
    let k = cross l.dir (displacement l.base c.c) in
    let n = length_squared l.dir in
    let both = and_parts (is_at_least k (h -ℤ c.r) n) (is_at_least (neg_ℤ k) (neg_ℤ h -ℤ c.r) n) e in
    record { right = is_at_least-true k (h -ℤ c.r) n both.0; left = is_at_least-true (neg_ℤ k) (neg_ℤ h -ℤ c.r) n both.1 }

reaches-from : (l : Line) (h : ℤ) (c : Circ) → IsNearLine l h c.r c.c → reaches l h c ≡ true
reaches-from l h c near =
    let k = cross l.dir (displacement l.base c.c) in
    let n = length_squared l.dir in
    rw (is_at_least-from k (h -ℤ c.r) n near.right, is_at_least-from (neg_ℤ k) (neg_ℤ h -ℤ c.r) n near.left) refl

-- either it is told, or it is not so
data Tells (test : Bool) (P : Type 0) : Type 0 where
  Holds : test ≡ true → P → Tells test P
  Fails : test ≡ false → (P → ⊥) → Tells test P

tells : (test : Bool) (P : Type 0) → (test ≡ true → P) → (P → test ≡ true) → Tells test P
tells true P to from = Holds refl (to refl)
tells false P to from = Fails refl (λ p. let never = from p in absurd (cc))

reaches-tells : (l : Line) (h : ℤ) (c : Circ) → Tells (reaches l h c) (IsNearLine l h c.r c.c)
reaches-tells l h c = tells (reaches l h c) (IsNearLine l h c.r c.c) (reaches-true l h c) (reaches-from l h c)

not_met : (test : Bool) (P : Type 0) (p : Pt) → Tells test P → IsErrOf (if test then in_range p else Err NoMeeting) NoMeeting ↔ (P → ⊥)
not_met test P p (Holds e is) = rw e (λ h. absurd (no_other_fault p NoMeeting (λ f. cc) h), λ d. absurd (d is))
not_met test P p (Fails e d) = rw e (λ h. d, λ h. refl)

met : (test : Bool) (P : Type 0) (Q : Pt → Type 0) (p : Pt) → Tells test P → (P → Q p) → IfOk (if test then in_range p else Err NoMeeting) Q
met test P Q p (Holds e is) h = rw e (if_fits Q p (λ at. h is))
met test P Q p (Fails e d) h = rw e tt

ranged : (test : Bool) (p : Pt) → IfOk (if test then in_range p else Err NoMeeting) (λ q. IsPoint q)
ranged true p = in_range-IsPoint p
ranged false p = tt

plain_radius : (c : Circ) → IsRound c → c.r ≡ pos (unsigned_abs c.r)
plain_radius c is = omega (arith, ints, is.least)

radius_most : (c : Circ) → IsRound c → unsigned_abs c.r ≤ 10 ^ 8
radius_most c is = omega (arith, ints, is.least, is.most)

pub on_line : (l : Moved) (c : Circ) (sigma : ℤ) → IsMoved l → IsRound c → IsNearLine l.line l.off c.r c.c
    → IsNearLine l.line l.off (pos 1) (line_circle_point l.line l.off c sigma)
on_line l c sigma is round near =
    let plain = plain_radius c round in
    point_on_line l.line l.off c sigma (unsigned_abs c.r) plain (radius_most c round) is.line is.off (subst (λ (z : ℤ). IsNearLine l.line l.off z c.c) plain near)

pub on_circle : (l : Moved) (c : Circ) (sigma : ℤ) → IsMoved l → IsRound c → IsSense sigma → IsNearLine l.line l.off c.r c.c
    → IsNearCircle c (pos 1) (line_circle_point l.line l.off c sigma)
on_circle l c sigma is round sense near =
    let plain = plain_radius c round in
    point_on_circle l.line l.off c sigma (unsigned_abs c.r) plain (radius_most c round) sense is.line is.off (subst (λ (z : ℤ). IsNearLine l.line l.off z c.c) plain near)

-- as line_circle says it
pub answer_no_meeting : (r : Result Pt FormFault) (l : Moved) (c : Circ) (sigma : ℤ) → r ≡ line_circle l.line l.off c sigma → IsErrOf r NoMeeting ↔ ¬ IsNearLine l.line l.off c.r c.c
answer_no_meeting r l c sigma e =
    rw e (not_met (reaches l.line l.off c) (IsNearLine l.line l.off c.r c.c) (line_circle_point l.line l.off c sigma) (reaches-tells l.line l.off c))

pub answer_in_range : (r : Result Pt FormFault) (l : Moved) (c : Circ) (sigma : ℤ) → r ≡ line_circle l.line l.off c sigma → IfOk r (λ p. IsPoint p)
answer_in_range r l c sigma e = rw e (ranged (reaches l.line l.off c) (line_circle_point l.line l.off c sigma))

pub answer_on_line : (r : Result Pt FormFault) (l : Moved) (c : Circ) (sigma : ℤ) → IsMoved l → IsRound c → r ≡ line_circle l.line l.off c sigma
    → IfOk r (λ p. IsNearLine l.line l.off (pos 1) p)
answer_on_line r l c sigma is round e =
    rw e (met (reaches l.line l.off c) (IsNearLine l.line l.off c.r c.c) (IsNearLine l.line l.off (pos 1)) (line_circle_point l.line l.off c sigma) (reaches-tells l.line l.off c) (on_line l c sigma is round))

pub answer_on_circle : (r : Result Pt FormFault) (l : Moved) (c : Circ) (sigma : ℤ) → IsMoved l → IsRound c → IsSense sigma → r ≡ line_circle l.line l.off c sigma
    → IfOk r (λ p. IsNearCircle c (pos 1) p)
answer_on_circle r l c sigma is round sense e =
    rw e (met (reaches l.line l.off c) (IsNearLine l.line l.off c.r c.c) (IsNearCircle c (pos 1)) (line_circle_point l.line l.off c sigma) (reaches-tells l.line l.off c) (on_circle l c sigma is round sense))

pub answer_further : (r : Result Pt FormFault) (l : Line) (h : ℤ) (c : Circ) (sigma : ℤ) → IsLine l → IsSense sigma → r ≡ line_circle l h c sigma
    → IfOk r (λ p. IsFurther l c sigma p)
answer_further r l h c sigma is sense e =
    rw e (met (reaches l h c) (IsNearLine l h c.r c.c) (IsFurther l c sigma) (line_circle_point l h c sigma) (reaches-tells l h c) (λ near. point_further l h c sigma is sense))

-- ---- two circles

zero-true : (n : ℕ) → (n == 0) ≡ true → n ≤ 0
zero-true n e = grind (arith, nat_tests)

zero-fails : (n : ℕ) → 0 < n → (n == 0) ≡ false
zero-fails n h = grind (arith, nat_tests)

zero-from : (n : ℕ) → n ≡ 0 → (n == 0) ≡ true
zero-from n e = rw e refl

concentric-tells : (a b : Circ) → Tells (are_concentric a b) (a.c ≡ b.c)
concentric-tells a b =
    tells (are_concentric a b) (a.c ≡ b.c)
    (λ e. one_point a.c b.c (zero-true (length_squared (displacement a.c b.c)) e))
    (λ e. zero-from (length_squared (displacement a.c b.c)) (no_way a.c b.c e))

overlap-true : (a b : Circ) → overlap a b ≡ true → DoMeet a b
overlap-true a b e =
    let n = length_squared (displacement a.c b.c) in
    let both = and_parts (nat_le (square (a.r -ℤ b.r)) n) (nat_le n (square (a.r +ℤ b.r))) e in
    record { inside = leb-true (square (a.r -ℤ b.r)) n both.0; outside = leb-true n (square (a.r +ℤ b.r)) both.1 }

overlap-from : (a b : Circ) → DoMeet a b → overlap a b ≡ true
overlap-from a b is =
    let n = length_squared (displacement a.c b.c) in
    rw (le-leb (square (a.r -ℤ b.r)) n is.inside, le-leb n (square (a.r +ℤ b.r)) is.outside) refl

overlap-tells : (a b : Circ) → Tells (overlap a b) (DoMeet a b)
overlap-tells a b = tells (overlap a b) (DoMeet a b) (overlap-true a b) (overlap-from a b)

-- the answer by both tests
abbrev answer_by : Bool → Bool → Pt → Result Pt FormFault
answer_by same meets p = if same then Err Degenerate else (if meets then in_range p else Err NoMeeting)

by_same : (same meets : Bool) (P : Type 0) (p : Pt) → Tells same P → IsErrOf (answer_by same meets p) Degenerate ↔ P
by_same same meets P p (Holds e is) = rw e (λ h. is, λ h. refl)
by_same same true P p (Fails e d) = rw e (λ h. absurd (no_other_fault p Degenerate (λ f. cc) h), λ is. absurd (d is))
by_same same false P p (Fails e d) = rw e (λ h. absurd (cc), λ is. absurd (d is))

by_meeting : (same meets : Bool) (P Q : Type 0) (p : Pt) → Tells same P → Tells meets Q → IsErrOf (answer_by same meets p) NoMeeting ↔ ((P → ⊥) × (Q → ⊥))
by_meeting same meets P Q p (Holds e is) second = rw e (λ h. absurd (cc), λ d. absurd (d.0 is))
by_meeting same meets P Q p (Fails e d) (Holds f is) = rw (e, f) (λ h. absurd (no_other_fault p NoMeeting (λ g. cc) h), λ both. absurd (both.1 is))
by_meeting same meets P Q p (Fails e d) (Fails f g) = rw (e, f) (λ h. (d, g), λ both. refl)

by_point : (same meets : Bool) (P Q : Type 0) (R : Pt → Type 0) (p : Pt) → Tells same P → Tells meets Q → ((P → ⊥) → Q → R p) → IfOk (answer_by same meets p) R
by_point same meets P Q R p (Holds e is) second h = rw e tt
by_point same meets P Q R p (Fails e d) (Holds f is) h = rw (e, f) (if_fits R p (λ at. h d is))
by_point same meets P Q R p (Fails e d) (Fails f g) h = rw (e, f) tt

in_range-by : (same meets : Bool) (p : Pt) → IfOk (answer_by same meets p) (λ q. IsPoint q)
in_range-by true meets p = tt
in_range-by false true p = in_range-IsPoint p
in_range-by false false p = tt

sum_inside : (r q : ℤ) (n : ℕ) → pos 0 ≤ℤ r → pos 0 ≤ℤ q → n ≤ square (r +ℤ q) → n ≤ (unsigned_abs r + unsigned_abs q) * (unsigned_abs r + unsigned_abs q)
sum_inside (pos r) (pos q) n is_r is_q h = h
sum_inside (negsuc r) q n is_r is_q h = absurd (omega (arith, ints))
sum_inside (pos r) (negsuc q) n is_r is_q h = absurd (omega (arith, ints))

pub two_circles : (a b : Circ) → IsRound a → IsRound b → pos 100 ≤ℤ a.r → pos 100 ≤ℤ b.r → IsDir (displacement a.c b.c) → DoMeet a b
    → TwoCircles a b (unsigned_abs a.r) (unsigned_abs b.r)
two_circles a b is_a is_b large_a large_b way meet =
    let plain_a = plain_radius a is_a in
    let plain_b = plain_radius b is_b in
    record {
      first = plain_a;
      second = plain_b;
      first_least = omega (arith, ints, large_a);
      first_most = radius_most a is_a;
      second_least = omega (arith, ints, large_b);
      second_most = radius_most b is_b;
      way = way;
      inside = rw (← plain_a, ← plain_b) meet.inside;
      outside = sum_inside (a.r) (b.r) (length_squared (displacement a.c b.c)) is_a.least is_b.least meet.outside;
    }

pub within_chord : (a b : Circ) → IsRound a → IsRound b → pos 100 ≤ℤ a.r → pos 100 ≤ℤ b.r → IsDir (displacement a.c b.c) → DoMeet a b → unsigned_abs (chord_depth a b) ≤ 2 ^ 57
within_chord a b is_a is_b large_a large_b way meet =
    omega (arith, chord_within a b (unsigned_abs a.r) (unsigned_abs b.r) (two_circles a b is_a is_b large_a large_b way meet), radius_most a is_a)

pub on_first : (a b : Circ) (sigma : ℤ) → IsRound a → IsRound b → pos 100 ≤ℤ a.r → pos 100 ≤ℤ b.r → IsSense sigma → a.c ≢ b.c → DoMeet a b
    → IsNearCircle a (pos 1) (circle_circle_point a b sigma)
on_first a b sigma is_a is_b large_a large_b sense apart meet =
    point_on_first a b sigma (unsigned_abs a.r) (unsigned_abs b.r)
    (two_circles a b is_a is_b large_a large_b (way-IsDir a.c b.c is_a.centre is_b.centre apart) meet) sense

pub on_second : (a b : Circ) (sigma : ℤ) → IsRound a → IsRound b → pos 100 ≤ℤ a.r → pos 100 ≤ℤ b.r → IsSense sigma → a.c ≢ b.c → DoMeet a b
    → IsNearCircle b (pos 1) (circle_circle_point a b sigma)
on_second a b sigma is_a is_b large_a large_b sense apart meet =
    point_on_second a b sigma (unsigned_abs a.r) (unsigned_abs b.r)
    (two_circles a b is_a is_b large_a large_b (way-IsDir a.c b.c is_a.centre is_b.centre apart) meet) sense

pub beyond : (a b : Circ) (sigma : ℤ) → IsPoint a.c → IsPoint b.c → IsSense sigma → a.c ≢ b.c → IsBeyond a b sigma (circle_circle_point a b sigma)
beyond a b sigma is_a is_b sense apart = point_beyond a b sigma (way-IsDir a.c b.c is_a is_b apart) sense

-- as circle_circle says it
pub answer_concentric : (r : Result Pt FormFault) (a b : Circ) (sigma : ℤ) → r ≡ circle_circle a b sigma → IsErrOf r Degenerate ↔ (a.c ≡ b.c)
answer_concentric r a b sigma e =
    rw e (by_same (are_concentric a b) (overlap a b) (a.c ≡ b.c) (circle_circle_point a b sigma) (concentric-tells a b))

pub answer_apart : (r : Result Pt FormFault) (a b : Circ) (sigma : ℤ) → r ≡ circle_circle a b sigma → IsErrOf r NoMeeting ↔ ((a.c ≢ b.c) × ¬ DoMeet a b)
answer_apart r a b sigma e =
    rw e (by_meeting (are_concentric a b) (overlap a b) (a.c ≡ b.c) (DoMeet a b) (circle_circle_point a b sigma) (concentric-tells a b) (overlap-tells a b))

pub answer_point : (r : Result Pt FormFault) (a b : Circ) (sigma : ℤ) → r ≡ circle_circle a b sigma → IfOk r (λ p. IsPoint p)
answer_point r a b sigma e = rw e (in_range-by (are_concentric a b) (overlap a b) (circle_circle_point a b sigma))

pub answer_on_first : (r : Result Pt FormFault) (a b : Circ) (sigma : ℤ) → IsRound a → IsRound b → pos 100 ≤ℤ a.r → pos 100 ≤ℤ b.r → IsSense sigma → r ≡ circle_circle a b sigma
    → IfOk r (λ p. IsNearCircle a (pos 1) p)
answer_on_first r a b sigma is_a is_b large_a large_b sense e =
    rw e (by_point (are_concentric a b) (overlap a b) (a.c ≡ b.c) (DoMeet a b) (IsNearCircle a (pos 1)) (circle_circle_point a b sigma) (concentric-tells a b) (overlap-tells a b) (on_first a b sigma is_a is_b large_a large_b sense))

pub answer_on_second : (r : Result Pt FormFault) (a b : Circ) (sigma : ℤ) → IsRound a → IsRound b → pos 100 ≤ℤ a.r → pos 100 ≤ℤ b.r → IsSense sigma → r ≡ circle_circle a b sigma
    → IfOk r (λ p. IsNearCircle b (pos 1) p)
answer_on_second r a b sigma is_a is_b large_a large_b sense e =
    rw e (by_point (are_concentric a b) (overlap a b) (a.c ≡ b.c) (DoMeet a b) (IsNearCircle b (pos 1)) (circle_circle_point a b sigma) (concentric-tells a b) (overlap-tells a b) (on_second a b sigma is_a is_b large_a large_b sense))

pub answer_beyond : (r : Result Pt FormFault) (a b : Circ) (sigma : ℤ) → IsPoint a.c → IsPoint b.c → IsSense sigma → r ≡ circle_circle a b sigma
    → IfOk r (λ p. IsBeyond a b sigma p)
answer_beyond r a b sigma is_a is_b sense e =
    rw e (by_point (are_concentric a b) (overlap a b) (a.c ≡ b.c) (DoMeet a b) (IsBeyond a b sigma) (circle_circle_point a b sigma) (concentric-tells a b) (overlap-tells a b) (λ apart meet. beyond a b sigma is_a is_b sense apart))

-- as its tests say it
pub tested_meeting : (a b : Circ) (n : ℕ) (test : Bool) → n ≡ length_squared (displacement a.c b.c) → test ≡ (nat_le (square (a.r -ℤ b.r)) n && nat_le n (square (a.r +ℤ b.r)))
    → test ≡ true → DoMeet a b
tested_meeting a b n test e f h = overlap-true a b (sym (f ∙ rw e refl) ∙ h)

pub meeting_answer : (a b : Circ) (n : ℕ) (test : Bool) (sigma : ℤ) → 0 < n → n ≡ length_squared (displacement a.c b.c)
    → test ≡ (nat_le (square (a.r -ℤ b.r)) n && nat_le n (square (a.r +ℤ b.r))) → test ≡ true → in_range (circle_circle_point a b sigma) ≡ circle_circle a b sigma
meeting_answer a b n test sigma positive e f h =
    let apart : are_concentric a b ≡ false = zero-fails (length_squared (displacement a.c b.c)) (rw e at positive) in
    rw (apart, overlap-from a b (tested_meeting a b n test e f h)) refl
