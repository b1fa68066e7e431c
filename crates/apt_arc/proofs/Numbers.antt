-- A piece has no more vertices than the length of its chord tells.
use Rattle.std.proofs.Common.{refl, ◌≡◌, inl, inr, ℕ, zero, suc, ◌+◌, ◌-◌, ◌*◌, ◌^◌, ◌≤◌, ◌<◌, ap, sym, subst, arith, min, false, List, ◌++◌, length, ℤ, ◌-ℤ◌, unsigned_abs}
use Rattle.std.specs.Prelude.{nat_le}
use Rattle.std.proofs.Math.Nat.{mul-le-mul_left}
use Rattle.std.proofs.lemmas.List.{length-append}
use Rattle.std.proofs.lemmas.Bool.{cases_Bool, cases_lt, lt-leb, le-leb}
use Rattle.apt_num.proofs.Squares.{four_le}
use Rattle.apt_num.proofs.RootLaws.{less_one}
use Rattle.apt_plane.specs.declared.figures.Pt.{Pt}
use Rattle.apt_plane.specs.declared.figures.Dir.{Dir}
use Rattle.apt_plane.specs.declared.figures.Circ.{Circ}
use Rattle.apt_plane.specs.Vectors.{between, displacement, displacement_to, length_squared}
use Rattle.apt_plane.specs.Ranges.{IsSense}
use Rattle.apt_plane.proofs.Displacements.{stewart}
use Rattle.apt_plane.proofs.Lengths.{chord}
use Rattle.apt_canon.specs.Scale.{sum}
use Rattle.apt_arc.specs.declared.arc.Arc.{Arc}
use Rattle.apt_arc.specs.Ranges.{IsTrack, IsSag, IsPiece}
use Rattle.apt_arc.specs.Cuts.{middle}
use Rattle.apt_arc.specs.Made.{is_clear, is_over, pieces, first_past, vertices, divided}
use Rattle.apt_arc.specs.Bounds.{shorter, number, nearest, clear_length}
use Rattle.apt_arc.proofs.Clear.{near_point}
use Rattle.apt_arc.proofs.Lists.{pieces_none, pieces_clear, pieces_cut}
use Rattle.apt_arc.proofs.Halved.{power_half, whole_is}
use Rattle.apt_arc.proofs.Shorter.{IsHalfOf, halves_short, half_shorter}
use Rattle.apt_arc.proofs.Tracks.{within, radius_is, within_large, size_of_radius, nearby, span, middle_dir, aimed, sag_parts, far_ends, open_over, is_long, half_pieces, half_lengths, chord_length, far_chord, wide, sag_least}

-- ---- what is not clear is long
open_core : (D A B X j k q e : ℕ) → j * k * D + X ≡ (j + k) * (k * A + j * B) → q * q + e ≤ A → q * q + e ≤ B → X < (j + k) * (j + k) * (q * q) → 4 * e < D
open_core D A B X j k q e stewart a b near = elim (cases_lt (4 * e) D) [
  | inl past ↦ past
  | inr small ↦
      absurd (omega (arith, stewart, near, mul-le-mul_left ((j + k) * k) a, mul-le-mul_left ((j + k) * j) b, mul-le-mul_left (j * k) small, mul-le-mul_left e (four_le j k)))
]

above_square : (l n q : ℕ) → l ≤ n → q * q ≤ n → q * q + (l - q * q) ≤ n
above_square l n q h g = omega (arith, h, g)

open_long : (t : Circ) (sag sense : ℤ) (a b : Pt) (l : ℕ) → IsTrack t → IsSag t sag → IsPiece t sense a b → is_clear t sag a b ≡ false
    → l ≤ length_squared (displacement t.c a) → l ≤ length_squared (displacement t.c b)
    → 4 * (l - unsigned_abs (t.r -ℤ sag) * unsigned_abs (t.r -ℤ sag)) < length_squared (displacement a b)
open_long t sag sense a b l is fits parts off low_a low_b =
    let p = within t in
    let A = length_squared (displacement t.c a) in
    let B = length_squared (displacement t.c b) in
    let split = sag_parts t.r sag p (radius_is t is) fits.least fits.most in
    let q = split.0 in
    let v = split.1 in
    let far_a : q * q ≤ A = far_ends p q v A split.4 (nearby t a is parts.start).low in
    let far_b : q * q ≤ B = far_ends p q v B split.4 (nearby t b is parts.end).low in
    let point = near_point t.c q a b far_a far_b (subst (λ (z : ℤ). is_over t.c z a b ≡ false) split.2 (open_over t sag a b off)) in
    subst (λ (z : ℤ). 4 * (l - unsigned_abs z * unsigned_abs z) < length_squared (displacement a b)) (sym split.2)
    (open_core (length_squared (displacement a b)) A B (length_squared (displacement_to t.c (between a b point.0 point.1))) point.0 point.1 q (l - q * q) (stewart t.c a b point.0 point.1)
    (above_square l A q low_a far_a) (above_square l B q low_b far_b) point.2)

-- ---- the point half way is not far inside
middle_core : (p l m : ℕ) → 97 ≤ p → l ≤ (p + 2) * (p + 2) → 2 * ((p + 3) * (p + 3)) ≤ 2 * m + 3 * (p + 3) → l ≤ m
middle_core p l m least h low = omega (arith, h, low, least)

middle_far : (t : Circ) (sense : ℤ) (a b : Pt) (l : ℕ) → IsTrack t → IsPiece t sense a b → l ≤ (within t + 2) * (within t + 2) → l ≤ length_squared (displacement t.c (middle t a b))
middle_far t sense a b l is parts h =
    middle_core (within t) l (length_squared (displacement t.c (middle t a b))) (within_large t is) h (aimed t (sum (displacement t.c a) (displacement t.c b)) is (middle_dir t sense a b is parts)).low

-- ---- the halves of a piece that is not clear are shorter
same_half : (p n m d e : ℕ) → n ≡ m → d ≡ e → IsHalfOf p d n → IsHalfOf p e m
same_half p n m d e f g h = rw (sym f, sym g) h

third_less : (n d r : ℕ) → 3 * n ≤ d + 12 * r → 32 * r < d → n ≤ d
third_less n d r h g = omega (arith, h, g)

halves_less : (t : Circ) (sag sense : ℤ) (a b : Pt) (d : ℕ) → IsTrack t → IsSag t sag → IsPiece t sense a b → is_clear t sag a b ≡ false → length_squared (displacement a b) ≤ d
    → (length_squared (displacement a (middle t a b)) ≤ shorter (unsigned_abs t.r) d) × (length_squared (displacement (middle t a b) b) ≤ shorter (unsigned_abs t.r) d)
halves_less t sag sense a b d is fits parts off less =
    let p = within t in
    let va = displacement t.c a in
    let vb = displacement t.c b in
    let m = middle t a b in
    let vm = displacement t.c m in
    let D = length_squared (displacement a b) in
    let whole = chord_length t.c a b in
    let far : 32 * (p + 3) < D = wide (unsigned_abs sag) (p + 3) D (sag_least sag fits.least) (is_long t sag sense a b is fits parts off) in
    let thirds = half_lengths t sag sense a b is fits parts off in
    let both = halves_short p sense va vb vm (within_large t is) (span t sense a b is parts) (far_chord t sag sense a b is fits parts off) (aimed t (sum va vb) is (middle_dir t sense a b is parts)) in (
      half_shorter p (unsigned_abs t.r) D d (length_squared (displacement a m)) (size_of_radius t is) (within_large t is) less (third_less (length_squared (displacement a m)) D (p + 3) thirds.0 far)
          (same_half p (length_squared (chord va vm)) (length_squared (displacement a m)) (length_squared (chord va vb)) D (chord_length t.c a m) whole both.0),
      half_shorter p (unsigned_abs t.r) D d (length_squared (displacement m b)) (size_of_radius t is) (within_large t is) less (third_less (length_squared (displacement m b)) D (p + 3) thirds.1 far)
          (same_half p (length_squared (chord vm vb)) (length_squared (displacement m b)) (length_squared (chord va vb)) D (chord_length t.c m b) whole both.1),
    )

-- ---- the number
some_double : (n : ℕ) → 1 ≤ n → 1 ≤ 2 * n
some_double n h = omega (arith, h)

number_some : (n r c d : ℕ) → 1 ≤ number n r c d
unfolding number
number_some zero r c d = omega arith
number_some (suc n) r c d = elim (cases_Bool (nat_le d c)) [
  | inl e ↦ rw e (omega arith)
  | inr e ↦ rw e (some_double (number n r c (shorter r d)) (number_some n r c (shorter r d)))
]

number_open : (n r c d : ℕ) → c < d → number (suc n) r c d ≡ 2 * number n r c (shorter r d)
unfolding number
number_open n r c d h = rw (lt-leb d c h) refl

both_few : (l k ps : List Pt) (n m : ℕ) → ps ≡ l ++ k → m ≡ 2 * n → length l ≤ n → length k ≤ n → length ps ≤ m
both_few l k ps n m e f p q = omega (arith, ap length e, length-append l k, f, p, q)

one_few : (ps : List Pt) (n k : ℕ) → length ps ≡ k → k ≡ 1 → 1 ≤ n → length ps ≤ n
one_few ps n k e f h = omega (arith, e, f, h)

pub pieces_few : (n : ℕ) (t : Circ) (sag sense : ℤ) (a b : Pt) (l d : ℕ) → IsTrack t → IsSag t sag → IsSense sense → IsPiece t sense a b
    → l ≤ length_squared (displacement t.c a) → l ≤ length_squared (displacement t.c b) → l ≤ (within t + 2) * (within t + 2) → length_squared (displacement a b) ≤ d
    → length (pieces n t sag a b) ≤ number n (unsigned_abs t.r) (4 * (l - unsigned_abs (t.r -ℤ sag) * unsigned_abs (t.r -ℤ sag))) d
pieces_few zero t sag sense a b l d is fits turn parts low_a low_b low less =
    let c = 4 * (l - unsigned_abs (t.r -ℤ sag) * unsigned_abs (t.r -ℤ sag)) in
    one_few (pieces zero t sag a b) (number zero (unsigned_abs t.r) c d) 1 (ap length (pieces_none 0 t sag a b refl)) refl (number_some zero (unsigned_abs t.r) c d)
pieces_few (suc n) t sag sense a b l d is fits turn parts low_a low_b low less = elim (cases_Bool (is_clear t sag a b)) [
  | inl clear ↦
      let c = 4 * (l - unsigned_abs (t.r -ℤ sag) * unsigned_abs (t.r -ℤ sag)) in
      one_few (pieces (suc n) t sag a b) (number (suc n) (unsigned_abs t.r) c d) 1 (ap length (pieces_clear (suc n) t sag a b clear)) refl (number_some (suc n) (unsigned_abs t.r) c d)
  | inr off ↦
      let r = unsigned_abs t.r in
      let c = 4 * (l - unsigned_abs (t.r -ℤ sag) * unsigned_abs (t.r -ℤ sag)) in
      let m = middle t a b in
      let two = half_pieces t sag sense a b is fits turn parts off in
      let short = halves_less t sag sense a b d is fits parts off less in
      let long : c < length_squared (displacement a b) = open_long t sag sense a b l is fits parts off low_a low_b in
      let low_m = middle_far t sense a b l is parts low in
      both_few (pieces n t sag a m) (pieces n t sag m b) (pieces (suc n) t sag a b) (number n r c (shorter r d)) (number (suc n) r c d) (pieces_cut n t sag a b off) (number_open n r c d (omega (arith, long, less)))
      (pieces_few n t sag sense a m l (shorter r d) is fits turn two.0 low_a low_m low short.0)
      (pieces_few n t sag sense m b l (shorter r d) is fits turn two.1 low_m low_b low short.1)
]

radius_less : (r p : ℕ) → r ≡ p + 3 → r - 1 ≡ p + 2
radius_less r p e = omega (arith, e)

lowest : (x y z l : ℕ) → l ≡ min (min x y) z → (l ≤ x) × (l ≤ y) × (l ≤ z)
lowest x y z l e = (omega (arith, e), omega (arith, e), omega (arith, e))

-- of a piece, halved at most 24 times
pub piece_few : (n : ℕ) (t : Circ) (sag sense : ℤ) (a b : Pt) → IsTrack t → IsSag t sag → IsSense sense → IsPiece t sense a b
    → length (pieces n t sag a b) ≤ number n (unsigned_abs t.r) (clear_length t sag a b) (length_squared (displacement a b))
piece_few n t sag sense a b is fits turn parts =
    let l = nearest t a b in
    let r = unsigned_abs t.r in
    let far = lowest (length_squared (displacement t.c a)) (length_squared (displacement t.c b)) ((r - 1) * (r - 1)) l refl in
    let base : r - 1 ≡ within t + 2 = radius_less r (within t) (size_of_radius t is) in
    pieces_few n t sag sense a b l (length_squared (displacement a b)) is fits turn parts far.0 far.1 (subst (λ n. l ≤ n * n) base far.2) (omega arith)

-- ---- what the code tells of it
pub number_none : (n r c d : ℕ) → n ≡ 0 → 1 ≡ number n r c d
unfolding number
number_none zero r c d e = refl
number_none (suc n) r c d e = absurd (omega (arith, e))

pub number_clear : (n r c d : ℕ) → d ≤ c → 1 ≡ number n r c d
unfolding number
number_clear zero r c d h = refl
number_clear (suc n) r c d h = rw (le-leb d c h) refl

pub number_halved : (n r c d x y : ℕ) → 0 < n → c < d → y ≡ shorter r d → x ≡ number (n - 1) r c y → 2 * x ≡ number n r c d
number_halved zero r c d x y some h e f = absurd (omega (arith, some))
number_halved (suc n) r c d x y some h e f = rw (f, e, less_one n) (sym (number_open n r c d h))

pub double_small : (n x : ℕ) → 0 < n → x ≤ 2 ^ (n - 1) → 2 * x ≤ 2 ^ n
double_small n x some h = omega (arith, power_half n x x some h h)

same_number : (n r s c e d f k m : ℕ) → r ≡ s → c ≡ e → d ≡ f → k ≡ number n r c d → m ≤ number n s e f → m ≤ k
same_number n r s c e d f k m p q o h g = rw (h, p, q, o) g

pub number_bound : (n : ℕ) (t : Circ) (sag sense : ℤ) (a b : Pt) (r c d k : ℕ) → IsTrack t → IsSag t sag → IsSense sense → IsPiece t sense a b
    → r ≡ unsigned_abs t.r → c ≡ clear_length t sag a b → d ≡ length_squared (displacement a b) → k ≡ number n r c d → length (pieces n t sag a b) ≤ k
number_bound n t sag sense a b r c d k is fits turn parts e f g h =
    same_number n r (unsigned_abs t.r) c (clear_length t sag a b) d (length_squared (displacement a b)) k (length (pieces n t sag a b)) e f g h (piece_few n t sag sense a b is fits turn parts)

-- ---- of an arc, from a point through the next
pub sum_few : (x y l k n : ℕ) → l ≤ x → k ≤ y → n ≡ l + k → n ≤ x + y
sum_few x y l k n h g e = omega (arith, h, g, e)

pub last_few : (x l n : ℕ) → l ≤ x → n ≡ l → n ≤ x
last_few x l n h e = omega (arith, h, e)

pub whole_few : (arc : Arc) (u : Dir) (n : ℕ) → u ≡ first_past 3 arc.track arc.sense arc.start arc.axis → length (vertices 4 arc arc.start u) ≤ n → length (divided arc) ≤ n
whole_few arc u n turn h = last_few n (length (vertices 4 arc arc.start u)) (length (divided arc)) h (ap length (whole_is arc u turn))
