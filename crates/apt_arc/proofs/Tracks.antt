-- Points near a track, the point half way between two, and the halves of a piece.
use Rattle.std.proofs.Common.{refl, ◌≡◌, ◌↔◌, ℕ, ◌+◌, ◌-◌, ◌*◌, ◌^◌, ◌≤◌, ◌<◌, ap, sym, subst, arith, false, ℤ, pos, negsuc, ◌+ℤ◌, ◌-ℤ◌, ◌*ℤ◌, ◌≤ℤ◌, unsigned_abs, FitsSigned, w64}
use Rattle.std.proofs.Math.Nat.{mul-le-mul_left}
use Rattle.std.proofs.lemmas.Nat.{mul-le}
use Rattle.std.proofs.lemmas.Int.{ints}
use Rattle.apt_num.proofs.Squares.{root_le}
use Rattle.apt_plane.specs.declared.figures.Pt.{Pt}
use Rattle.apt_plane.specs.declared.figures.Dir.{Dir}
use Rattle.apt_plane.specs.declared.figures.Circ.{Circ}
use Rattle.apt_plane.specs.Vectors.{scaled, between, displacement, displacement_to, dot, length_squared}
use Rattle.apt_plane.specs.Distances.{IsLengthAtMost, IsRootAtMost, IsOver, about}
use Rattle.apt_plane.specs.Ranges.{IsPoint, IsDir, IsRound, IsSense}
use Rattle.apt_plane.proofs.Displacements.{stewart}
use Rattle.apt_plane.proofs.Lengths.{plus, chord}
use Rattle.apt_plane.proofs.Heights.{one-times}
use Rattle.apt_plane.proofs.RingLaws.{length_at_most, root_at_most, over_to}
use Rattle.apt_canon.specs.Scale.{IsNearCircle, sum}
use Rattle.apt_canon.specs.Feet.{ray_point}
use Rattle.apt_canon.proofs.FootPoints.Sharp.{ray_across, ray_forward, ray_radius}
use Rattle.apt_arc.proofs.Halving.{near_piece}
use Rattle.apt_arc.proofs.Spans.{IsSpan, IsAimed, far_turn, halves, sum_is}
use Rattle.apt_arc.proofs.Thirds.{thirds}
use Rattle.apt_arc.specs.Ranges.{IsTrack, IsSag, IsPiece}
use Rattle.apt_arc.specs.Cuts.{middle}
use Rattle.apt_arc.specs.Made.{is_clear, is_over}
use Rattle.apt_arc.proofs.Clear.{near_point}
use Rattle.apt_plane.proofs.Nearby.{IsNearby}

-- three units less than the radius
abbrev pub within : Circ → ℕ
within t = unsigned_abs t.r - 3

pub radius_is : (t : Circ) → IsTrack t → t.r ≡ pos (within t + 3)
radius_is t is = omega (arith, ints, is.least)

pub within_large : (t : Circ) → IsTrack t → 97 ≤ within t
within_large t is = omega (arith, ints, is.least)

pub within_small : (t : Circ) → IsTrack t → within t + 3 ≤ 49500000
within_small t is = omega (arith, ints, is.least, is.x)

pub is_round : (t : Circ) → IsTrack t → IsRound t
is_round t is = record { centre = record { x = omega (arith, is.x); y = omega (arith, is.y) }; least = omega (arith, ints, is.least); most = omega (arith, ints, is.least, is.x) }

pub radius_fits : (t : Circ) → IsTrack t → FitsSigned w64 t.r
radius_fits t is = omega (arith, ints, is.least, is.x)

pub inner_fits : (t : Circ) (sag : ℤ) → IsTrack t → IsSag t sag → FitsSigned w64 (t.r -ℤ sag)
inner_fits t sag is fits = omega (arith, ints, is.least, is.x, fits.least, fits.most)

-- ---- near the track
pub length_tells : (h n : ℕ) → IsLengthAtMost (pos h) n ↔ (h * h ≤ n)
length_tells h n = (
  λ is. omega (arith, (length_at_most 1 h n).0 (subst (λ (z : ℤ). IsLengthAtMost z n) (sym (one-times (pos h))) is)),
  λ le. subst (λ (z : ℤ). IsLengthAtMost z n) (one-times (pos h)) ((length_at_most 1 h n).1 (omega (arith, le))),
)

pub root_tells : (h n : ℕ) → IsRootAtMost n (pos h) ↔ (n ≤ h * h)
root_tells h n = (
  λ is. omega (arith, (root_at_most 1 h n).0 (subst (λ (z : ℤ). IsRootAtMost n z) (sym (one-times (pos h))) is)),
  λ le. subst (λ (z : ℤ). IsRootAtMost n z) (one-times (pos h)) ((root_at_most 1 h n).1 (omega (arith, le))),
)

-- k units about a circle of the radius r
pub ring_tells : (r k : ℤ) (l h n : ℕ) → r -ℤ k ≡ pos l → r +ℤ k ≡ pos h → (IsLengthAtMost (r -ℤ k) n × IsRootAtMost n (r +ℤ k)) ↔ ((l * l ≤ n) × (n ≤ h * h))
ring_tells r k l h n e f = rw (e, f) (λ is. ((length_tells l n).0 is.0, (root_tells h n).0 is.1), λ is. ((length_tells l n).1 is.0, (root_tells h n).1 is.1))

three_about : (t : Circ) (n : ℕ) → IsTrack t → (IsLengthAtMost (t.r -ℤ pos 3) n × IsRootAtMost n (t.r +ℤ pos 3)) ↔ ((within t * within t ≤ n) × (n ≤ (within t + 6) * (within t + 6)))
three_about t n is = ring_tells t.r (pos 3) (within t) (within t + 6) n (omega (arith, ints, is.least)) (omega (arith, ints, is.least))

pub nearby : (t : Circ) (a : Pt) → IsTrack t → IsNearCircle t (pos 3) a → IsNearby (within t) (displacement t.c a)
nearby t a is near =
    let ring = (three_about t (length_squared (displacement t.c a)) is).0 (near.outside, near.inside) in
    record { low = ring.0; high = ring.1 }

pub near_track : (t : Circ) (a : Pt) → IsTrack t → IsNearby (within t) (displacement t.c a) → IsNearCircle t (pos 3) a
near_track t a is near =
    let ring = (three_about t (length_squared (displacement t.c a)) is).1 (near.low, near.high) in
    record { outside = ring.0; inside = ring.1 }

part_small : (x y p : ℕ) → x * x + y * y ≤ (p + 6) * (p + 6) → (x ≤ p + 6) × (y ≤ p + 6)
part_small x y p h = (root_le x (p + 6) (omega (arith, h)), root_le y (p + 6) (omega (arith, h)))

place_small : (c z : ℤ) (p : ℕ) → unsigned_abs (z -ℤ c) ≤ p + 6 → unsigned_abs c + (p + 3) ≤ 49500000 → unsigned_abs z ≤ 50000000
place_small c z p h g = omega (arith, ints, h, g)

pub size_of_radius : (t : Circ) → IsTrack t → unsigned_abs t.r ≡ within t + 3
size_of_radius t is = omega (arith, ints, is.least)

pub point_near : (t : Circ) (a : Pt) → IsTrack t → IsNearCircle t (pos 3) a → IsPoint a
point_near t a is near =
    let p = within t in
    let small = part_small (unsigned_abs (a.x -ℤ t.c.x)) (unsigned_abs (a.y -ℤ t.c.y)) p (nearby t a is near).high in
    let size = size_of_radius t is in
    record { x = place_small t.c.x a.x p small.0 (omega (arith, size, is.x)); y = place_small t.c.y a.y p small.1 (omega (arith, size, is.y)) }

-- ---- pieces
pub span : (t : Circ) (sense : ℤ) (a b : Pt) → IsTrack t → IsPiece t sense a b → IsSpan (within t) sense (displacement t.c a) (displacement t.c b)
span t sense a b is piece = record { onwards = piece.onwards; ahead = piece.ahead; start = nearby t a is piece.start; end = nearby t b is piece.end }

pub piece : (t : Circ) (sense : ℤ) (a b : Pt) → IsTrack t → IsSpan (within t) sense (displacement t.c a) (displacement t.c b) → IsPiece t sense a b
piece t sense a b is spans = record { onwards = spans.onwards; ahead = spans.ahead; start = near_track t a is spans.start; end = near_track t b is spans.end }

sum_small : (x y : ℤ) (p : ℕ) → unsigned_abs x ≤ p + 6 → unsigned_abs y ≤ p + 6 → p + 3 ≤ 49500000 → unsigned_abs (x +ℤ y) ≤ 10 ^ 8
sum_small x y p h g small = omega (arith, ints, h, g, small)

sum_long : (p n a b h : ℕ) → n ≡ a + b + 2 * h → p * p ≤ a → 97 ≤ p → 1 ≤ n
sum_long p n a b h e low least = omega (arith, e, low, mul-le-mul_left p least, least)

pub middle_dir : (t : Circ) (sense : ℤ) (a b : Pt) → IsTrack t → IsPiece t sense a b → IsDir (sum (displacement t.c a) (displacement t.c b))
middle_dir t sense a b is parts =
    let p = within t in
    let va = displacement t.c a in
    let vb = displacement t.c b in
    let near_a = nearby t a is parts.start in
    let near_b = nearby t b is parts.end in
    let small_a = part_small (unsigned_abs va.dx) (unsigned_abs va.dy) p near_a.high in
    let small_b = part_small (unsigned_abs vb.dx) (unsigned_abs vb.dy) p near_b.high in
    let small = within_small t is in
    record {
      dx = sum_small va.dx vb.dx p small_a.0 small_b.0 small;
      dy = sum_small va.dy vb.dy p small_a.1 small_b.1 small;
      length = sum_long p (length_squared (plus va vb)) (length_squared va) (length_squared vb) (unsigned_abs (dot va vb)) (sum_is va vb parts.ahead) near_a.low (within_large t is);
    }

sharp_parts : (n p : ℕ) (r : ℤ) → r ≡ pos (p + 3) → 2 * unsigned_abs (pos n -ℤ (r *ℤ r)) ≤ 3 * unsigned_abs r
    → (2 * ((p + 3) * (p + 3)) ≤ 2 * n + 3 * (p + 3)) × (2 * n ≤ 2 * ((p + 3) * (p + 3)) + 3 * (p + 3))
sharp_parts n p r e h =
    let whole = rw e at h in
    (omega (arith, ints, whole), omega (arith, ints, whole))

-- the point of the track in a direction
pub aimed : (t : Circ) (u : Dir) → IsTrack t → IsDir u → IsAimed (within t) u (displacement t.c (ray_point t u))
aimed t u is dir =
    let sharp = sharp_parts (length_squared (displacement t.c (ray_point t u))) (within t) t.r (radius_is t is) (ray_radius t u is.least (is_round t is).most dir) in
    record {
      across = ray_across t u dir;
      forward = ray_forward t u (omega (arith, ints, is.least)) dir;
      low = sharp.0;
      high = sharp.1;
    }

-- ---- the halves of a piece that is not clear
pub sag_parts : (r sag : ℤ) (p : ℕ) → r ≡ pos (p + 3) → pos 8 ≤ℤ sag → (pos 4 *ℤ sag) ≤ℤ r
    → (q : ℕ) × (v : ℕ) × (r -ℤ sag ≡ pos q) × (sag ≡ pos (v + 3)) × (q + v ≡ p) × (5 ≤ v) × (3 * v + 9 ≤ q)
sag_parts r (pos sag) p e least most = ((p + 3) - sag, sag - 3, omega (arith, ints, e, least, most), omega (arith, ints, least), omega (arith, ints, e, least, most), omega (arith, ints, least), omega (arith, ints, e, least, most))
sag_parts r (negsuc sag) p e least most = absurd (omega (arith, ints, least))

pub far_ends : (p q v n : ℕ) → q + v ≡ p → p * p ≤ n → q * q ≤ n
far_ends p q v n e h = omega (arith, h, mul-le q q p p (omega (arith, e)) (omega (arith, e)))

-- a point near a track lies no further inside of it than the sag
pub ends_over : (t : Circ) (sag : ℤ) (a : Pt) → IsTrack t → IsSag t sag → IsNearCircle t (pos 3) a → IsOver (about t.c) (t.r -ℤ sag) (scaled a)
ends_over t sag a is fits near =
    let p = within t in
    let split = sag_parts t.r sag p (radius_is t is) fits.least fits.most in
    let far = far_ends p split.0 split.1 (length_squared (displacement t.c a)) split.4 (nearby t a is near).low in
    subst (λ (z : ℤ). IsOver (about t.c) z (scaled a)) (sym split.2) (over_to t.c a split.0 far)

long_core : (p q v D A B X j k : ℕ) → q + v ≡ p → j * k * D + X ≡ (j + k) * (k * A + j * B) → p * p ≤ A → p * p ≤ B → X < (j + k) * (j + k) * (q * q) → 5 ≤ v → 3 * v + 9 ≤ q
    → 4 * ((v + 3) * (p + 3)) < D
long_core p q v D A B X j k e stewart a b near low high =
    subst (λ n. 4 * ((v + 3) * (n + 3)) < D) e
    (near_piece D A B X j k q v stewart (subst (λ n. n * n ≤ A) (sym e) a) (subst (λ n. n * n ≤ B) (sym e) b) near low high)

pub open_over : (t : Circ) (sag : ℤ) (a b : Pt) → is_clear t sag a b ≡ false → is_over t.c (t.r -ℤ sag) a b ≡ false
unfolding is_clear
open_over t sag a b e = e

pub is_long : (t : Circ) (sag sense : ℤ) (a b : Pt) → IsTrack t → IsSag t sag → IsPiece t sense a b → is_clear t sag a b ≡ false
    → 4 * (unsigned_abs sag * (within t + 3)) < length_squared (displacement a b)
is_long t sag sense a b is fits parts off =
    let p = within t in
    let near_a = nearby t a is parts.start in
    let near_b = nearby t b is parts.end in
    let split = sag_parts t.r sag p (radius_is t is) fits.least fits.most in
    let q = split.0 in
    let v = split.1 in
    let point =
    near_point t.c q a b (far_ends p q v (length_squared (displacement t.c a)) split.4 near_a.low) (far_ends p q v (length_squared (displacement t.c b)) split.4 near_b.low)
    (subst (λ (z : ℤ). is_over t.c z a b ≡ false) split.2 (open_over t sag a b off)) in
    subst (λ (z : ℤ). 4 * (unsigned_abs z * (p + 3)) < length_squared (displacement a b)) (sym split.3)
    (long_core p q v (length_squared (displacement a b)) (length_squared (displacement t.c a)) (length_squared (displacement t.c b)) (length_squared (displacement_to t.c (between a b point.0 point.1))) point.0 point.1
    split.4 (stewart t.c a b point.0 point.1) near_a.low near_b.low point.2 split.5 split.6)

step_part : (c p q : ℤ) → (q -ℤ c) -ℤ (p -ℤ c) ≡ q -ℤ p
step_part c p q = omega (arith, ints)

pub chord_of : (c a b : Pt) → chord (displacement c a) (displacement c b) ≡ displacement a b
chord_of c a b = rw (step_part c.x a.x b.x, step_part c.y a.y b.y) refl

pub wide : (sag r d : ℕ) → 8 ≤ sag → 4 * (sag * r) < d → 32 * r < d
wide sag r d h g = omega (arith, g, mul-le-mul_left r h)

pub sag_least : (sag : ℤ) → pos 8 ≤ℤ sag → 8 ≤ unsigned_abs sag
sag_least sag h = omega (arith, ints)

pub far_chord : (t : Circ) (sag sense : ℤ) (a b : Pt) → IsTrack t → IsSag t sag → IsPiece t sense a b → is_clear t sag a b ≡ false
    → 32 * (within t + 3) < length_squared (chord (displacement t.c a) (displacement t.c b))
far_chord t sag sense a b is fits parts off =
    subst (λ (d : Dir). 32 * (within t + 3) < length_squared d) (sym (chord_of t.c a b))
    (wide (unsigned_abs sag) (within t + 3) (length_squared (displacement a b)) (sag_least sag fits.least) (is_long t sag sense a b is fits parts off))

pub half_pieces : (t : Circ) (sag sense : ℤ) (a b : Pt) → IsTrack t → IsSag t sag → IsSense sense → IsPiece t sense a b → is_clear t sag a b ≡ false
    → IsPiece t sense a (middle t a b) × IsPiece t sense (middle t a b) b
half_pieces t sag sense a b is fits turn parts off =
    let p = within t in
    let va = displacement t.c a in
    let vb = displacement t.c b in
    let m = middle t a b in
    let spans = span t sense a b is parts in
    let far = far_turn p sense va vb spans (within_large t is) (far_chord t sag sense a b is fits parts off) in
    let two = halves p sense va vb (displacement t.c m) (within_large t is) turn spans (omega (arith, far)) (aimed t (sum va vb) is (middle_dir t sense a b is parts)) in
    (piece t sense a m is two.0, piece t sense m b is two.1)

same_lengths : (n m d e r : ℕ) → n ≡ m → d ≡ e → 3 * n ≤ d + 12 * r → 3 * m ≤ e + 12 * r
same_lengths n m d e r f g h = omega (arith, f, g, h)

pub chord_length : (c a b : Pt) → length_squared (chord (displacement c a) (displacement c b)) ≡ length_squared (displacement a b)
chord_length c a b = ap length_squared (chord_of c a b)

-- each is at most a third as long, by the square, and four units by the radius more
pub half_lengths : (t : Circ) (sag sense : ℤ) (a b : Pt) → IsTrack t → IsSag t sag → IsPiece t sense a b → is_clear t sag a b ≡ false
    → (3 * length_squared (displacement a (middle t a b)) ≤ length_squared (displacement a b) + 12 * (within t + 3))
    × (3 * length_squared (displacement (middle t a b) b) ≤ length_squared (displacement a b) + 12 * (within t + 3))
half_lengths t sag sense a b is fits parts off =
    let va = displacement t.c a in
    let vb = displacement t.c b in
    let m = middle t a b in
    let vm = displacement t.c m in
    let r = within t + 3 in
    let whole = chord_length t.c a b in
    let both = thirds (within t) sense va vb vm (within_large t is) (span t sense a b is parts) (far_chord t sag sense a b is fits parts off) (aimed t (sum va vb) is (middle_dir t sense a b is parts)) in (
      same_lengths (length_squared (chord va vm)) (length_squared (displacement a m)) (length_squared (chord va vb)) (length_squared (displacement a b)) r (chord_length t.c a m) whole both.0,
      same_lengths (length_squared (chord vm vb)) (length_squared (displacement m b)) (length_squared (chord va vb)) (length_squared (displacement a b)) r (chord_length t.c m b) whole both.1,
    )
