-- No piece is halved deep, and it has few vertices.
use Rattle.std.proofs.Common.{refl, ◌≡◌, inl, inr, ℕ, zero, suc, ◌+◌, ◌*◌, ◌^◌, ◌≤◌, ap, subst, arith, List, [], ◌∷◌, ◌++◌, length, ℤ, unsigned_abs}
use Rattle.std.proofs.Math.Nat.{mul-le-mul_left, pow-succ', two-pow-succ}
use Rattle.std.proofs.lemmas.List.{length-append}
use Rattle.std.proofs.lemmas.Bool.{cases_Bool, cases_lt}
use Rattle.apt_plane.specs.declared.figures.Pt.{Pt}
use Rattle.apt_plane.specs.declared.figures.Circ.{Circ}
use Rattle.apt_plane.specs.Vectors.{displacement, dot, length_squared}
use Rattle.apt_plane.specs.Ranges.{IsSense}
use Rattle.apt_arc.proofs.Spans.{chord_is}
use Rattle.apt_arc.proofs.Thirds.{first_level, next_level, last_level}
use Rattle.apt_arc.specs.Ranges.{IsTrack, IsSag, IsPiece, ArePieces}
use Rattle.apt_arc.specs.Cuts.{middle, IsCut, AreCuts}
use Rattle.apt_arc.specs.Made.{is_clear, pieces, chain}
use Rattle.apt_arc.proofs.Clear.{clear_tells}
use Rattle.apt_arc.proofs.Lists.{pieces_none, pieces_clear, pieces_cut, not_clear, cut_is, cut_at, chain_more, chain_none}
use Rattle.apt_arc.proofs.Tracks.{within, within_large, within_small, nearby, half_pieces, half_lengths, is_long, chord_length, sag_least}
use Rattle.apt_plane.proofs.Lengths.{chord}

once : (e sag r : ℕ) → r ≤ e * 3 ^ 0 * sag → r ≤ e * sag
once e sag r h = omega (arith, h)

deeper : (e j sag r : ℕ) → r ≤ e * 3 ^ suc j * sag → r ≤ 3 * e * 3 ^ j * sag
deeper e j sag r h = omega (arith, subst (λ n. r ≤ e * n * sag) (pow-succ' 3 j) h)

more : (p : ℕ) → 97 ≤ p → 100 ≤ p + 3
more p h = omega arith

-- e is a power of three for the halvings before
cut_level : (j e : ℕ) (t : Circ) (sag sense : ℤ) (a b : Pt) → IsTrack t → IsSag t sag → IsSense sense → IsPiece t sense a b
    → e * length_squared (displacement a b) ≤ 3 * ((within t + 3) * (within t + 3)) + e * (6 * (within t + 3)) → within t + 3 ≤ e * 3 ^ j * unsigned_abs sag
    → IsCut j t sag a b (pieces j t sag a b)
cut_level zero e t sag sense a b is fits turn piece level deep = elim (cases_Bool (is_clear t sag a b)) [
  | inl clear ↦ ((clear_tells t sag a b).0 clear, pieces_none 0 t sag a b refl)
  | inr off ↦
      absurd (last_level e (length_squared (displacement a b)) (within t + 3) (unsigned_abs sag) level (once e (unsigned_abs sag) (within t + 3) deep) (sag_least sag fits.least)
      (more (within t) (within_large t is)) (is_long t sag sense a b is fits piece off))
]
cut_level (suc j) e t sag sense a b is fits turn piece level deep = elim (cases_Bool (is_clear t sag a b)) [
  | inl clear ↦ inl ((clear_tells t sag a b).0 clear, pieces_clear (suc j) t sag a b clear)
  | inr off ↦
      let r = within t + 3 in
      let m = middle t a b in
      let two = half_pieces t sag sense a b is fits turn piece off in
      let short = half_lengths t sag sense a b is fits piece off in
      let down = deeper e j (unsigned_abs sag) r deep in
      inr (
        not_clear t sag a b off,
        pieces j t sag a m,
        pieces j t sag m b,
        pieces_cut j t sag a b off,
        cut_level j (3 * e) t sag sense a m is fits turn two.0 (next_level e (length_squared (displacement a b)) (length_squared (displacement a m)) r level short.0) down,
        cut_level j (3 * e) t sag sense m b is fits turn two.1 (next_level e (length_squared (displacement a b)) (length_squared (displacement m b)) r level short.1) down,
      )
]

first_core : (p d h a b : ℕ) → 97 ≤ p → d + 2 * h ≡ a + b → a ≤ (p + 6) * (p + 6) → b ≤ (p + 6) * (p + 6) → 1 * d ≤ 3 * ((p + 3) * (p + 3)) + 1 * (6 * (p + 3))
first_core p d h a b least e x y = omega (arith, first_level p d least (omega (arith, e, x, y)))

same_length : (x y z : ℕ) → x ≡ y → 1 * x ≤ z → 1 * y ≤ z
same_length x y z e h = omega (arith, e, h)

first_length : (t : Circ) (sense : ℤ) (a b : Pt) → IsTrack t → IsPiece t sense a b → 1 * length_squared (displacement a b) ≤ 3 * ((within t + 3) * (within t + 3)) + 1 * (6 * (within t + 3))
first_length t sense a b is piece =
    let va = displacement t.c a in
    let vb = displacement t.c b in
    same_length (length_squared (chord va vb)) (length_squared (displacement a b)) (3 * ((within t + 3) * (within t + 3)) + 1 * (6 * (within t + 3))) (chord_length t.c a b)
    (first_core (within t) (length_squared (chord va vb)) (unsigned_abs (dot va vb)) (length_squared va) (length_squared vb) (within_large t is) (chord_is va vb piece.ahead)
    (nearby t a is piece.start).high (nearby t b is piece.end).high)

one_more : (r j sag : ℕ) → r ≤ 3 ^ j * sag → r ≤ 1 * 3 ^ j * sag
one_more r j sag h = omega (arith, h)

-- a piece is cut by k halvings, one in the other, where three to the power of k makes the sag as long as the radius
pub piece_cut : (k : ℕ) (t : Circ) (sag sense : ℤ) (a b : Pt) → IsTrack t → IsSag t sag → IsSense sense → IsPiece t sense a b → within t + 3 ≤ 3 ^ k * unsigned_abs sag
    → IsCut k t sag a b (pieces k t sag a b)
piece_cut k t sag sense a b is fits turn piece deep = cut_level k 1 t sag sense a b is fits turn piece (first_length t sense a b is piece) (one_more (within t + 3) k (unsigned_abs sag) deep)

pub deepest : (r sag : ℕ) → r ≤ 49500000 → 8 ≤ sag → r ≤ 3 ^ 24 * sag
deepest r sag h g = omega (arith, mul-le-mul_left (3 ^ 24) g, h)

-- so 24 halvings always do
pub all_cut : (t : Circ) (sag sense : ℤ) (a b : Pt) → IsTrack t → IsSag t sag → IsSense sense → IsPiece t sense a b → IsCut 24 t sag a b (pieces 24 t sag a b)
all_cut t sag sense a b is fits turn piece =
    piece_cut 24 t sag sense a b is fits turn piece (deepest (within t + 3) (unsigned_abs sag) (within_small t is) (sag_least sag fits.least))

-- and the list of 24 is that of each depth that does
pub deep_cut : (k : ℕ) (t : Circ) (sag sense : ℤ) (a b : Pt) → IsTrack t → IsSag t sag → IsSense sense → IsPiece t sense a b → within t + 3 ≤ 3 ^ k * unsigned_abs sag
    → IsCut k t sag a b (pieces 24 t sag a b)
deep_cut k t sag sense a b is fits turn piece deep = elim (cases_lt 24 k) [
  | inl past ↦ cut_at 24 k t sag a b (pieces 24 t sag a b) (omega arith) (all_cut t sag sense a b is fits turn piece)
  | inr small ↦
      let at = piece_cut k t sag sense a b is fits turn piece deep in
      subst (λ (list : List Pt). IsCut k t sag a b list) (cut_is 24 t sag a b (pieces k t sag a b) (cut_at k 24 t sag a b (pieces k t sag a b) small at)) at
]

-- ---- all pieces in turn
pub chain_cut : (k : ℕ) (t : Circ) (sag sense : ℤ) (a : Pt) (qs : List Pt) → IsTrack t → IsSag t sag → IsSense sense → ArePieces t sense a qs → within t + 3 ≤ 3 ^ k * unsigned_abs sag
    → AreCuts k t sag a qs (chain 24 t sag a qs)
chain_cut k t sag sense a [] is fits turn are deep = chain_none 24 t sag a [] refl
chain_cut k t sag sense a (q ∷ qs) is fits turn are deep = (
  pieces 24 t sag a q,
  chain 24 t sag q qs,
  chain_more 24 t sag a q (q ∷ qs) qs refl,
  deep_cut k t sag sense a q is fits turn are.0 deep,
  chain_cut k t sag sense q qs is fits turn are.1 deep,
)

pub all_cuts : (t : Circ) (sag sense : ℤ) (a : Pt) (qs : List Pt) → IsTrack t → IsSag t sag → IsSense sense → ArePieces t sense a qs → AreCuts 24 t sag a qs (chain 24 t sag a qs)
all_cuts t sag sense a qs is fits turn are = chain_cut 24 t sag sense a qs is fits turn are (deepest (within t + 3) (unsigned_abs sag) (within_small t is) (sag_least sag fits.least))

-- ---- the number of vertices
both_short : (l k ps : List Pt) (n : ℕ) → ps ≡ l ++ k → length l ≤ n → length k ≤ n → length ps ≤ n + n
both_short l k ps n e p q = omega (arith, ap length e, length-append l k, p, q)

pub cut_short : (n : ℕ) (t : Circ) (sag : ℤ) (a b : Pt) (list : List Pt) → IsCut n t sag a b list → length list ≤ 2 ^ n
cut_short zero t sag a b list is = omega (arith, ap length is.1)
cut_short (suc n) t sag a b list (inl is) = omega (arith, ap length is.1, some n)
  where
    some : (n : ℕ) → 1 ≤ 2 ^ suc n
    some zero = omega arith
    some (suc n) = rw (two-pow-succ (suc n)) (omega (arith, some n))
cut_short (suc n) t sag a b list (inr is) =
    rw (two-pow-succ n) (both_short is.1 is.2 list (2 ^ n) is.3 (cut_short n t sag a (middle t a b) is.1 is.4) (cut_short n t sag (middle t a b) b is.2 is.5))

chain_core : (l k ps : List Pt) (m n : ℕ) → ps ≡ l ++ k → length l ≤ n → length k ≤ m * n → length ps ≤ suc m * n
chain_core l k ps m n e p q = omega (arith, ap length e, length-append l k, p, q)

pub cuts_short : (n : ℕ) (t : Circ) (sag : ℤ) (a : Pt) (qs list : List Pt) → AreCuts n t sag a qs list → length list ≤ length qs * 2 ^ n
cuts_short n t sag a [] list is = omega (arith, ap length is)
cuts_short n t sag a (q ∷ qs) list is =
    chain_core is.0 is.1 list (length qs) (2 ^ n) is.2 (cut_short n t sag a q is.0 is.3) (cuts_short n t sag q qs is.1 is.4)
