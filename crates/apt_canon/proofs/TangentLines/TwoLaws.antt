-- The tangent of two circles: how far its base and its direction are from the exact ones.
use Rattle.std.proofs.Common.{◌≡◌, ℕ, ◌+◌, ◌*◌, ◌^◌, ◌≤◌, ◌<◌, ◌∙◌, ap, sym, arith, ℤ, pos, neg_ℤ, ◌+ℤ◌, ◌-ℤ◌, ◌*ℤ◌, unsigned_abs}
use Rattle.std.proofs.Math.Nat.{mul-le-mul_left}
use Rattle.std.proofs.lemmas.Int.{ints, unsigned_abs-mul}
use Rattle.apt_num.specs.Sign.{square, OnLine}
use Rattle.apt_num.proofs.Ring.{as_diff, diff-pos, diff-same, differences}
use Rattle.apt_num.proofs.Roots.{five_sevenths}
use Rattle.apt_num.proofs.Squares.{cancel_le, size_add, size_minus, size_neg}
use Rattle.apt_plane.specs.declared.figures.Pt.{Pt}
use Rattle.apt_plane.specs.declared.figures.Dir.{Dir}
use Rattle.apt_plane.specs.Vectors.{displacement, cross, dot, length_squared, perp}
use Rattle.apt_plane.specs.Ranges.{IsDir}
use Rattle.apt_plane.proofs.Displacements.{square_length_squared, cross_swap, cross_times, cross_turn, dot_times, dot_swap}
use Rattle.apt_plane.proofs.Rounding.{near_displacement, moved, moved_dot}
use Rattle.apt_canon.specs.Scale.{times, from}
use Rattle.apt_canon.specs.Tangents.{falling, fall_divisor, falling_dir}
use Rattle.apt_canon.proofs.TangentLines.Frame.{reach_rest, falling_norm, rest_small}
use Rattle.apt_canon.proofs.TangentLines.Laws.{divisor_size, divisor_apart, falling_dir_long, lag, touching_back}

-- ---- the direction along the way before the division

abbrev pub slack : Dir → ℤ → ℤ
slack a p = dot (falling a p) (falling_dir a p) -ℤ pos (99999000 * (length_squared a * 2 ^ 30))

slack_out : (m : ℕ) (d : ℤ) → pos m *ℤ (d -ℤ pos (99999000 * m)) ≡ (pos m *ℤ d) -ℤ pos (99999000 * (m * m))
slack_out m d = rw (as_diff d, diff-pos m, diff-pos (99999000 * m), diff-pos (99999000 * (m * m))) (simp differences (diff-same _ _ _ _ (omega arith)))

slack_rest : (mm l share : ℕ) (d rest : ℤ) → l + share ≡ mm → ((pos 99999000 *ℤ pos l) +ℤ rest) -ℤ pos (99999000 * mm) ≡ rest -ℤ pos (99999000 * share)
slack_rest mm l share d rest e = omega (arith, ints, e)

slack_parts : (m l share : ℕ) (d rest : ℤ) → l + share ≡ m * m → pos m *ℤ d ≡ (pos 99999000 *ℤ pos l) +ℤ rest → pos m *ℤ (d -ℤ pos (99999000 * m)) ≡ rest -ℤ pos (99999000 * share)
slack_parts m l share d rest e f = slack_out m d ∙ rw f (slack_rest (m * m) l share d rest e)

slack_size : (m s d share : ℕ) → 0 < m → m * s ≤ d + 99999000 * share → 7 * d ≤ 5 * (m * m) → 4 * 99999000 * share ≤ m * m → s ≤ m
slack_size m s d share h p q r = cancel_le m s m h (omega (arith, p, q, r))

rest_square : (rest l share m : ℕ) → l + share ≡ m * m → 2 * rest * rest ≤ l * (m * m) → 2 * rest * rest ≤ (m * m) * (m * m)
rest_square rest l share m e p =
    let less : l ≤ m * m = omega (arith, e) in
    omega (arith, p, mul-le-mul_left (m * m) less)

-- it is as long as it should be, up to one unit
pub slack_small : (a : Dir) (p : ℤ) → IsDir a → square p ≤ length_squared a → unsigned_abs (slack a p) ≤ length_squared a * 2 ^ 30
slack_small a p is fits =
    let n = length_squared a in
    let m = n * 2 ^ 30 in
    let w = falling a p in
    let l = length_squared w in
    let share = n * reach_rest a p in
    let norm : l + share ≡ m * m = falling_norm a p is fits in
    let rounded = moved_dot w (times (pos 99999000) w) (pos m) (divisor_apart a is) in
    let along : dot w (times (pos 99999000) w) ≡ pos 99999000 *ℤ pos l = dot_times w w (pos 99999000) ∙ ap (λ z. pos 99999000 *ℤ z) (sym (square_length_squared w)) in
    let split : pos m *ℤ dot w (falling_dir a p) ≡ (pos 99999000 *ℤ pos l) +ℤ rounded.0 = rounded.1 ∙ ap (λ z. z +ℤ rounded.0) along in
    let parts : pos m *ℤ slack a p ≡ rounded.0 -ℤ pos (99999000 * share) = slack_parts m l share (dot w (falling_dir a p)) rounded.0 norm split in
    let sizes : m * unsigned_abs (slack a p) ≡ unsigned_abs (rounded.0 -ℤ pos (99999000 * share)) = sym (unsigned_abs-mul (pos m) (slack a p)) ∙ ap unsigned_abs parts in
    let short : 7 * unsigned_abs rounded.0 ≤ 5 * (m * m) = five_sevenths (unsigned_abs rounded.0) (m * m) (rest_square (unsigned_abs rounded.0) l share m norm rounded.2) in
    slack_size m (unsigned_abs (slack a p)) (unsigned_abs rounded.0) share (divisor_size a is)
    (omega (arith, sizes, size_minus rounded.0 (pos (99999000 * share)))) short (omega (arith, rest_small a p is))

-- ---- the base against the direction

-- the way from the centre to the touching point: s is the radius, to the left or the right
abbrev pub touch_way : Dir → ℤ → ℤ → Dir
touch_way a p s = near_displacement (times s (perp (falling a p))) (fall_divisor a)

abbrev pub drift : Dir → ℤ → ℤ → ℤ
drift a p s = cross (falling_dir a p) (touch_way a p s) -ℤ (pos 99999000 *ℤ s)

drift_out : (m : ℕ) (g s : ℤ) → pos m *ℤ (g -ℤ (pos 99999000 *ℤ s)) ≡ (pos m *ℤ g) -ℤ (s *ℤ pos (99999000 * m))
drift_out m g s = rw (as_diff g, as_diff s, diff-pos m, diff-pos 99999000, diff-pos (99999000 * m)) (simp differences (diff-same _ _ _ _ (omega arith)))

drift_in : (s d c rest : ℤ) → ((s *ℤ d) +ℤ rest) -ℤ (s *ℤ c) ≡ (s *ℤ (d -ℤ c)) +ℤ rest
drift_in s d c rest = rw (as_diff s, as_diff d, as_diff c, as_diff rest) (simp differences (diff-same _ _ _ _ (omega arith)))

drift_parts : (m : ℕ) (g s d rest : ℤ) → pos m *ℤ g ≡ (s *ℤ d) +ℤ rest → pos m *ℤ (g -ℤ (pos 99999000 *ℤ s)) ≡ (s *ℤ (d -ℤ pos (99999000 * m))) +ℤ rest
drift_parts m g s d rest e = drift_out m g s ∙ rw e (drift_in s d (pos (99999000 * m)) rest)

drift_size : (m th s slack rest : ℕ) → 0 < m → m * th ≤ s * slack + rest → slack ≤ m → 7 * rest ≤ 5 * (99999001 * m) → 4 * th ≤ 4 * s + 3 * 99999001
drift_size m th s slack rest h p q r = cancel_le m (4 * th) (4 * s + 3 * 99999001) h (omega (arith, p, r, mul-le-mul_left s q))

rest_square_of : (rest n m : ℕ) → n ≤ 99999001 * 99999001 → 2 * rest * rest ≤ n * (m * m) → 2 * rest * rest ≤ (99999001 * m) * (99999001 * m)
rest_square_of rest n m p q = omega (arith, q, mul-le-mul_left (m * m) p)

pub drift_small : (a : Dir) (p s : ℤ) → IsDir a → square p ≤ length_squared a → 4 * unsigned_abs (drift a p s) ≤ 4 * unsigned_abs s + 3 * 99999001
drift_small a p s is fits =
    let m = length_squared a * 2 ^ 30 in
    let w = falling a p in
    let t = falling_dir a p in
    let ring = falling_dir_long a p is fits in
    let rounded = moved t (times s (perp w)) (pos m) (divisor_apart a is) in
    let across : cross t (times s (perp w)) ≡ s *ℤ dot w t = cross_times t (perp w) s ∙ ap (λ z. s *ℤ z) (cross_turn t w ∙ dot_swap t w) in
    let split : pos m *ℤ cross t (touch_way a p s) ≡ (s *ℤ dot w t) +ℤ rounded.0 = rounded.1 ∙ ap (λ z. z +ℤ rounded.0) across in
    let parts : pos m *ℤ drift a p s ≡ (s *ℤ slack a p) +ℤ rounded.0 = drift_parts m (cross t (touch_way a p s)) s (dot w t) rounded.0 split in
    let sizes : m * unsigned_abs (drift a p s) ≡ unsigned_abs ((s *ℤ slack a p) +ℤ rounded.0) = sym (unsigned_abs-mul (pos m) (drift a p s)) ∙ ap unsigned_abs parts in
    let product : unsigned_abs (s *ℤ slack a p) ≡ unsigned_abs s * unsigned_abs (slack a p) = unsigned_abs-mul s (slack a p) in
    let short : 7 * unsigned_abs rounded.0 ≤ 5 * (99999001 * m) = five_sevenths (unsigned_abs rounded.0) (99999001 * m) (rest_square_of (unsigned_abs rounded.0) (length_squared t) m (omega (arith, ring.most)) rounded.2) in
    drift_size m (unsigned_abs (drift a p s)) (unsigned_abs s) (unsigned_abs (slack a p)) (unsigned_abs rounded.0) (divisor_size a is)
    (omega (arith, sizes, product, size_add (s *ℤ slack a p) rounded.0)) (slack_small a p is fits) short

-- ---- both centres

back_parts : (a b p q : ℤ) → (a *ℤ neg_ℤ q) -ℤ (b *ℤ neg_ℤ p) ≡ neg_ℤ ((a *ℤ q) -ℤ (b *ℤ p))
back_parts a b p q = rw (as_diff a, as_diff b, as_diff p, as_diff q) (simp differences (diff-same _ _ _ _ (omega arith)))

way_back : (x b : ℤ) → x -ℤ (x +ℤ b) ≡ neg_ℤ b
way_back x b = omega (arith, ints)

height_back : (t b : Dir) (c : Pt) → cross t (displacement (from c b) c) ≡ neg_ℤ (cross t b)
height_back t b c = rw (way_back c.x b.dx, way_back c.y b.dy) (back_parts t.dx t.dy b.dx b.dy)

on_parts : (a b p q r s : ℤ) → (a *ℤ (q -ℤ s)) -ℤ (b *ℤ (p -ℤ r)) ≡ ((a *ℤ q) -ℤ (b *ℤ p)) -ℤ ((a *ℤ s) -ℤ (b *ℤ r))
on_parts a b p q r s = rw (as_diff a, as_diff b, as_diff p, as_diff q, as_diff r, as_diff s) (simp differences (diff-same _ _ _ _ (omega arith)))

way_on : (x y b : ℤ) → y -ℤ (x +ℤ b) ≡ (y -ℤ x) -ℤ b
way_on x y b = omega (arith, ints)

height_on : (t b : Dir) (c e : Pt) → cross t (displacement (from c b) e) ≡ cross t (displacement c e) -ℤ cross t b
height_on t b c e = rw (way_on c.x e.x b.dx, way_on c.y e.y b.dy) (on_parts t.dx t.dy (e.x -ℤ c.x) (e.y -ℤ c.y) b.dx b.dy)

first_height : (g s : ℤ) → neg_ℤ g ≡ (pos 99999000 *ℤ neg_ℤ s) +ℤ neg_ℤ (g -ℤ (pos 99999000 *ℤ s))
first_height g s = omega (arith, ints)

second_height : (f g s u : ℤ) → neg_ℤ f -ℤ g ≡ (pos 99999000 *ℤ neg_ℤ u) +ℤ neg_ℤ ((f +ℤ (pos 99999000 *ℤ (s -ℤ u))) +ℤ (g -ℤ (pos 99999000 *ℤ s)))
second_height f g s u = omega (arith, ints)

first_room : (th s : ℕ) → 4 * th ≤ 4 * s + 3 * 99999001 → s ≤ 49000000 → th + s + 2 ≤ 2 * 99999000
first_room th s p q = omega (arith, p, q)

pub touches_first : (a : Dir) (p s : ℤ) (c : Pt) → IsDir a → square p ≤ length_squared a → 2 ≤ unsigned_abs s → unsigned_abs s ≤ 49000000
    → OnLine (cross (falling_dir a p) (displacement (from c (touch_way a p s)) c)) (neg_ℤ s) (length_squared (falling_dir a p)) (pos 2)
touches_first a p s c is fits large small =
    let t = falling_dir a p in
    let b = touch_way a p s in
    let room = first_room (unsigned_abs (drift a p s)) (unsigned_abs s) (drift_small a p s is fits) small in
    rw (height_back t b c, first_height (cross t b) s)
    (touching_back (neg_ℤ s) (drift a p s) (length_squared t) (unsigned_abs s) (size_neg s) large room (falling_dir_long a p is fits))

second_room : (l th s u : ℕ) → l + s + u ≤ 98000000 → 4 * th ≤ 4 * s + 3 * 99999001 → (l + th) + u + 2 ≤ 2 * 99999000
second_room l th s u p q = omega (arith, p, q)

pub touches_second : (s u : ℤ) (c e : Pt) → let a = displacement c e in let p = s -ℤ u in IsDir a → square p ≤ length_squared a → 2 ≤ unsigned_abs u
    → unsigned_abs (lag a p) + unsigned_abs s + unsigned_abs u ≤ 98000000
    → OnLine (cross (falling_dir a p) (displacement (from c (touch_way a p s)) e)) (neg_ℤ u) (length_squared (falling_dir a p)) (pos 2)
touches_second s u c e is fits large small =
    let a = displacement c e in
    let p = s -ℤ u in
    let t = falling_dir a p in
    let b = touch_way a p s in
    let room = second_room (unsigned_abs (lag a p)) (unsigned_abs (drift a p s)) (unsigned_abs s) (unsigned_abs u) small (drift_small a p s is fits) in
    let sum : unsigned_abs (lag a p +ℤ drift a p s) + unsigned_abs u + 2 ≤ 2 * 99999000 = omega (arith, room, size_add (lag a p) (drift a p s)) in
    rw (height_on t b c e, cross_swap a t, second_height (cross a t) (cross t b) s u)
    (touching_back (neg_ℤ u) (lag a p +ℤ drift a p s) (length_squared t) (unsigned_abs u) (size_neg u) large sum (falling_dir_long a p is fits))
