-- Away from a stop, where nothing refuses: the end is strictly nearer to the axis than the start.
use Rattle.std.proofs.Common.{refl, ◌≡◌, ℕ, ◌+◌, ◌*◌, ◌≤◌, ◌<◌, subst, arith, ℤ, pos, negsuc, neg_ℤ, ◌+ℤ◌, ◌-ℤ◌, ◌*ℤ◌}
use Rattle.std.proofs.lemmas.Int.{ints}
use Rattle.apt_num.specs.Sign.{AtLeast}
use Rattle.apt_num.proofs.Ring.{as_diff, diff-same, differences}
use Rattle.apt_num.proofs.Squares.{size_neg}
use Rattle.apt_num.proofs.Sums.{at_least-sum}
use Rattle.apt_plane.specs.declared.figures.Dir.{Dir}
use Rattle.apt_plane.specs.Vectors.{dot, length_squared}
use Rattle.apt_plane.proofs.Displacements.{to, dot_square}
use Rattle.apt_plane.proofs.Lengths.{plus}
use Rattle.apt_plane.proofs.Nearby.{IsNearby, IsOnCircle, some_length}
use Rattle.apt_num.proofs.Farther.{hardly_back}
use Rattle.apt_num.proofs.LineSteps.{other_way, line_give}
use Rattle.apt_num.proofs.InsideGive.{inside_give_step}
use Rattle.apt_plane.proofs.Governed.{IsHardlyNearerTo}
use Rattle.apt_plane.proofs.Kept.{start_to_circle, seen}

-- ---- a line stop: the start at least 8 before it, the end at most 1
all_gone : (rest f g : ℤ) → ((rest -ℤ f) +ℤ (f -ℤ g)) +ℤ neg_ℤ (rest -ℤ g) ≡ pos 0
all_gone rest f g = omega (arith, ints)

no_length : (n : ℕ) → 0 < n → AtLeast (pos 0) (pos 1) n → ⊥
no_length n some h = omega (arith, h, some)

one_left : (h : ℤ) → ((h +ℤ pos 8) +ℤ negsuc 5) +ℤ (neg_ℤ h -ℤ pos 1) ≡ pos 1
one_left h = omega (arith, ints)

pub line_away : (p : ℕ) (rest h : ℤ) (s e b : Dir) → 97 ≤ p → 0 < length_squared b → IsNearby p s → IsOnCircle p e
    → AtLeast (rest -ℤ dot b s) (h +ℤ pos 8) (length_squared b) → AtLeast (neg_ℤ (rest -ℤ dot b e)) (neg_ℤ h -ℤ pos 1) (length_squared b) → ¬ IsHardlyNearerTo b s e
line_away p rest h s e b least some start end far near = λ hardly.
    let n = length_squared b in
    let step = line_give p n (length_squared s) (length_squared e) (dot b s) (dot b e) (start_to_circle p s e least start end) (dot_square b s) (dot_square b e) hardly in
    let part = at_least-sum (rest -ℤ dot b s) (dot b s -ℤ dot b e) (h +ℤ pos 8) (negsuc 5) n far step in
    let whole = at_least-sum ((rest -ℤ dot b s) +ℤ (dot b s -ℤ dot b e)) (neg_ℤ (rest -ℤ dot b e)) ((h +ℤ pos 8) +ℤ negsuc 5) (neg_ℤ h -ℤ pos 1) n part near in
    no_length n some (subst (λ (i : ℤ). AtLeast (pos 0) i n) (one_left h) (subst (λ (z : ℤ). AtLeast z (((h +ℤ pos 8) +ℤ negsuc 5) +ℤ (neg_ℤ h -ℤ pos 1)) n) (all_gone rest (dot b s) (dot b e)) whole))

-- ---- a circle stop from inside: the axis is the way from its centre to that of the motion
past : (S n : ℕ) → n ≤ (S + 6) * (S + 6) → (S + 7) * (S + 7) ≤ n → ⊥
past S n h g = omega (arith, h, g)

pub inside_away : (p S : ℕ) (s e b : Dir) → 97 ≤ p → 1 ≤ S → IsNearby p s → IsOnCircle p e → length_squared (plus s b) ≤ S * S → (S + 7) * (S + 7) ≤ length_squared (plus e b) → ¬ IsHardlyNearerTo b s e
inside_away p S s e b least large start end far near = λ hardly.
    past S (length_squared (plus e b))
    (inside_give_step p (length_squared s) (length_squared e) (length_squared b) (length_squared (plus s b)) (length_squared (plus e b)) S (dot b s) (dot b e) (start_to_circle p s e least start end) (seen s e b) hardly far large)
    near

-- ---- and from outside: the axis is the way to its centre
abbrev pub reverse : Dir → Dir
reverse b = to (neg_ℤ b.dx) (neg_ℤ b.dy)

reverse_parts : (a b c d : ℤ) → (neg_ℤ a *ℤ c) +ℤ (neg_ℤ b *ℤ d) ≡ neg_ℤ ((a *ℤ c) +ℤ (b *ℤ d))
reverse_parts a b c d = rw (as_diff a, as_diff b, as_diff c, as_diff d) (simp differences (diff-same _ _ _ _ (omega arith)))

pub dot_reverse : (b v : Dir) → dot (reverse b) v ≡ neg_ℤ (dot b v)
dot_reverse b v = reverse_parts b.dx b.dy v.dx v.dy

pub reverse_length : (b : Dir) → length_squared (reverse b) ≡ length_squared b
reverse_length b = rw (size_neg b.dx, size_neg b.dy) refl

hardly_reverse : (b a v : Dir) → 0 < length_squared a → IsHardlyNearerTo b a v → IsHardlyNearerTo (reverse b) v a
hardly_reverse b a v some hardly = rw (dot_reverse b v, dot_reverse b a) (hardly_back (dot b a) (length_squared a) (dot b v) (length_squared v) some hardly)

pub outside_away : (p S : ℕ) (s e b : Dir) → 97 ≤ p → 1 ≤ S → IsNearby p s → IsOnCircle p e
    → length_squared (plus e (reverse b)) ≤ S * S → (S + 7) * (S + 7) ≤ length_squared (plus s (reverse b)) → ¬ IsHardlyNearerTo b s e
outside_away p S s e b least large start end near far = λ hardly.
    let back = reverse b in
    past S (length_squared (plus s back))
    (inside_give_step p (length_squared e) (length_squared s) (length_squared back) (length_squared (plus e back)) (length_squared (plus s back)) S (dot back e) (dot back s)
    (other_way p (length_squared s) (length_squared e) (start_to_circle p s e least start end)) (seen e s back)
    (hardly_reverse b s e (some_length p s least start) hardly) near large)
    far
