-- The first point of a pattern is the one from which it leads, and the last the one to which it leads.
use Rattle.std.proofs.Common.{◌≡◌, ◌≢◌, ◌∙◌, ℕ, zero, suc, ◌-◌, ◌*◌, ◌≤◌, ◌<◌, ℤ, pos, refl, arith}
use Rattle.std.specs.Prelude.{◌-ℤ◌, ◌*ℤ◌, unsigned_abs}
use Rattle.std.proofs.lemmas.Int.{ints}
use Rattle.apt_num.specs.Near.{near}
use Rattle.apt_num.proofs.Nearest.{near_bound, near_remainder}
use Rattle.apt_num.proofs.Squares.{size_mul}
use Rattle.apt_num.proofs.Ring.{as_diff, diff-same, diff-pos, differences}
use Rattle.apt_pattern.specs.declared.pattern.Pattern.{Pattern}
use Rattle.apt_pattern.specs.Patterns.{along, point_at}

some_pos : (n : ℕ) → 0 < n → pos n ≢ pos 0
some_pos n h e = absurd (omega (arith, ints, h, e))

nothing : (z : ℤ) → unsigned_abs z ≤ 0 → z ≡ pos 0
nothing z h = omega (arith, ints, h)

no_share : (a : ℤ) (n : ℕ) → 0 < n → near (a *ℤ pos 0) (pos n) ≡ pos 0
no_share a n h = nothing (near (a *ℤ pos 0) (pos n)) (near_bound (a *ℤ pos 0) (pos n) 0 (some_pos n h) (omega (arith, size_mul a (pos 0))))

first_along : (p q : ℤ) (last : ℕ) → 0 < last → along p q last 0 ≡ p
first_along p q last h = let e = no_share (q -ℤ p) last h in omega (arith, ints, e)

-- so many times a number, less a remainder of at most half of it
small_left : (n : ℕ) (d : ℤ) → 0 < n → 2 * unsigned_abs (pos n *ℤ d) ≤ n → d ≡ pos 0
small_left n d h small = nothing d (least n (unsigned_abs d) h (omega (arith, small, size_mul (pos n) d)))
  where
    least : (n k : ℕ) → 0 < n → 2 * (n * k) ≤ n → k ≤ 0
    least n zero h e = omega arith
    least n (suc k) h e = absurd (omega (arith, h, e))

apart : (n : ℕ) (x a : ℤ) → pos n *ℤ (x -ℤ a) ≡ (pos n *ℤ x) -ℤ (a *ℤ pos n)
apart n x a = rw (as_diff x, as_diff a, diff-pos n) (simp differences (diff-same _ _ _ _ (omega arith)))

whole_share : (a : ℤ) (n : ℕ) → 0 < n → near (a *ℤ pos n) (pos n) ≡ a
whole_share a n h =
    let x = near (a *ℤ pos n) (pos n) in
    let r = near_remainder (a *ℤ pos n) (pos n) (some_pos n h) in
    let left : pos n *ℤ (x -ℤ a) ≡ r.0 = apart n x a ∙ (omega (arith, ints, r.1)) in
    let none = small_left n (x -ℤ a) h (rw left r.2) in
    omega (arith, ints, none)

last_along : (p q : ℤ) (last : ℕ) → 0 < last → along p q last last ≡ q
last_along p q last h = let e = whole_share (q -ℤ p) last h in omega (arith, ints, e)

some_last : (count : ℕ) → 2 ≤ count → 0 < count - 1
some_last count h = omega (arith, h)

pub first_point : (pattern : Pattern) → 2 ≤ pattern.count → point_at pattern 0 ≡ pattern.from
first_point pattern h =
    let last = pattern.count - 1 in
    let some = some_last pattern.count h in
    rw (first_along pattern.from.xy.x pattern.to.xy.x last some, first_along pattern.from.xy.y pattern.to.xy.y last some, first_along pattern.from.z pattern.to.z last some) refl

pub last_point : (pattern : Pattern) → 2 ≤ pattern.count → point_at pattern (pattern.count - 1) ≡ pattern.to
last_point pattern h =
    let last = pattern.count - 1 in
    let some = some_last pattern.count h in
    rw (last_along pattern.from.xy.x pattern.to.xy.x last some, last_along pattern.from.xy.y pattern.to.xy.y last some, last_along pattern.from.z pattern.to.z last some) refl
