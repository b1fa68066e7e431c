-- Numbers without leading zeros: how many digits are written, and those behind the first ones.
use Rattle.std.proofs.Common.{◌≡◌, ◌∙◌, ℕ, zero, suc, ◌+◌, ◌-◌, ◌*◌, ◌/◌, ◌%◌, ◌^◌, ◌<◌, ◌≤◌, ◌↔◌, nat_lt, ℤ, unsigned_abs, Bool, true, false, List, [], ◌∷◌, ◌++◌, map, cond, ap, sym, subst, refl, arith, lit<}
use Rattle.std.proofs.lemmas.Bool.Decides.{nat_tests}
use Rattle.std.proofs.lemmas.Nat.{pow-add}
use Rattle.std.proofs.Math.Nat.{div-lt_iff_lt-mul, one-le-pow, pow-le-pow_right}
use Rattle.apt_block.specs.Block.{digits, room_for, sign, number_text, forms, form_in}
use Rattle.apt_block.proofs.Digits.{front_and_last}
use Rattle.apt_block.proofs.Written.{written_append}

-- ---- how many digits are written

below : (a b : ℕ) → nat_lt a b ≡ true → a < b
below a b e = grind (arith, nat_tests)

above : (a b : ℕ) → nat_lt a b ≡ false → b ≤ a
above a b e = grind (arith, nat_tests)

test_below : (a b : ℕ) → a < b → nat_lt a b ≡ true
test_below a b h = grind (arith, nat_tests)

test_above : (a b : ℕ) → b ≤ a → nat_lt a b ≡ false
test_above a b h = grind (arith, nat_tests)

-- so many digits are room enough
room_here : (n more v : ℕ) → v < 10 ^ n → n ≡ room_for n more v
room_here n zero v fits = refl
room_here n (suc more) v fits = sym (ap (λ t. cond t n (room_for (n + 1) more v)) (test_below v (10 ^ n) fits))

-- more room than is needed changes nothing
room_within : (n more extra v : ℕ) → v < 10 ^ (n + more) → room_for n more v ≡ room_for n (more + extra) v
room_within n zero extra v fits = room_here n extra v (subst (λ m. v < 10 ^ m) none fits) ∙ ap (λ k. room_for n k v) none_more
  where
    none : n + 0 ≡ n
    none = omega arith

    none_more : extra ≡ 0 + extra
    none_more = omega arith
room_within n (suc more) extra v fits =
    go (nat_lt v (10 ^ n)) (room_within (n + 1) more extra v (subst (λ m. v < 10 ^ m) one_less fits)) ∙ ap (λ k. room_for n k v) one_more
  where
    one_less : n + suc more ≡ n + 1 + more
    one_less = omega arith

    one_more : suc (more + extra) ≡ suc more + extra
    one_more = omega arith

    go : (t : Bool) → room_for (n + 1) more v ≡ room_for (n + 1) (more + extra) v → cond t n (room_for (n + 1) more v) ≡ cond t n (room_for (n + 1) (more + extra) v)
    go true same = refl
    go false same = same

-- a number that has no room in m digits has more
room_beyond : (m more v : ℕ) → 10 ^ m ≤ v → room_for (suc m) more v ≡ room_for 1 (m + more) v
room_beyond zero more v h = ap (λ k. room_for 1 k v) none_more
  where
    none_more : more ≡ 0 + more
    none_more = omega arith
room_beyond (suc m) more v h =
    ap (λ n. room_for n more v) one_more
    ∙ sym (ap (λ t. cond t (suc m) (room_for (suc m + 1) more v)) (test_above v (10 ^ suc m) h))
    ∙ room_beyond m (suc more) v (omega (arith, h, pow-le-pow_right {n = 10} (lit< tt) {i = m} {j = suc m} (omega arith)))
    ∙ ap (λ k. room_for 1 k v) all
  where
    one_more : suc (suc m) ≡ suc m + 1
    one_more = omega arith

    all : m + suc more ≡ suc m + more
    all = omega arith

-- a number has room where what is in front of its last m digits has room in m fewer
same_test : (n m v : ℕ) → nat_lt (v / 10 ^ m) (10 ^ n) ≡ nat_lt v (10 ^ (n + m))
same_test n m v = go (nat_lt (v / 10 ^ m) (10 ^ n)) refl (nat_lt v (10 ^ (n + m))) refl
  where
    scaled : (v / 10 ^ m < 10 ^ n) ↔ (v < 10 ^ n * 10 ^ m)
    scaled = div-lt_iff_lt-mul {k = 10 ^ m} {x = v} {y = 10 ^ n} (one-le-pow m 10 (lit< tt))

    power : 10 ^ (n + m) ≡ 10 ^ n * 10 ^ m
    power = pow-add 10 n m

    go : (t : Bool) → nat_lt (v / 10 ^ m) (10 ^ n) ≡ t → (u : Bool) → nat_lt v (10 ^ (n + m)) ≡ u → t ≡ u
    go true e true f = refl
    go true e false f = absurd (omega (arith, power, scaled.0 (below _ _ e), above _ _ f))
    go false e true f = absurd (omega (arith, scaled.1 (subst (λ p. v < p) power (below _ _ f)), above _ _ e))
    go false e false f = refl

-- so with m digits behind it, it has m more
room_behind : (n more m v : ℕ) → room_for n more (v / 10 ^ m) + m ≡ room_for (n + m) more v
room_behind n zero m v = refl
room_behind n (suc more) m v = go (nat_lt (v / 10 ^ m) (10 ^ n)) (room_behind (n + 1) more m v) ∙ ap (λ t. cond t (n + m) (room_for (n + m + 1) more v)) (same_test n m v)
  where
    one_more : n + 1 + m ≡ n + m + 1
    one_more = omega arith

    go : (t : Bool) → room_for (n + 1) more (v / 10 ^ m) + m ≡ room_for (n + 1 + m) more v → cond t n (room_for (n + 1) more (v / 10 ^ m)) + m ≡ cond t (n + m) (room_for (n + m + 1) more v)
    go true same = refl
    go false same = same ∙ ap (λ k. room_for k more v) one_more

-- the last m digits behind what is in front of them
joined : (more m v : ℕ) → 10 ^ m ≤ v → digits (room_for 1 more (v / 10 ^ m)) (v / 10 ^ m) ++ digits m v ≡ digits (room_for 1 (m + more) v) v
joined more m v h = front_and_last (room_for 1 more (v / 10 ^ m)) m v ∙ ap (λ n. digits n v) (room_behind 1 more m v ∙ ap (λ n. room_for n more v) one_more ∙ room_beyond m more v h)
  where
    one_more : 1 + m ≡ suc m
    one_more = omega arith

-- ---- in a hand

within : (more extra : ℕ) (hand : ℕ → ℕ) (done : List ℕ) (v : ℕ) → v < 10 ^ (1 + more) → done ++ map hand (digits (room_for 1 more v) v) ≡ done ++ map hand (digits (room_for 1 (more + extra) v) v)
within more extra hand done v small = ap (λ n. done ++ map hand (digits n v)) (room_within 1 more extra v small)

beyond : (more m : ℕ) (hand : ℕ → ℕ) (done : List ℕ) (v : ℕ) → 10 ^ m ≤ v
    → (done ++ map hand (digits (room_for 1 more (v / 10 ^ m)) (v / 10 ^ m))) ++ map hand (digits m v) ≡ done ++ map hand (digits (room_for 1 (m + more) v) v)
beyond more m hand done v h =
    written_append hand done (digits (room_for 1 more (v / 10 ^ m)) (v / 10 ^ m)) (digits m v) ∙ ap (λ ds. done ++ map hand ds) (joined more m v h)

pub within_one : (hand : ℕ → ℕ) (done : List ℕ) (v : ℕ) → v < 10 → done ++ hand (48 + v) ∷ [] ≡ done ++ map hand (digits (room_for 1 1 v) v)
within_one hand done v small =
    let a : v ≡ v / 10 ^ 0 % 10 = omega (arith, small) in
    ap (λ d. done ++ hand (48 + d) ∷ []) a ∙ within 0 1 hand done v small

pub beyond_one : (hand : ℕ → ℕ) (done : List ℕ) (v : ℕ) → 10 ≤ v → done ++ map hand (digits 2 v) ≡ done ++ map hand (digits (room_for 1 1 v) v)
beyond_one hand done v h = ap (λ n. done ++ map hand (digits n v)) (room_beyond 1 0 v h)

pub within_two : (hand : ℕ → ℕ) (done : List ℕ) (v : ℕ) → v < 100 → done ++ map hand (digits (room_for 1 1 v) v) ≡ done ++ map hand (digits (room_for 1 3 v) v)
within_two hand done v small = within 1 2 hand done v small

pub beyond_two : (hand : ℕ → ℕ) (done : List ℕ) (v : ℕ) → 100 ≤ v
    → (done ++ map hand (digits (room_for 1 1 (v / 100)) (v / 100))) ++ map hand (digits 2 v) ≡ done ++ map hand (digits (room_for 1 3 v) v)
beyond_two hand done v h = beyond 1 2 hand done v h

pub within_four : (hand : ℕ → ℕ) (done : List ℕ) (v : ℕ) → v < 10000 → done ++ map hand (digits (room_for 1 3 v) v) ≡ done ++ map hand (digits (room_for 1 7 v) v)
within_four hand done v small = within 3 4 hand done v small

pub beyond_four : (hand : ℕ → ℕ) (done : List ℕ) (v : ℕ) → 10000 ≤ v
    → (done ++ map hand (digits (room_for 1 3 (v / 10000)) (v / 10000))) ++ map hand (digits 4 v) ≡ done ++ map hand (digits (room_for 1 7 v) v)
beyond_four hand done v h = beyond 3 4 hand done v h

-- behind a letter whose numbers have such a form
pub signed_written : (hand : ℕ → ℕ) (done now : List ℕ) (letter s u : ℕ) (v : ℤ) → (form_in forms letter).signed ≡ true → (form_in forms letter).fewest ≡ 1 → (form_in forms letter).digits ≡ 8
    → s ≡ sign v → u ≡ unsigned_abs v → now ≡ done ++ hand s ∷ map hand (digits (room_for 1 7 u) u) → now ≡ done ++ map hand (number_text true (form_in forms letter) v)
signed_written hand done now letter s u v signed fewest most is size e =
    e ∙ (λ i. done ++ hand (is i) ∷ map hand (digits (room_for 1 7 (size i)) (size i)))
    ∙ sym (λ i. done ++ map hand (cond (signed i) (sign v ∷ []) [] ++ digits (room_for (fewest i) (most i - fewest i) (unsigned_abs v)) (unsigned_abs v)))

pub unsigned_written : (hand : ℕ → ℕ) (done now : List ℕ) (letter u : ℕ) (v : ℤ) → (form_in forms letter).signed ≡ false → (form_in forms letter).fewest ≡ 1 → (form_in forms letter).digits ≡ 4
    → u ≡ unsigned_abs v → now ≡ done ++ map hand (digits (room_for 1 3 u) u) → now ≡ done ++ map hand (number_text true (form_in forms letter) v)
unsigned_written hand done now letter u v signed fewest most size e =
    e ∙ (λ i. done ++ map hand (digits (room_for 1 3 (size i)) (size i)))
    ∙ sym (λ i. done ++ map hand (cond (signed i) (sign v ∷ []) [] ++ digits (room_for (fewest i) (most i - fewest i) (unsigned_abs v)) (unsigned_abs v)))
