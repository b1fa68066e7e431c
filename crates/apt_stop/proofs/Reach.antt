-- That a straight motion leads on to a circle: the numbers. M is the square of the heading's length, l and a are the parts of a way from the stop's centre along and across it.
use Rattle.std.proofs.Common.{◌≡◌, ℕ, ◌+◌, ◌*◌, ◌≤◌, ◌<◌, inl, inr, arith, ap}
use Rattle.std.proofs.Math.Nat.{mul-le-mul_left}
use Rattle.std.proofs.lemmas.Nat.{mul-le}
use Rattle.std.proofs.lemmas.Bool.{cases_lt}
use Rattle.apt_num.proofs.Squares.{root_le, cancel_le}

-- across by at most q lengths, and D at most 4: their product
across_times : (M q a D : ℕ) → a * a ≤ q * q * M → D * D ≤ 16 * M → a * D ≤ 4 * (q * M)
across_times M q a D h d = root_le (a * D) (4 * (q * M)) (omega (arith, mul-le (a * a) (D * D) (q * q * M) (16 * M) h d))

-- outside: u the start, v the contact, q is rs + 1
pub outside_ahead : (M q Nu Nv lu lv au av D : ℕ) → 0 < M → M * Nu ≡ lu * lu + au * au → M * Nv ≡ lv * lv + av * av
    → au ≤ av + D → D * D ≤ 16 * M → Nv ≤ q * q → (q + 7) * (q + 7) ≤ Nu → lv < lu
outside_ahead M q Nu Nv lu lv au av D positive u v near d inside outside = elim (cases_lt lv lu) [
  | inl less ↦ less
  | inr past ↦
      let part : av * av ≤ q * q * M = omega (arith, v, mul-le-mul_left M inside) in
      let both = across_times M q av D part d in
      absurd (omega (arith, u, v, mul-le lu lu lv lv past past, mul-le au au (av + D) (av + D) near near, d, both, mul-le-mul_left M inside, mul-le-mul_left M outside, positive))
]

-- inside: the contact lies onwards of the centre, or hardly behind it; p is rs - 8
pub inside_ahead : (M p Nu Nv lu lv au av D : ℕ) → 0 < M → M * Nu ≡ lu * lu + au * au → M * Nv ≡ lv * lv + av * av
    → av ≤ au + D → D * D ≤ 16 * M → Nu ≤ p * p → (p + 7) * (p + 7) ≤ Nv → 2 * (lu * lu) + M < 2 * (lv * lv)
inside_ahead M p Nu Nv lu lv au av D positive u v near d inside outside = elim (cases_lt (2 * (lu * lu) + M) (2 * (lv * lv))) [
  | inl less ↦ less
  | inr past ↦
      let part : au * au ≤ p * p * M = omega (arith, u, mul-le-mul_left M inside) in
      let both = across_times M p au D part d in
      absurd (omega (arith, u, v, past, mul-le av av (au + D) (au + D) near near, d, both, mul-le-mul_left M inside, mul-le-mul_left M outside, positive))
]

-- ---- outside, of all points of the way: k of n parts back from the contact, t is 8 less than the radius
across_back : (n a A D : ℕ) → n * a ≤ A + n * D → n * n * (a * a) ≤ A * A + 2 * (n * n * (a * D))
across_back n a A D h = elim (cases_lt (n * a) A) [
  | inl less ↦ omega (arith, mul-le (n * a) (n * a) A A (omega arith) (omega arith))
  | inr past ↦ omega (arith, mul-le-mul_left (n * a) h, mul-le-mul_left A h, mul-le-mul_left (n * D) past)
]

pub outside_kept : (M n t Ne Nx le ae lx ax D : ℕ) → 0 < M → M * Ne ≡ le * le + ae * ae → M * Nx ≡ lx * lx + ax * ax → 2 * (n * n * (le * le)) ≤ 2 * (lx * lx) + n * n * M
    → n * ae ≤ ax + n * D → D * D ≤ 16 * M → (t + 7) * (t + 7) ≤ Ne → Ne ≤ (t + 9) * (t + 9) → 92 ≤ t → n * n * (t * t) ≤ Nx
outside_kept M n t Ne Nx le ae lx ax D positive e x along across d far near large =
    let part : ae * ae ≤ (t + 9) * (t + 9) * M = omega (arith, e, mul-le-mul_left M near) in
    let both : n * n * (ae * D) ≤ n * n * (4 * ((t + 9) * M)) = mul-le-mul_left (n * n) (across_times M (t + 9) ae D part d) in
    let back = across_back n ae ax D across in
    let room : 2 * (t * t) + (16 * (t + 9) + 1) ≤ 2 * ((t + 7) * (t + 7)) = omega (arith, large) in
    cancel_le M (n * n * (t * t)) Nx positive
    (omega (arith, e, x, along, back, both, ap (λ z. n * n * z) e, mul-le-mul_left (n * n * M) far, mul-le-mul_left (n * n * M) room))

-- ---- the foot of a centre: along by less than a unit, across by a length up to 3
pub touch_far : (M t N l a : ℕ) → 0 < M → M * N ≡ l * l + a * a → t * t * M ≤ a * a → t * t ≤ N
touch_far M t N l a positive e far = cancel_le M (t * t) N positive (omega (arith, e, far))

pub touch_near : (M t N l a : ℕ) → 0 < M → M * N ≡ l * l + a * a → 2 * (l * l) ≤ M → a * a ≤ t * t * M → N ≤ (t + 1) * (t + 1)
touch_near M t N l a positive e along near = cancel_le M N ((t + 1) * (t + 1)) positive (omega (arith, e, along, near))

-- ---- the end on an axis: across it by less than a unit
pub touch_within : (M t N l a : ℕ) → 0 < M → M * N ≡ l * l + a * a → 2 * (l * l) ≤ M → a * a ≤ t * t * M → N ≤ t * t
touch_within M t N l a positive e along near = elim (cases_lt (t * t) N) [
  | inl past ↦ absurd (omega (arith, e, along, near, mul-le-mul_left M past, positive))
  | inr fine ↦ fine
]
