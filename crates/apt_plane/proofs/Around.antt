-- The order from a start: the classes of directions, and three directions in a turn.
use Rattle.std.proofs.Common.{refl, ◌≡◌, ◌≢◌, ◌↔◌, ◌⊎◌, inl, inr, ℕ, zero, suc, ◌+◌, ◌*◌, ◌<◌, ◌∙◌, ap, sym, subst, arith, ℤ, pos, negsuc, neg_ℤ, ◌+ℤ◌, ◌-ℤ◌, ◌*ℤ◌, ◌<ℤ◌, ◌≤ℤ◌, unsigned_abs}
use Rattle.std.proofs.Math.IntN.{*ℤ_comm}
use Rattle.std.proofs.lemmas.Int.{ints}
use Rattle.apt_num.specs.Sign.{sign_of}
use Rattle.apt_num.proofs.Products.{side_cases, both_plus, no_minus, one_each, strict_each, strict_both, plus_of, minus_of, no_plus_of, no_minus_of, some_number}
use Rattle.apt_num.proofs.Turning.{Two, not_first, not_second, not_third, two_after, two_round, two_swap, two_one_way}
use Rattle.apt_plane.specs.declared.figures.Dir.{Dir}
use Rattle.apt_plane.specs.Vectors.{cross, dot, length_squared}
use Rattle.apt_plane.specs.Ranges.{IsSense}
use Rattle.apt_plane.specs.Order.{class_of, turn_class, ComesBefore}
use Rattle.apt_plane.proofs.Displacements.{lagrange, cross_self, square_length_squared}
use Rattle.apt_plane.proofs.Turned.{turned_by, turned_back, plucker_turned, split_turned, about_start}

-- ---- classes: x is the turn from the start, d the dot product with it
abbrev Place : ℤ → ℤ → ℕ → Type 0
Place x d k = ((k ≡ 0) × (x ≡ pos 0) × (pos 0 <ℤ d)) ⊎ (((k ≡ 1) × (pos 0 <ℤ x)) ⊎ (((k ≡ 2) × (x ≡ pos 0) × (d ≤ℤ pos 0)) ⊎ ((k ≡ 3) × (x <ℤ pos 0))))

place : (x d : ℤ) → Place x d (class_of (sign_of x) (sign_of d))
place (pos zero) (pos zero) = inr (inr (inl (refl, refl, omega (arith, ints))))
place (pos zero) (pos (suc d)) = inl (refl, refl, omega (arith, ints))
place (pos zero) (negsuc d) = inr (inr (inl (refl, refl, omega (arith, ints))))
place (pos (suc x)) d = inr (inl (refl, omega (arith, ints)))
place (negsuc x) d = inr (inr (inr (refl, omega (arith, ints))))

-- the half turn lies behind
abbrev pub IsPlace : ℤ → ℤ → ℕ → Type 0
IsPlace x d k = ((k ≡ 0) × (x ≡ pos 0) × (pos 0 <ℤ d)) ⊎ (((k ≡ 1) × (pos 0 <ℤ x)) ⊎ (((k ≡ 2) × (x ≡ pos 0) × (d <ℤ pos 0)) ⊎ ((k ≡ 3) × (x <ℤ pos 0))))

strictly : (x d : ℤ) (k : ℕ) → (x ≡ pos 0 → d ≡ pos 0 → ⊥) → Place x d k → IsPlace x d k
strictly x d k some (inl p) = inl p
strictly x d k some (inr (inl p)) = inr (inl p)
strictly x (pos zero) k some (inr (inr (inl p))) = absurd (some p.1 refl)
strictly x (pos (suc d)) k some (inr (inr (inl p))) = absurd (omega (arith, ints, p))
strictly x (negsuc d) k some (inr (inr (inl p))) = inr (inr (inl (p.0, p.1, omega (arith, ints))))
strictly x d k some (inr (inr (inr p))) = inr (inr (inr p))

no_products : (m n x d : ℕ) → 0 < m → 0 < n → m * n ≡ d * d + x * x → x ≡ 0 → d ≡ 0 → ⊥
no_products (suc m) (suc n) x d p q e f g = omega (arith, rw (f, g) at e)
no_products zero n x d p q e f g = omega arith
no_products m zero x d p q e f g = omega arith

size_of_product : (sense z : ℤ) → IsSense sense → sense *ℤ z ≡ pos 0 → unsigned_abs z ≡ 0
size_of_product sense z (inl e) f = omega (arith, ints, rw e at f)
size_of_product sense z (inr e) f = omega (arith, ints, rw e at f)

pub some_way : (sense : ℤ) (s u : Dir) → IsSense sense → 0 < length_squared s → 0 < length_squared u → turned_by sense s u ≡ pos 0 → dot s u ≡ pos 0 → ⊥
some_way sense s u is p q e f =
    no_products (length_squared s) (length_squared u) (unsigned_abs (cross s u)) (unsigned_abs (dot s u)) p q (lagrange s u) (size_of_product sense (cross s u) is e) (ap unsigned_abs f)

pub is_place : (sense : ℤ) (s u : Dir) → IsSense sense → 0 < length_squared s → 0 < length_squared u → IsPlace (turned_by sense s u) (dot s u) (turn_class s sense u)
is_place sense s u is p q = strictly (turned_by sense s u) (dot s u) (turn_class s sense u) (some_way sense s u is p q) (place (turned_by sense s u) (dot s u))

-- in the direction of the start
pub zero_class : (x d : ℤ) (k : ℕ) → k ≡ 0 → IsPlace x d k → (x ≡ pos 0) × (pos 0 <ℤ d)
zero_class x d k e (inl p) = (p.1, p.2)
zero_class x d k e (inr (inl p)) = absurd (omega (arith, e, p.0))
zero_class x d k e (inr (inr (inl p))) = absurd (omega (arith, e, p.0))
zero_class x d k e (inr (inr (inr p))) = absurd (omega (arith, e, p.0))

-- ---- one class before another
abbrev Comes : ℕ → ℕ → ℤ → Type 0
Comes k l c = (k < l) ⊎ ((k ≡ l) × ((k ≡ 1) ⊎ (k ≡ 3)) × (pos 0 <ℤ c))

never_back : (k l : ℕ) (c : ℤ) → l < k → ¬ Comes k l c
never_back k l c h = λ comes. elim comes [ inl less ↦ omega (arith, less, h) | inr same ↦ omega (arith, same.0, h) ]

never_half : (k l : ℕ) (c : ℤ) → k ≡ 2 → ¬ (k < l) → ¬ Comes k l c
never_half k l c e none = λ comes. elim comes [ inl less ↦ none less | inr same ↦ elim same.1 [ inl one ↦ omega (arith, one, e) | inr three ↦ omega (arith, three, e) ] ]

within : (k l : ℕ) (c : ℤ) → k ≡ l → Comes k l c → pos 0 <ℤ c
within k l c e comes = elim comes [ inl less ↦ absurd (omega (arith, less, e)) | inr same ↦ same.2 ]

-- ---- of one class before another, in numbers

-- n is the square of the length of the start, c the turn from the first to the second
abbrev InFrame : ℕ → ℤ → ℤ → ℤ → ℤ → ℤ → Type 0
InFrame n xu du xv dv c = (0 < n) × (pos n *ℤ c ≡ (du *ℤ xv) -ℤ (xu *ℤ dv))

times_none : (d : ℤ) → d *ℤ pos 0 ≡ pos 0
times_none d = omega (arith, ints)

none_times : (d : ℤ) → pos 0 *ℤ d ≡ pos 0
none_times d = omega (arith, ints)

-- the second on the line of the start
after_line : (n : ℕ) (xu du xv dv c : ℤ) → xv ≡ pos 0 → InFrame n xu du xv dv c → pos n *ℤ c ≡ neg_ℤ (xu *ℤ dv)
after_line n xu du xv dv c e f = f.1 ∙ rw (e, times_none du) (omega (arith, ints))

-- the first on it
before_line : (n : ℕ) (xu du xv dv c : ℤ) → xu ≡ pos 0 → InFrame n xu du xv dv c → pos n *ℤ c ≡ du *ℤ xv
before_line n xu du xv dv c e f = f.1 ∙ rw (e, none_times dv) (omega (arith, ints))

-- the classes say what three turns say, where the first does not lie in the direction of the start
abbrev Tells : ℕ → ℕ → ℤ → ℤ → ℤ → Type 0
Tells k l xu xv c = Comes k l c ↔ Two xu c (neg_ℤ xv)

from_one : (n : ℕ) (xu du xv dv c : ℤ) (k l : ℕ) → InFrame n xu du xv dv c → k ≡ 1 → pos 0 <ℤ xu → IsPlace xv dv l → Tells k l xu xv c
from_one n xu du xv dv c k l f e p (inl v) = (
  λ comes. absurd (never_back k l c (omega (arith, e, v.0)) comes),
  λ two. absurd (omega (arith, ints, (not_second xu c (neg_ℤ xv) (no_plus_of n c f.0 (omega (arith, ints, after_line n xu du xv dv c v.1 f, both_plus xu dv p v.2))) two).0, v.1)),
)
from_one n xu du xv dv c k l f e p (inr (inl v)) = (
  λ comes. inl (p, within k l c (e ∙ sym v.0) comes),
  λ two. inr (e ∙ sym v.0, inl e, (not_third xu c (neg_ℤ xv) (omega (arith, ints, v.1)) two).1),
)
from_one n xu du xv dv c k l f e p (inr (inr (inl v))) = (
  λ comes. inl (p, plus_of n c (omega (arith, ints, after_line n xu du xv dv c v.1 f, strict_each xu dv p v.2))),
  λ two. inl (omega (arith, e, v.0)),
)
from_one n xu du xv dv c k l f e p (inr (inr (inr v))) = (
  λ comes. inr (inr (omega (arith, ints, v.1), p)),
  λ two. inl (omega (arith, e, v.0)),
)

neither : (xu xv c : ℤ) (k l : ℕ) → ¬ Comes k l c → xu ≤ℤ pos 0 → pos 0 ≤ℤ xv → Tells k l xu xv c
neither xu xv c k l none p q = (λ comes. absurd (none comes), λ two. absurd (omega (arith, ints, (not_first xu c (neg_ℤ xv) p two).1, q)))

from_two : (n : ℕ) (xu du xv dv c : ℤ) (k l : ℕ) → InFrame n xu du xv dv c → k ≡ 2 → xu ≡ pos 0 → du <ℤ pos 0 → IsPlace xv dv l → Tells k l xu xv c
from_two n xu du xv dv c k l f e p q (inl v) = neither xu xv c k l (never_back k l c (omega (arith, e, v.0))) (omega (arith, ints, p)) (omega (arith, ints, v.1))
from_two n xu du xv dv c k l f e p q (inr (inl v)) = neither xu xv c k l (never_back k l c (omega (arith, e, v.0))) (omega (arith, ints, p)) (omega (arith, ints, v.1))
from_two n xu du xv dv c k l f e p q (inr (inr (inl v))) = neither xu xv c k l (never_half k l c e (λ less. omega (arith, less, e, v.0))) (omega (arith, ints, p)) (omega (arith, ints, v.1))
from_two n xu du xv dv c k l f e p q (inr (inr (inr v))) = (
  λ comes. inr (inl (plus_of n c (omega (arith, ints, before_line n xu du xv dv c p f, strict_both du xv q v.1)), omega (arith, ints, v.1))),
  λ two. inl (omega (arith, e, v.0)),
)

from_three : (xu xv dv c : ℤ) (k l : ℕ) → k ≡ 3 → xu <ℤ pos 0 → IsPlace xv dv l → Tells k l xu xv c
from_three xu xv dv c k l e p (inl v) = neither xu xv c k l (never_back k l c (omega (arith, e, v.0))) (omega (arith, ints, p)) (omega (arith, ints, v.1))
from_three xu xv dv c k l e p (inr (inl v)) = neither xu xv c k l (never_back k l c (omega (arith, e, v.0))) (omega (arith, ints, p)) (omega (arith, ints, v.1))
from_three xu xv dv c k l e p (inr (inr (inl v))) = neither xu xv c k l (never_back k l c (omega (arith, e, v.0))) (omega (arith, ints, p)) (omega (arith, ints, v.1))
from_three xu xv dv c k l e p (inr (inr (inr v))) = (
  λ comes. inr (inl (within k l c (e ∙ sym v.0) comes, omega (arith, ints, v.1))),
  λ two. inr (e ∙ sym v.0, inr e, (not_first xu c (neg_ℤ xv) (omega (arith, ints, p)) two).0),
)

tells : (n : ℕ) (xu du xv dv c : ℤ) (k l : ℕ) → InFrame n xu du xv dv c → IsPlace xu du k → IsPlace xv dv l → k ≢ 0 → Tells k l xu xv c
tells n xu du xv dv c k l f (inl u) v some = absurd (some u.0)
tells n xu du xv dv c k l f (inr (inl u)) v some = from_one n xu du xv dv c k l f u.0 u.1 v
tells n xu du xv dv c k l f (inr (inr (inl u))) v some = from_two n xu du xv dv c k l f u.0 u.1 u.2 v
tells n xu du xv dv c k l f (inr (inr (inr u))) v some = from_three xu xv dv c k l u.0 u.1 v

-- ---- turning in the sense from s one meets u, then v
abbrev pub Cyc : Dir → ℤ → Dir → Dir → Type 0
Cyc s sense u v = Two (turned_by sense s u) (turned_by sense u v) (turned_by sense v s)

framed : (sense : ℤ) (s u v : Dir) → 0 < length_squared s → InFrame (length_squared s) (turned_by sense s u) (dot s u) (turned_by sense s v) (dot s v) (turned_by sense u v)
framed sense s u v p = (p, about_start sense s u v)

-- of a direction that is not that of the start, the order is that of a turn
pub before_cyc : (sense : ℤ) (s u v : Dir) → IsSense sense → 0 < length_squared s → 0 < length_squared u → 0 < length_squared v → turn_class s sense u ≢ 0
    → ComesBefore s sense u v ↔ Cyc s sense u v
before_cyc sense s u v is p q r some =
    subst (λ (z : ℤ). ComesBefore s sense u v ↔ Two (turned_by sense s u) (turned_by sense u v) z) (sym (turned_back sense s v))
    (tells (length_squared s) (turned_by sense s u) (dot s u) (turned_by sense s v) (dot s v) (turned_by sense u v) (turn_class s sense u) (turn_class s sense v)
    (framed sense s u v p) (is_place sense s u is p q) (is_place sense s v is p r) some)

-- ---- the order of two of which the second lies onwards from the first
onward_from : (n : ℕ) (xu du xv dv c : ℤ) (k l : ℕ) → InFrame n xu du xv dv c → IsPlace xu du k → IsPlace xv dv l → Comes k l c → (pos 0 ≤ℤ xu) ⊎ (xv <ℤ pos 0)
onward_from n xu du xv dv c k l f (inl u) v comes = inl (omega (arith, ints, u.1))
onward_from n xu du xv dv c k l f (inr (inl u)) v comes = inl (omega (arith, ints, u.1))
onward_from n xu du xv dv c k l f (inr (inr (inl u))) v comes = inl (omega (arith, ints, u.1))
onward_from n xu du xv dv c k l f (inr (inr (inr u))) (inl v) comes = absurd (never_back k l c (omega (arith, u.0, v.0)) comes)
onward_from n xu du xv dv c k l f (inr (inr (inr u))) (inr (inl v)) comes = absurd (never_back k l c (omega (arith, u.0, v.0)) comes)
onward_from n xu du xv dv c k l f (inr (inr (inr u))) (inr (inr (inl v))) comes = absurd (never_back k l c (omega (arith, u.0, v.0)) comes)
onward_from n xu du xv dv c k l f (inr (inr (inr u))) (inr (inr (inr v))) comes = inr v.1

-- a first in the direction of the start, and one in the other
from_start : (n : ℕ) (xu du xv dv c : ℤ) (k l : ℕ) → InFrame n xu du xv dv c → pos 0 <ℤ c → k ≡ 0 → xu ≡ pos 0 → pos 0 <ℤ du → IsPlace xv dv l → Comes k l c
from_start n xu du xv dv c k l f p e q r (inl v) = absurd (omega (arith, ints, p, both_plus (pos n) c (omega (arith, ints, f.0)) p, before_line n xu du xv dv c q f ∙ ap (λ z. du *ℤ z) v.1, times_none du))
from_start n xu du xv dv c k l f p e q r (inr (inl v)) = inl (omega (arith, e, v.0))
from_start n xu du xv dv c k l f p e q r (inr (inr (inl v))) = inl (omega (arith, e, v.0))
from_start n xu du xv dv c k l f p e q r (inr (inr (inr v))) = inl (omega (arith, e, v.0))

from_half : (n : ℕ) (xu du xv dv c : ℤ) (k l : ℕ) → InFrame n xu du xv dv c → pos 0 <ℤ c → k ≡ 2 → xu ≡ pos 0 → du <ℤ pos 0 → IsPlace xv dv l → Comes k l c
from_half n xu du xv dv c k l f p e q r (inl v) = absurd (omega (arith, ints, both_plus (pos n) c (omega (arith, ints, f.0)) p, before_line n xu du xv dv c q f ∙ ap (λ z. du *ℤ z) v.1, times_none du))
from_half n xu du xv dv c k l f p e q r (inr (inl v)) = absurd (omega (arith, ints, both_plus (pos n) c (omega (arith, ints, f.0)) p, before_line n xu du xv dv c q f, one_each du xv (omega (arith, ints, r)) (omega (arith, ints, v.1))))
from_half n xu du xv dv c k l f p e q r (inr (inr (inl v))) = absurd (omega (arith, ints, both_plus (pos n) c (omega (arith, ints, f.0)) p, before_line n xu du xv dv c q f ∙ ap (λ z. du *ℤ z) v.1, times_none du))
from_half n xu du xv dv c k l f p e q r (inr (inr (inr v))) = inl (omega (arith, e, v.0))

from_near : (n : ℕ) (xu du xv dv c : ℤ) (k l : ℕ) → InFrame n xu du xv dv c → pos 0 <ℤ c → k ≡ 1 → pos 0 <ℤ xu → IsPlace xv dv l → Comes k l c
from_near n xu du xv dv c k l f p e q (inl v) = absurd (omega (arith, ints, both_plus (pos n) c (omega (arith, ints, f.0)) p, after_line n xu du xv dv c v.1 f, both_plus xu dv q v.2))
from_near n xu du xv dv c k l f p e q (inr (inl v)) = inr (e ∙ sym v.0, inl e, p)
from_near n xu du xv dv c k l f p e q (inr (inr (inl v))) = inl (omega (arith, e, v.0))
from_near n xu du xv dv c k l f p e q (inr (inr (inr v))) = inl (omega (arith, e, v.0))

from_far : (xv dv c : ℤ) (k l : ℕ) → pos 0 <ℤ c → k ≡ 3 → xv <ℤ pos 0 → IsPlace xv dv l → Comes k l c
from_far xv dv c k l p e q (inl v) = absurd (omega (arith, ints, v.1, q))
from_far xv dv c k l p e q (inr (inl v)) = absurd (omega (arith, ints, v.1, q))
from_far xv dv c k l p e q (inr (inr (inl v))) = absurd (omega (arith, ints, v.1, q))
from_far xv dv c k l p e q (inr (inr (inr v))) = inr (e ∙ sym v.0, inr e, p)

far_second : (xu xv : ℤ) → xu <ℤ pos 0 → (pos 0 ≤ℤ xu) ⊎ (xv <ℤ pos 0) → xv <ℤ pos 0
far_second xu xv h (inl p) = absurd (omega (arith, ints))
far_second xu xv h (inr p) = p

onward_to : (n : ℕ) (xu du xv dv c : ℤ) (k l : ℕ) → InFrame n xu du xv dv c → pos 0 <ℤ c → IsPlace xu du k → IsPlace xv dv l → (pos 0 ≤ℤ xu) ⊎ (xv <ℤ pos 0) → Comes k l c
onward_to n xu du xv dv c k l f p (inl u) v where_ = from_start n xu du xv dv c k l f p u.0 u.1 u.2 v
onward_to n xu du xv dv c k l f p (inr (inl u)) v where_ = from_near n xu du xv dv c k l f p u.0 u.1 v
onward_to n xu du xv dv c k l f p (inr (inr (inl u))) v where_ = from_half n xu du xv dv c k l f p u.0 u.1 u.2 v
onward_to n xu du xv dv c k l f p (inr (inr (inr u))) v where_ = from_far xv dv c k l p u.0 (far_second xu xv u.1 where_) v

pub before_onward : (sense : ℤ) (s u v : Dir) → IsSense sense → 0 < length_squared s → 0 < length_squared u → 0 < length_squared v → pos 0 <ℤ turned_by sense u v
    → ComesBefore s sense u v ↔ ((pos 0 ≤ℤ turned_by sense s u) ⊎ (turned_by sense s v <ℤ pos 0))
before_onward sense s u v is p q r onwards =
    let f = framed sense s u v p in
    let u_place = is_place sense s u is p q in
    let v_place = is_place sense s v is p r in (
      λ comes. onward_from (length_squared s) (turned_by sense s u) (dot s u) (turned_by sense s v) (dot s v) (turned_by sense u v) (turn_class s sense u) (turn_class s sense v) f u_place v_place comes,
      λ tells. onward_to (length_squared s) (turned_by sense s u) (dot s u) (turned_by sense s v) (dot s v) (turned_by sense u v) (turn_class s sense u) (turn_class s sense v) f onwards u_place v_place tells,
    )

-- ---- from the start itself
start_class : (x d : ℤ) → x ≡ pos 0 → pos 0 <ℤ d → class_of (sign_of x) (sign_of d) ≡ 0
start_class x (pos zero) e h = absurd (omega (arith, ints))
start_class x (pos (suc d)) e h = rw e refl
start_class x (negsuc d) e h = absurd (omega (arith, ints))

sense_none : (sense z : ℤ) → z ≡ pos 0 → sense *ℤ z ≡ pos 0
sense_none sense z e = rw e (omega (arith, ints))

pub class_of_start : (sense : ℤ) (s : Dir) → 0 < length_squared s → turn_class s sense s ≡ 0
class_of_start sense s p =
    start_class (turned_by sense s s) (dot s s) (sense_none sense (cross s s) (cross_self s)) (rw (← square_length_squared s) (omega (arith, ints, p)))

none_less : (k l : ℕ) (c : ℤ) → k ≡ 0 → Comes k l c ↔ (l ≢ 0)
none_less k l c e = (
  λ comes. elim comes [ inl less ↦ λ f. omega (arith, less, f) | inr same ↦ elim same.1 [ inl one ↦ absurd (omega (arith, one, e)) | inr three ↦ absurd (omega (arith, three, e)) ] ],
  λ some. inl (rw e (some_number l some)),
)

pub before_from_start : (sense : ℤ) (s v : Dir) → 0 < length_squared s → ComesBefore s sense s v ↔ (turn_class s sense v ≢ 0)
before_from_start sense s v p = none_less (turn_class s sense s) (turn_class s sense v) (turned_by sense s v) (class_of_start sense s p)

-- ---- turns round, and one after the other
pub cyc_round : (sense : ℤ) (s u v : Dir) → Cyc s sense u v → Cyc u sense v s
cyc_round sense s u v two = two_round (turned_by sense s u) (turned_by sense u v) (turned_by sense v s) two

pub cyc_once : (sense : ℤ) (s u v : Dir) → Cyc s sense u v → Cyc s sense v u → ⊥
cyc_once sense s u v one other =
    two_one_way (turned_by sense u v) (turned_by sense v s) (turned_by sense s u) (turned_by sense v u) (turned_by sense s v) (turned_by sense u s)
    (turned_back sense u v) (turned_back sense v s) (turned_back sense s u)
    (two_round (turned_by sense s u) (turned_by sense u v) (turned_by sense v s) one) (two_swap (turned_by sense s v) (turned_by sense v u) (turned_by sense u s) other)

pub cyc_after : (sense : ℤ) (s u v w : Dir) → IsSense sense → Cyc s sense u v → Cyc s sense v w → Cyc s sense u w
cyc_after sense s u v w is one two =
    two_after (turned_by sense s u) (turned_by sense u v) (turned_by sense v s) (turned_by sense v w) (turned_by sense w s) (turned_by sense u w) (turned_by sense s v)
    (plucker_turned sense s u v w is) (turned_back sense v s) one two

-- four on a way
pub cyc_on_a_way : (sense : ℤ) (s x e b : Dir) → IsSense sense → Cyc s sense x e → Cyc s sense e b → Cyc b sense s x × Cyc b sense x e
cyc_on_a_way sense s x e b is one two =
    let whole = cyc_after sense s x e b is one two in
    let back = cyc_after sense e b s x is (cyc_round sense s e b two) (cyc_round sense x e s (cyc_round sense s x e one)) in
    (cyc_round sense x b s (cyc_round sense s x b whole), cyc_round sense e b x back)

-- ---- between
middle_core : (ab am mb sa sb sm : ℤ) → (sa *ℤ mb) +ℤ (sb *ℤ am) ≡ sm *ℤ ab → pos 0 <ℤ ab → pos 0 <ℤ am → pos 0 <ℤ mb
    → (pos 0 ≤ℤ sa) ⊎ (sb <ℤ pos 0) → ((pos 0 ≤ℤ sa) ⊎ (sm <ℤ pos 0)) × ((pos 0 ≤ℤ sm) ⊎ (sb <ℤ pos 0))
middle_core ab am mb sa sb sm e p q r where_ = elim (side_cases sb) [
  | inl below ↦ elim (side_cases sa) [
    | inl under ↦ (inr (minus_by sm ab p (omega (arith, ints, e, strict_each mb sa r under, *ℤ_comm mb sa, strict_each am sb q below, *ℤ_comm am sb))), inr below)
    | inr over ↦ (inl over, inr below)
  ]
  | inr above ↦
      let over : pos 0 ≤ℤ sa = elim where_ [ inl h ↦ h | inr h ↦ absurd (omega (arith, ints)) ] in
      (inl over, inl (no_minus_by sm ab p (omega (arith, ints, e, no_minus sa mb over (omega (arith, ints)), no_minus sb am above (omega (arith, ints))))))
]
  where
    minus_by : (z n : ℤ) → pos 0 <ℤ n → (z *ℤ n) <ℤ pos 0 → z <ℤ pos 0
    minus_by z (pos n) some h = minus_of n z (omega (arith, ints, *ℤ_comm z (pos n)))
    minus_by z (negsuc n) some h = absurd (omega (arith, ints))

    no_minus_by : (z n : ℤ) → pos 0 <ℤ n → pos 0 ≤ℤ (z *ℤ n) → pos 0 ≤ℤ z
    no_minus_by z (pos n) some h = no_minus_of n z (omega (arith, ints)) (omega (arith, ints, *ℤ_comm z (pos n)))
    no_minus_by z (negsuc n) some h = absurd (omega (arith, ints))

-- ---- a point between two that follow each other comes between them in the order, the start included
pub before_between : (sense : ℤ) (s a m b : Dir) → IsSense sense → 0 < length_squared s → 0 < length_squared a → 0 < length_squared m → 0 < length_squared b
    → pos 0 <ℤ turned_by sense a b → pos 0 <ℤ turned_by sense a m → pos 0 <ℤ turned_by sense m b → ComesBefore s sense a b → ComesBefore s sense a m × ComesBefore s sense m b
before_between sense s a m b is ps pa pm pb ab am mb before =
    let both = middle_core (turned_by sense a b) (turned_by sense a m) (turned_by sense m b) (turned_by sense s a) (turned_by sense s b) (turned_by sense s m) (split_turned sense s a m b is) ab am mb ((before_onward sense s a b is ps pa pb ab).0 before) in
    ((before_onward sense s a m is ps pa pm am).1 both.0, (before_onward sense s m b is ps pm pb mb).1 both.1)
