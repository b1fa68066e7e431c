-- What the signs of a centre against the two lines a radius away from a line tell of the line and the circle.
use Rattle.std.proofs.Common.{refl, ◌≡◌, ◌≢◌, ◌↔◌, ℕ, arith, ◌⊎◌, inl, inr, ℤ, pos, ◌+ℤ◌, ◌-ℤ◌, ◌≤ℤ◌, neg_ℤ}
use Rattle.std.proofs.lemmas.Int.{ints}
use Rattle.apt_num.specs.declared.Sign.{Sign}
use Rattle.apt_num.specs.declared.Sign.TheVariants.{Minus, Zero, Plus}
use Rattle.apt_num.specs.Sign.{root_sign_of, AtLeast, OnLine}
use Rattle.apt_num.proofs.AtLeast.{root_sign_at_least, root_sign_at_most}
use Rattle.apt_num.proofs.Sums.{at_least-weaker}
use Rattle.apt_contact.specs.declared.Meeting.TheVariants.{Parallel, Apart, One}
use Rattle.apt_contact.specs.Meetings.{by_sides}

-- what is not past the far line is not past the near one on the other side, and the other way round
pub record InOrder (far near : Sign) : Type 0 where
  pub up : far ≢ Minus → near ≢ Minus
  pub down : near ≢ Plus → far ≢ Plus

-- between the far line and the near one
abbrev pub Between : Sign → Sign → Type 0
Between far near = (near ≢ Minus) × (far ≢ Plus)

pub signs_in_order : (k h r : ℤ) (n : ℕ) → pos 0 ≤ℤ r → InOrder (root_sign_of k (h +ℤ r) n) (root_sign_of k (h -ℤ r) n)
signs_in_order k h r n is = record {
  up = λ d. (root_sign_at_least k (h -ℤ r) n).1 (at_least-weaker k (h +ℤ r) (h -ℤ r) n (omega (arith, ints)) ((root_sign_at_least k (h +ℤ r) n).0 d));
  down = λ d. (root_sign_at_most k (h +ℤ r) n).1 (at_least-weaker (neg_ℤ k) (neg_ℤ (h -ℤ r)) (neg_ℤ (h +ℤ r)) n (omega (arith, ints)) ((root_sign_at_most k (h -ℤ r) n).0 d));
}

pub never_parallel : (far near : Sign) → by_sides far near ≢ Parallel
never_parallel Plus near = λ e. cc
never_parallel Zero near = λ e. cc
never_parallel Minus Minus = λ e. cc
never_parallel Minus Zero = λ e. cc
never_parallel Minus Plus = λ e. cc

pub apart_by_sides : (far near : Sign) → InOrder far near → (by_sides far near ≡ Apart) ↔ (¬ Between far near)
apart_by_sides Plus near is = (λ e b. b.1 refl, λ n. refl)
apart_by_sides Zero Minus is = (λ e b. b.0 refl, λ n. absurd (is.up (λ e. cc) refl))
apart_by_sides Zero Zero is = (λ e. absurd cc, λ n. absurd (n (λ e. cc, λ e. cc)))
apart_by_sides Zero Plus is = (λ e. absurd cc, λ n. absurd (n (λ e. cc, λ e. cc)))
apart_by_sides Minus Minus is = (λ e b. b.0 refl, λ n. refl)
apart_by_sides Minus Zero is = (λ e. absurd cc, λ n. absurd (n (λ e. cc, λ e. cc)))
apart_by_sides Minus Plus is = (λ e. absurd cc, λ n. absurd (n (λ e. cc, λ e. cc)))

pub one_by_sides : (far near : Sign) → InOrder far near → (by_sides far near ≡ One) ↔ ((far ≡ Zero) ⊎ (near ≡ Zero))
one_by_sides Plus Minus is = (λ e. absurd cc, λ t. absurd (elim t [ inl e ↦ cc | inr e ↦ cc ]))
one_by_sides Plus Zero is = (λ e. absurd cc, λ t. absurd (is.down (λ e. cc) refl))
one_by_sides Plus Plus is = (λ e. absurd cc, λ t. absurd (elim t [ inl e ↦ cc | inr e ↦ cc ]))
one_by_sides Zero near is = (λ e. inl refl, λ t. refl)
one_by_sides Minus Minus is = (λ e. absurd cc, λ t. absurd (elim t [ inl e ↦ cc | inr e ↦ cc ]))
one_by_sides Minus Zero is = (λ e. inr refl, λ t. refl)
one_by_sides Minus Plus is = (λ e. absurd cc, λ t. absurd (elim t [ inl e ↦ cc | inr e ↦ cc ]))

neg_sum : (h r : ℤ) → neg_ℤ (h +ℤ r) ≡ neg_ℤ h -ℤ r
neg_sum h r = omega (arith, ints)

-- between them is at most a radius away from the line
pub between_is : (k h r : ℤ) (n : ℕ) → Between (root_sign_of k (h +ℤ r) n) (root_sign_of k (h -ℤ r) n) ↔ OnLine k h n r
between_is k h r n =
    let near = root_sign_at_least k (h -ℤ r) n in
    let far : (root_sign_of k (h +ℤ r) n ≢ Plus) ↔ AtLeast (neg_ℤ k) (neg_ℤ h -ℤ r) n = rw (← neg_sum h r) (root_sign_at_most k (h +ℤ r) n) in (
      λ b. record { right = near.0 b.0; left = far.0 b.1 },
      λ on. (near.1 on.right, far.1 on.left),
    )

zero_left : (s : Sign) → s ≢ Minus → s ≢ Plus → s ≡ Zero
zero_left Minus m p = absurd (m refl)
zero_left Zero m p = refl
zero_left Plus m p = absurd (p refl)

pub zero_is : (k h : ℤ) (n : ℕ) → (root_sign_of k h n ≡ Zero) ↔ (AtLeast k h n × AtLeast (neg_ℤ k) (neg_ℤ h) n)
zero_is k h n =
    let least = root_sign_at_least k h n in
    let most = root_sign_at_most k h n in (
      λ e. (least.0 (λ m. cc), most.0 (λ p. cc)),
      λ both. zero_left (root_sign_of k h n) (least.1 both.0) (most.1 both.1),
    )
