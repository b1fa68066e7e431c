-- The parts of a text at the first place of a byte.
use Rattle.std.proofs.Common.{◌≡◌, ℕ, ◌+◌, ◌<◌, ◌≤◌, ◌==◌, List, [], ◌∷◌, length, take, drop, true, false, not, Some, None, ap, ◌∙◌, refl, arith, cond, subst}
use borrow.Author.Tests.{ltb-true, ltb-false}
use Rattle.std.specs.Prelude.{position, nat_lt}
use Rattle.std.specs.List.{prefix_len}
use Rattle.std.proofs.lemmas.Grind.{common_steps}
use Rattle.apt_lexis.specs.Lines.{split, in_front}
use Rattle.apt_lexis.proofs.Fronts.{take_one_more}

-- how far the first such byte is
abbrev far : ℕ → List ℕ → ℕ
far c text = prefix_len (λ b. not (b == c)) text

pub drop_one_more : (b i : ℕ) (bs : List ℕ) → drop (1 + i + 1) (b ∷ bs) ≡ drop (i + 1) bs
drop_one_more b i bs = grind (arith, common_steps)

split_near : (c : ℕ) (text : List ℕ) → far c text < length text → split c text ≡ take (far c text) text ∷ split c (drop (far c text + 1) text)
split_near c [] h = absurd (omega arith)
split_near c (b ∷ bs) h = elim (b == c) as (λ t. (b == c) ≡ t → cond (not t) (1 + far c bs) 0 < length (b ∷ bs) → cond t ([] ∷ split c bs) (in_front b (split c bs)) ≡ take (cond (not t) (1 + far c bs) 0) (b ∷ bs) ∷ split c (drop (cond (not t) (1 + far c bs) 0 + 1) (b ∷ bs))) [
  | true ↦ λ e k. refl
  | false ↦ λ e k. ap (in_front b) (split_near c bs (omega arith)) ∙ rw (take_one_more b (far c bs) bs, drop_one_more b (far c bs) bs) refl
] refl h

split_far : (c : ℕ) (text : List ℕ) → length text ≤ far c text → split c text ≡ text ∷ []
split_far c [] h = refl
split_far c (b ∷ bs) h = elim (b == c) as (λ t. (b == c) ≡ t → length (b ∷ bs) ≤ cond (not t) (1 + far c bs) 0 → cond t ([] ∷ split c bs) (in_front b (split c bs)) ≡ (b ∷ bs) ∷ []) [
  | true ↦ λ e k. absurd (omega arith)
  | false ↦ λ e k. ap (in_front b) (split_far c bs (omega arith))
] refl h

some_same : (i j : ℕ) → Some i ≡ Some j → i ≡ j
some_same i j e = cc

pub split_found : (c : ℕ) (text : List ℕ) (i : ℕ) → position (λ b. b == c) text ≡ Some i → split c text ≡ take i text ∷ split c (drop (i + 1) text)
split_found c text i e = elim (nat_lt (far c text) (length text)) as (λ t. nat_lt (far c text) (length text) ≡ t → cond t (Some (far c text)) None ≡ Some i → split c text ≡ take i text ∷ split c (drop (i + 1) text)) [
  | true ↦ λ h k. subst (λ n. split c text ≡ take n text ∷ split c (drop (n + 1) text)) (some_same _ _ k) (split_near c text (ltb-true _ _ h))
  | false ↦ λ h k. cc
] refl e

pub split_absent : (c : ℕ) (text : List ℕ) → position (λ b. b == c) text ≡ None → split c text ≡ text ∷ []
split_absent c text e = elim (nat_lt (far c text) (length text)) as (λ t. nat_lt (far c text) (length text) ≡ t → cond t (Some (far c text)) None ≡ None → split c text ≡ text ∷ []) [
  | true ↦ λ h k. cc
  | false ↦ λ h k. split_far c text (ltb-false _ _ h)
] refl e

abbrev pub Filled : List (List ℕ) → Type 0
Filled parts = (first : List ℕ) × (rest : List (List ℕ)) × (parts ≡ first ∷ rest)

pub filled : (b : ℕ) (parts : List (List ℕ)) → Filled (in_front b parts)
filled b [] = (b ∷ [], [], refl)
filled b (part ∷ parts) = (b ∷ part, parts, refl)

-- a text has at least one part
pub split_filled : (c : ℕ) (text : List ℕ) → Filled (split c text)
split_filled c [] = ([], [], refl)
split_filled c (b ∷ bs) = elim (b == c) as (λ t. Filled (cond t ([] ∷ split c bs) (in_front b (split c bs)))) [
  | true ↦ ([], split c bs, refl)
  | false ↦ filled b (split c bs)
]
