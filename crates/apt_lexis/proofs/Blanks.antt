-- A line up to its first blank, and what stands behind it.
use Rattle.std.proofs.Common.{◌≡◌, ℕ, ◌+◌, ◌<◌, ◌≤◌, ◌==◌, List, [], ◌∷◌, length, take, drop, true, false, not, Some, None, ap, ◌∙◌, refl, arith, cond, subst}
use borrow.Author.Tests.{ltb-true, ltb-false}
use Rattle.std.specs.Prelude.{position, nat_lt}
use Rattle.std.specs.List.{prefix_len}
use Rattle.std.proofs.lemmas.Grind.{common_steps}
use Rattle.apt_lexis.specs.Words.{in_front, behind, blank}
use Rattle.apt_lexis.proofs.Splitting.{drop_one_more}
use Rattle.apt_lexis.proofs.Fronts.{take_one_more}

-- how far the first blank is
abbrev far : List ℕ → ℕ
far text = prefix_len (λ b. not (b == blank)) text

front_far : (line : List ℕ) → in_front line ≡ take (far line) line
front_far [] = refl
front_far (b ∷ bs) = elim (b == blank) as (λ t. (b == blank) ≡ t → cond t [] (b ∷ in_front bs) ≡ take (cond (not t) (1 + far bs) 0) (b ∷ bs)) [
  | true ↦ λ e. refl
  | false ↦ λ e. rw (take_one_more b (far bs) bs) (ap (λ cs. b ∷ cs) (front_far bs))
] refl

behind_near : (line : List ℕ) → far line < length line → behind line ≡ Some (drop (far line + 1) line)
behind_near [] h = absurd (omega arith)
behind_near (b ∷ bs) h = elim (b == blank) as (λ t. (b == blank) ≡ t → cond (not t) (1 + far bs) 0 < length (b ∷ bs) → cond t (Some bs) (behind bs) ≡ Some (drop (cond (not t) (1 + far bs) 0 + 1) (b ∷ bs))) [
  | true ↦ λ e k. refl
  | false ↦ λ e k. rw (drop_one_more b (far bs) bs) (behind_near bs (omega arith))
] refl h

behind_far : (line : List ℕ) → length line ≤ far line → behind line ≡ None
behind_far [] h = refl
behind_far (b ∷ bs) h = elim (b == blank) as (λ t. (b == blank) ≡ t → length (b ∷ bs) ≤ cond (not t) (1 + far bs) 0 → cond t (Some bs) (behind bs) ≡ None) [
  | true ↦ λ e k. absurd (omega arith)
  | false ↦ λ e k. behind_far bs (omega arith)
] refl h

take_all : (text : List ℕ) (n : ℕ) → length text ≤ n → take n text ≡ text
take_all text n h = grind (arith, common_steps)

some_same : (i j : ℕ) → Some i ≡ Some j → i ≡ j
some_same i j e = cc

pub front_found : (line : List ℕ) (i : ℕ) → position (λ b. b == blank) line ≡ Some i → in_front line ≡ take i line
front_found line i e = elim (nat_lt (far line) (length line)) as (λ t. nat_lt (far line) (length line) ≡ t → cond t (Some (far line)) None ≡ Some i → in_front line ≡ take i line) [
  | true ↦ λ h k. subst (λ n. in_front line ≡ take n line) (some_same _ _ k) (front_far line)
  | false ↦ λ h k. cc
] refl e

pub behind_found : (line : List ℕ) (i : ℕ) → position (λ b. b == blank) line ≡ Some i → behind line ≡ Some (drop (i + 1) line)
behind_found line i e = elim (nat_lt (far line) (length line)) as (λ t. nat_lt (far line) (length line) ≡ t → cond t (Some (far line)) None ≡ Some i → behind line ≡ Some (drop (i + 1) line)) [
  | true ↦ λ h k. subst (λ n. behind line ≡ Some (drop (n + 1) line)) (some_same _ _ k) (behind_near line (ltb-true _ _ h))
  | false ↦ λ h k. cc
] refl e

pub front_absent : (line : List ℕ) → position (λ b. b == blank) line ≡ None → in_front line ≡ line
front_absent line e = elim (nat_lt (far line) (length line)) as (λ t. nat_lt (far line) (length line) ≡ t → cond t (Some (far line)) None ≡ None → in_front line ≡ line) [
  | true ↦ λ h k. cc
  | false ↦ λ h k. front_far line ∙ take_all line (far line) (ltb-false _ _ h)
] refl e

pub behind_absent : (line : List ℕ) → position (λ b. b == blank) line ≡ None → behind line ≡ None
behind_absent line e = elim (nat_lt (far line) (length line)) as (λ t. nat_lt (far line) (length line) ≡ t → cond t (Some (far line)) None ≡ None → behind line ≡ None) [
  | true ↦ λ h k. cc
  | false ↦ λ h k. behind_far line (ltb-false _ _ h)
] refl e
