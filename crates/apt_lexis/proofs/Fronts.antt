-- How many bytes of a kind stand at the front of a text.
use Rattle.std.proofs.Common.{◌≡◌, ◌+◌, ◌-◌, ◌<◌, ◌≤◌, ℕ, eqb, cond, ap, ap₂, ◌∙◌, sym, subst, List, [], ◌∷◌, length, take, drop, Bool, true, false, refl, arith}
use Rattle.std.specs.Prelude.{◌&&◌}
use Rattle.std.specs.List.{prefix_len, list_all}
use Rattle.std.proofs.lemmas.Grind.{common_steps}
use Rattle.std.proofs.lemmas.List.Folds.{length-prefix_len, prefix_len-append}
use Rattle.std.proofs.lemmas.List.{take-append-drop, drop-drop, length-drop}
use Rattle.std.proofs.lemmas.Simd.{length-chunk}
use Rattle.std.proofs.lemmas.List.Sums.{prefix_len-le-length}

pub front_length : (test : ℕ → Bool) (text : List ℕ) → length (take (prefix_len test text) text) ≡ prefix_len test text
front_length test text = length-prefix_len test text

pub front_short : (test : ℕ → Bool) (text : List ℕ) → prefix_len test text ≤ length text
front_short test text = prefix_len-le-length test text

pub prefix_yes : (test : ℕ → Bool) (b : ℕ) (bs : List ℕ) → test b ≡ true → prefix_len test (b ∷ bs) ≡ 1 + prefix_len test bs
prefix_yes test b bs e = rw e refl

pub prefix_no : (test : ℕ → Bool) (b : ℕ) (bs : List ℕ) → test b ≡ false → prefix_len test (b ∷ bs) ≡ 0
prefix_no test b bs e = rw e refl

pub drop_one_more : (i b : ℕ) (bs : List ℕ) → drop (1 + i) (b ∷ bs) ≡ drop i bs
drop_one_more i b bs = grind (arith, common_steps)

pub take_one_more : (b i : ℕ) (bs : List ℕ) → take (1 + i) (b ∷ bs) ≡ b ∷ take i bs
take_one_more b i bs = grind (arith, common_steps)

pub take_front : (test : ℕ → Bool) (b : ℕ) (bs : List ℕ) → test b ≡ true → take (prefix_len test (b ∷ bs)) (b ∷ bs) ≡ b ∷ take (prefix_len test bs) bs
take_front test b bs e = rw (prefix_yes test b bs e) (take_one_more b (prefix_len test bs) bs)

-- what is behind the bytes of a kind at the front begins with none of the kind
pub none_behind : (test : ℕ → Bool) (text : List ℕ) → prefix_len test (drop (prefix_len test text) text) ≡ 0
none_behind test [] = refl
none_behind test (b ∷ bs) = elim (test b) as (λ t. test b ≡ t → prefix_len test (drop (prefix_len test (b ∷ bs)) (b ∷ bs)) ≡ 0) [
  | true ↦ λ e. rw (prefix_yes test b bs e, drop_one_more (prefix_len test bs) b bs) (none_behind test bs)
  | false ↦ λ e. rw (prefix_no test b bs e) (prefix_no test b bs e)
] refl

pub none_first : (test : ℕ → Bool) (b : ℕ) (bs : List ℕ) → prefix_len test (b ∷ bs) ≡ 0 → test b ≡ false
none_first test b bs h = elim (test b) as (λ t. test b ≡ t → t ≡ false) [
  | true ↦ λ e. absurd (omega (arith, h, prefix_yes test b bs e))
  | false ↦ λ e. refl
] refl

-- ---- a text part by part

part_length : (text : List ℕ) (at n : ℕ) → at ≤ length text → n ≤ length text - at → length (take n (drop at text)) ≡ n
part_length text at n h room = length-chunk at n text (omega arith)

by_parts : (test : ℕ → Bool) (text : List ℕ) (n : ℕ) → prefix_len test text ≡ cond (eqb (prefix_len test (take n text)) (length (take n text))) (length (take n text) + prefix_len test (drop n text)) (prefix_len test (take n text))
by_parts test text n = ap (prefix_len test) (sym (take-append-drop n text)) ∙ prefix_len-append test (take n text) (drop n text)

-- n bytes at a place, and what stands behind them
at_part : (test : ℕ → Bool) (text : List ℕ) (at n : ℕ) → at ≤ length text → n ≤ length text - at
    → prefix_len test (drop at text) ≡ cond (eqb (prefix_len test (take n (drop at text))) n) (n + prefix_len test (drop (at + n) text)) (prefix_len test (take n (drop at text)))
at_part test text at n h room =
    by_parts test (drop at text) n ∙ ap₂ (λ l rest. cond (eqb (prefix_len test (take n (drop at text))) l) (l + prefix_len test rest) (prefix_len test (take n (drop at text)))) (part_length text at n h room) (drop-drop n at text)

pub part_short : (test : ℕ → Bool) (text : List ℕ) (at n : ℕ) → at ≤ length text → n ≤ length text - at → at + prefix_len test (take n (drop at text)) ≤ length text
part_short test text at n h room = omega (arith, h, room, prefix_len-le-length test (take n (drop at text)), part_length text at n h room)

pub rest_short : (test : ℕ → Bool) (text : List ℕ) (at : ℕ) → at ≤ length text → at + prefix_len test (drop at text) ≤ length text
rest_short test text at h = omega (arith, h, prefix_len-le-length test (drop at text), length-drop at text)

-- where all n bytes pass the test
pub part_through : (test : ℕ → Bool) (text : List ℕ) (at n run : ℕ) → at ≤ length text → n ≤ length text - at → run ≡ prefix_len test (take n (drop at text)) → n ≤ run
    → prefix_len test (drop at text) ≡ run + prefix_len test (drop (at + run) text)
part_through test text at n run h room e f =
    let all : run ≡ n = omega (arith, e, f, prefix_len-le-length test (take n (drop at text)), part_length text at n h room) in
    subst (λ k. prefix_len test (drop at text) ≡ k + prefix_len test (drop (at + k) text)) (sym all) (grind (arith, at_part test text at n h room, e, all))

-- where one of the n bytes fails the test
pub part_stops : (test : ℕ → Bool) (text : List ℕ) (at n run : ℕ) → at ≤ length text → n ≤ length text - at → run ≡ prefix_len test (take n (drop at text)) → run < n → prefix_len test (drop at text) ≡ run
part_stops test text at n run h room e f = grind (arith, at_part test text at n h room, e, f)

-- ---- texts that pass a test from end to end

pub front_passes : (test : ℕ → Bool) (text : List ℕ) → list_all test (take (prefix_len test text) text) ≡ true
front_passes test [] = refl
front_passes test (b ∷ bs) = elim (test b) as (λ t. test b ≡ t → list_all test (take (prefix_len test (b ∷ bs)) (b ∷ bs)) ≡ true) [
  | true ↦ λ e. rw (take_front test b bs e, e) (front_passes test bs)
  | false ↦ λ e. rw (prefix_no test b bs e) refl
] refl

pub passes_other : (p q : ℕ → Bool) → ((b : ℕ) → p b ≡ true → q b ≡ true) → (text : List ℕ) → list_all p text ≡ true → list_all q text ≡ true
passes_other p q h [] e = refl
passes_other p q h (b ∷ bs) e = elim (p b) as (λ t. p b ≡ t → (t && list_all p bs) ≡ true → list_all q (b ∷ bs) ≡ true) [
  | true ↦ λ f g. rw (h b f) (passes_other p q h bs g)
  | false ↦ λ f g. cc
] refl e

pub whole_front : (test : ℕ → Bool) (text : List ℕ) → list_all test text ≡ true → prefix_len test text ≡ length text
whole_front test [] e = refl
whole_front test (b ∷ bs) e = elim (test b) as (λ t. test b ≡ t → (t && list_all test bs) ≡ true → prefix_len test (b ∷ bs) ≡ length (b ∷ bs)) [
  | true ↦ λ f g. rw (prefix_yes test b bs f, whole_front test bs g) (omega arith)
  | false ↦ λ f g. cc
] refl e
