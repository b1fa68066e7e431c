-- The words of a record, each in its eight bytes.
use Rattle.std.proofs.Common.{◌≡◌, ℕ, zero, suc, ◌+◌, ◌-◌, ◌*◌, ◌/◌, ◌≤◌, List, [], ◌∷◌, length, take, drop, refl, ap, ◌∙◌, arith}
use Rattle.std.specs.Simd.{first_chunks}
use Rattle.std.proofs.lemmas.List.{take-take, drop-take, length-take, length-drop}
use Rattle.apt_cldata.specs.Reading.{number_of, numbers_of, word_in, words_in}

number_is : (bytes : List ℕ) → number_of (take 8 bytes) ≡ word_in bytes
unfolding number_of word_in
number_is bytes = refl

behind_eight : (m : ℕ) (bytes : List ℕ) → 8 ≤ m → drop 8 (take m bytes) ≡ take (m - 8) (drop 8 bytes)
behind_eight m bytes some = let e : m ≡ 8 + (m - 8) = omega arith in ap (λ n. drop 8 (take n bytes)) e ∙ drop-take 8 (m - 8) bytes

-- the words of some bytes, and their numbers
pub numbers_are : (k m : ℕ) (bytes : List ℕ) → 8 * k ≤ m → numbers_of (first_chunks 8 k (take m bytes)) ≡ words_in k bytes
numbers_are zero m bytes there = refl
numbers_are (suc k) m bytes there =
    let one : number_of (take 8 (take m bytes)) ≡ word_in bytes = ap number_of (take-take 8 m bytes (omega arith)) ∙ number_is bytes in
    let more : numbers_of (first_chunks 8 k (drop 8 (take m bytes))) ≡ words_in k (drop 8 bytes)
    = ap (λ bs. numbers_of (first_chunks 8 k bs)) (behind_eight m bytes (omega arith)) ∙ numbers_are k (m - 8) (drop 8 bytes) (omega arith) in
    λ i. one i ∷ more i

-- the words behind the subtype, of a record of so many bytes
pub chunks_are : (n : ℕ) (bytes : List ℕ) → 24 ≤ n → 4 + n ≤ length bytes
    → numbers_of (first_chunks 8 (length (take (4 + n - 28) (drop 28 bytes)) / 8) (take (4 + n - 28) (drop 28 bytes))) ≡ words_in (n / 8 - 3) (drop 28 bytes)
chunks_are n bytes least there =
    let size : length (take (4 + n - 28) (drop 28 bytes)) ≡ n - 24 = omega (arith, length-take (4 + n - 28) (drop 28 bytes), length-drop 28 bytes) in
    let count : length (take (4 + n - 28) (drop 28 bytes)) / 8 ≡ n / 8 - 3 = ap (λ k. k / 8) size ∙ omega arith in
    ap (λ k. numbers_of (first_chunks 8 k (take (4 + n - 28) (drop 28 bytes)))) count ∙ numbers_are (n / 8 - 3) (4 + n - 28) (drop 28 bytes) (omega arith)

pub numbers_length : (words : List (List ℕ)) → length (numbers_of words) ≡ length words
numbers_length [] = refl
numbers_length (word ∷ words) = ap suc (numbers_length words)
