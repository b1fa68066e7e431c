-- The words of the vocabulary that have a length and a first letter, and a table of where they begin.
use Rattle.std.specs.Prelude.{◌≡◌, ◌==◌, ◌&&◌, ◌<◌, ◌≤◌, ◌+◌, ◌-◌, ℕ, Bool, false, List, [], ◌∷◌, length, take, drop, slice_index_or}
use Rattle.std.specs.List.{filter}
use Rattle.apt_words.specs.declared.word.Word.{Word}
use Rattle.apt_words.specs.Vocabulary.{spelling, vocabulary}

abbrev pub begins_with : ℕ → List ℕ → Bool
begins_with letter [] = false
begins_with letter (b ∷ bs) = b == letter

abbrev pub is_alike : ℕ → ℕ → List ℕ → Bool
is_alike n letter text = length text == n && begins_with letter text

abbrev pub alike : ℕ → ℕ → List Word
alike n letter = filter (λ w. is_alike n letter (spelling w)) vocabulary

-- where the words of a length begin that have one first letter
pub record AreStarts (n : ℕ) (starts : List ℕ) : Type 0 where
  pub letters : length starts ≡ 27
  pub order : (at : ℕ) → at < 26 → slice_index_or starts at 0 ≤ slice_index_or starts (at + 1) 0
  pub within : (at : ℕ) → at < 27 → slice_index_or starts at 0 ≤ length vocabulary
  pub words : (letter : ℕ) → 65 ≤ letter → letter ≤ 90
      → take (slice_index_or starts (letter - 65 + 1) 0 - slice_index_or starts (letter - 65) 0) (drop (slice_index_or starts (letter - 65) 0) vocabulary)
      ≡ alike n letter
