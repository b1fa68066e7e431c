-- Words, and the names that are none of the vocabulary.
use Rattle.std.specs.Prelude.{ℕ, ◌&&◌, ◌||◌, nat_le, not, Bool, false, List, [], ◌∷◌, length, is_some}
use Rattle.std.specs.List.{list_all}
use Rattle.apt_words.specs.Vocabulary.{word_of}

abbrev pub is_capital : ℕ → Bool
is_capital b = nat_le 65 b && nat_le b 90

abbrev pub is_digit : ℕ → Bool
is_digit b = nat_le 48 b && nat_le b 57

abbrev pub is_capital_or_digit : ℕ → Bool
is_capital_or_digit b = is_capital b || is_digit b

-- a symbol is a capital letter, and at most five capitals or digits
abbrev pub is_symbol : List ℕ → Bool
is_symbol [] = false
is_symbol (b ∷ bs) = nat_le (length bs) 5 && is_capital b && list_all is_capital_or_digit bs

abbrev pub is_vocabulary : List ℕ → Bool
is_vocabulary word = is_some (word_of word)

-- a name is a symbol that is no word of the vocabulary
abbrev pub is_name : List ℕ → Bool
is_name word = is_symbol word && not (is_vocabulary word)
