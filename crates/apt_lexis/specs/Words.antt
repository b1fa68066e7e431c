-- The words of a line that have one blank between them.
use Rattle.std.specs.Prelude.{ℕ, ◌==◌, ◌&&◌, nat_le, nat_eq, Bool, List, [], ◌∷◌, length, Option, Some, None, if◌then◌else◌}
use Rattle.std.specs.List.{list_all}
use Rattle.std.specs.Cmp.Lexicographic.{pointwise}
use Rattle.apt_lexis.specs.Lines.{is_character, most_bytes}

abbrev pub is : List ℕ → List ℕ → Bool
is text word = pointwise nat_eq text word

abbrev pub blank : ℕ
blank = 32

-- characters alone, and at most 256
abbrev pub is_readable : List ℕ → Bool
is_readable line = nat_le (length line) most_bytes && list_all is_character line

-- what stands in front of the first blank, and what behind it
abbrev pub in_front : List ℕ → List ℕ
in_front [] = []
in_front (b ∷ bs) = if b == blank then [] else b ∷ in_front bs

abbrev pub behind : List ℕ → Option (List ℕ)
behind [] = None
behind (b ∷ bs) = if b == blank then Some bs else behind bs
