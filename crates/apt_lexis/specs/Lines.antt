-- The lines of a text, and their faults.
use Rattle.std.specs.Prelude.{ℕ, ◌==◌, ◌&&◌, ◌||◌, nat_le, nat_lt, not, Bool, List, [], ◌∷◌, length, Option, Some, None, if◌then◌else◌}
use Rattle.std.specs.List.{list_all}
use Rattle.apt_lexis.specs.declared.cause.PartCause.{PartCause}
use Rattle.apt_lexis.specs.declared.cause.PartCause.TheVariants as causes

abbrev pub line_feed : ℕ
line_feed = 10

abbrev pub carriage_return : ℕ
carriage_return = 13

abbrev pub tab : ℕ
tab = 9

-- ---- texts and their parts

abbrev pub in_front : ℕ → List (List ℕ) → List (List ℕ)
in_front b [] = (b ∷ []) ∷ []
in_front b (part ∷ parts) = (b ∷ part) ∷ parts

-- the parts of a text between the bytes of one kind
abbrev pub split : ℕ → List ℕ → List (List ℕ)
split c [] = [] ∷ []
split c (b ∷ bs) = if b == c then [] ∷ split c bs else in_front b (split c bs)

-- ---- lines

-- a line without the carriage return at its end
abbrev pub without_return : List ℕ → List ℕ
without_return [] = []
without_return (b ∷ []) = if b == carriage_return then [] else b ∷ []
without_return (b ∷ c ∷ bs) = b ∷ without_return (c ∷ bs)

-- the parts of a text between its line feeds as lines: the last part is a line where it is not empty, and keeps a carriage return
abbrev pub as_lines : List (List ℕ) → List (List ℕ)
as_lines [] = []
as_lines ([] ∷ []) = []
as_lines (last ∷ []) = last ∷ []
as_lines (part ∷ next ∷ parts) = without_return part ∷ as_lines (next ∷ parts)

abbrev pub lines_of : List ℕ → List (List ℕ)
lines_of text = as_lines (split line_feed text)

-- ---- the faults of a line

abbrev pub most_lines : ℕ
most_lines = 50000

abbrev pub most_bytes : ℕ
most_bytes = 256

-- tabs, and the bytes from a blank to a tilde
abbrev pub is_character : ℕ → Bool
is_character b = b == tab || (nat_le 32 b && nat_le b 126)

-- the first fault of the n-th line, n from 1
abbrev pub line_fault : ℕ → List ℕ → Option PartCause
line_fault n line =
    if nat_lt most_lines n then Some causes.TooManyLines
    else if nat_lt most_bytes (length line) then Some causes.LineTooLong
    else if not (list_all is_character line) then Some causes.BadByte
    else None
