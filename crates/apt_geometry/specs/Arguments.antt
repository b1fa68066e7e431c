-- The arguments of a statement.
use Rattle.std.specs.Prelude.{ℕ, Bool, true, false, List, [], ◌∷◌, Option, Some, None}
use Rattle.std.proofs.Common.{bytes_eq}
use Rattle.apt_words.specs.declared.Pick.{Pick}
use Rattle.apt_words.specs.declared.Pick.TheVariants as picks
use Rattle.apt_words.specs.declared.Stop.{Stop}
use Rattle.apt_words.specs.declared.Stop.TheVariants as stops
use Rattle.apt_words.specs.declared.word.Word.{Word}
use Rattle.apt_words.specs.declared.word.Word.TheVariants as words
use Rattle.apt_words.specs.Options.{◌>>=◌, only_if}
use Rattle.apt_words.specs.Trees.{Tree}
use Rattle.apt_words.specs.Vocabulary.{spelling}
use Rattle.apt_lexis.specs.declared.token.Token.{Token}
use Rattle.apt_lexis.specs.declared.token.Token.TheVariants as tokens
use Rattle.apt_expr.specs.Expressions.{expression}

-- ---- lists of arguments

abbrev pub is_comma : Token → Bool
is_comma tokens.Comma = true
is_comma _ = false

abbrev pub in_front : Token → List (List Token) → List (List Token)
in_front t [] = (t ∷ []) ∷ []
in_front t (a ∷ args) = (t ∷ a) ∷ args

-- the parts of a list of tokens between its commas
abbrev pub arguments : List Token → List (List Token)
arguments [] = [] ∷ []
arguments (tokens.Comma ∷ ts) = [] ∷ arguments ts
arguments (t ∷ ts) = in_front t (arguments ts)

-- ---- one argument

abbrev pub name : List Token → Option (List ℕ)
name (tokens.Name n ∷ []) = Some n
name _ = None

-- an argument that is a word of the vocabulary
abbrev pub word : List Token → Option Word
word (tokens.Word w ∷ []) = Some w
word _ = None

-- an argument is this word of the vocabulary
abbrev pub is_word : Word → List Token → Bool
is_word v (tokens.Word w ∷ []) = bytes_eq (spelling v) (spelling w)
is_word v _ = false

abbrev pub says : Word → List Token → Option Bool
says v a = only_if (is_word v a) true

abbrev pub pick_of : Word → Option Pick
pick_of words.Xlarge = Some picks.XLarge
pick_of words.Xsmall = Some picks.XSmall
pick_of words.Ylarge = Some picks.YLarge
pick_of words.Ysmall = Some picks.YSmall
pick_of _ = None

-- XLARGE, XSMALL, YLARGE or YSMALL
abbrev pub pick : List Token → Option Pick
pick a = word a >>= pick_of

abbrev pub is_left_of : Word → Option Bool
is_left_of words.Left = Some true
is_left_of words.Right = Some false
is_left_of _ = None

-- LEFT or RIGHT
abbrev pub is_left : List Token → Option Bool
is_left a = word a >>= is_left_of

abbrev pub stop_of : Word → Option Stop
stop_of words.To = Some stops.To
stop_of words.On = Some stops.On
stop_of words.Past = Some stops.Past
stop_of _ = None

-- TO, ON or PAST
abbrev pub stop : List Token → Option Stop
stop a = word a >>= stop_of

abbrev pub or_else : {A : Type 0} → Option A → Option A → Option A
or_else None other = other
or_else (Some x) other = Some x

-- ---- several arguments

-- two numbers
abbrev pub pair : List Token → List Token → Option (Tree × Tree)
pair x y = expression x >>= λ x. expression y >>= λ y. Some (x, y)

-- three numbers
abbrev pub triple : List Token → List Token → List Token → Option (Tree × Tree × Tree)
triple x y z = expression x >>= λ x. expression y >>= λ y. expression z >>= λ z. Some (x, y, z)
