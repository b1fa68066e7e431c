-- The tokens of a line: words, names, numbers and marks.
use Rattle.std.specs.Prelude.{ℕ, ◌+◌, ◌-◌, ◌*◌, ◌^◌, ℤ, pos, ◌==◌, ◌&&◌, ◌||◌, nat_le, nat_lt, Bool, false, List, [], ◌∷◌, length, map, drop, Option, Some, None, Result, Ok, Err, if◌then◌else◌}
use Rattle.std.specs.List.{list_all, take_while, prefix_len, flat_map}
use Rattle.apt_num.specs.Near.{half_up}
use Rattle.apt_words.specs.Options.{◌>>=◌, only_if}
use Rattle.apt_words.specs.declared.word.Word.{Word}
use Rattle.apt_words.specs.Symbols.{is_symbol, is_capital, is_digit}
use Rattle.apt_words.specs.Vocabulary.{word_of}
use Rattle.apt_lexis.specs.declared.cause.PartCause.{PartCause}
use Rattle.apt_lexis.specs.declared.cause.PartCause.TheVariants as causes
use Rattle.apt_lexis.specs.declared.token.Token.{Token}
use Rattle.apt_lexis.specs.declared.token.Token.TheVariants as tokens
use Rattle.apt_lexis.specs.Lines.{in_front, split, tab}

-- ---- characters

abbrev pub point : ℕ
point = 46

abbrev pub is_blank : ℕ → Bool
is_blank b = b == 32 || b == tab

abbrev pub is_small : ℕ → Bool
is_small b = nat_le 97 b && nat_le b 122

abbrev pub is_letter : ℕ → Bool
is_letter b = is_capital b || is_small b

abbrev pub is_letter_or_digit : ℕ → Bool
is_letter_or_digit b = is_letter b || is_digit b

abbrev pub begins_with_letter : List ℕ → Bool
begins_with_letter [] = false
begins_with_letter (b ∷ bs) = is_letter b

-- small letters count as capitals
abbrev pub capital : ℕ → ℕ
capital b = if is_small b then b - 32 else b

-- ---- runs: letters, digits and points that stand together, or one other character; blanks part them

abbrev pub is_in_run : ℕ → Bool
is_in_run b = is_letter_or_digit b || b == point

abbrev pub begins_in_run : List ℕ → Bool
begins_in_run [] = false
begins_in_run (b ∷ bs) = is_in_run b

abbrev pub runs : List ℕ → List (List ℕ)
runs [] = []
runs (b ∷ bs) =
    if is_in_run b then (if begins_in_run bs then in_front b (runs bs) else (b ∷ []) ∷ runs bs)
    else if is_blank b then runs bs else (b ∷ []) ∷ runs bs

-- ---- numbers

abbrev pub number_of : ℕ → List ℕ → ℕ
number_of before [] = before
number_of before (b ∷ bs) = number_of (10 * before + (b - 48)) bs

-- at most 12 digits
abbrev pub are_digits : List ℕ → Bool
are_digits text = nat_le (length text) 12 && list_all is_digit text

-- digits with at most one point and at least one digit, at most 12 on each side, in units of the twelfth place
abbrev pub decimal : List (List ℕ) → Option ℕ
decimal (front ∷ []) = only_if (are_digits front && nat_lt 0 (length front)) (number_of 0 front * 10 ^ 12)
decimal (front ∷ back ∷ []) =
    only_if (are_digits front && are_digits back && nat_lt 0 (length front + length back))
    (number_of 0 front * 10 ^ 12 + number_of 0 back * 10 ^ (12 - length back))
decimal _ = None

-- at most 1000000 as it is written; rounded to millionths, a half going up
abbrev pub millionths : ℕ → Option ℤ
millionths n = only_if (nat_le n (10 ^ 18)) (pos (half_up n (10 ^ 6)))

abbrev pub number_in : List ℕ → Option ℤ
number_in run = decimal (split point run) >>= millionths

-- ---- tokens

-- a token, or why it is none
abbrev pub Read : Type 0
Read = Result Token PartCause

abbrev pub or_bad_number : Option ℤ → Read
or_bad_number None = Err causes.BadNumber
or_bad_number (Some v) = Ok (tokens.Number v)

abbrev pub number : List ℕ → Read
number run = or_bad_number (number_in run)

abbrev pub word_or_name : List ℕ → Option Word → Token
word_or_name symbol None = tokens.Name symbol
word_or_name symbol (Some w) = tokens.Word w

-- a symbol is a word of the vocabulary, or else a name
abbrev pub of_symbol : List ℕ → Token
of_symbol symbol = word_or_name symbol (word_of symbol)

-- a word or a name has at most six letters and digits
abbrev pub word : List ℕ → Read
word text = if is_symbol (map capital text) then Ok (of_symbol (map capital text)) else Err causes.BadWord

abbrev pub mark : ℕ → Read
mark b =
    if b == 61 then Ok tokens.Equals else if b == 47 then Ok tokens.Slash else if b == 44 then Ok tokens.Comma
    else if b == 40 then Ok tokens.Open else if b == 41 then Ok tokens.Close
    else if b == 43 then Ok tokens.Plus else if b == 45 then Ok tokens.Minus else if b == 42 then Ok tokens.Star
    else Err causes.BadWord

-- a number that stands directly behind a word or a name
abbrev pub number_behind : List ℕ → List Read
number_behind [] = []
number_behind run = number run ∷ []

-- a run that begins with a letter is a word or a name, and what is behind its letters and digits a number; with a digit or a point it is a number
abbrev pub tokens_of_run : List ℕ → List Read
tokens_of_run [] = []
tokens_of_run (b ∷ bs) =
    if is_letter b then word (take_while is_letter_or_digit (b ∷ bs)) ∷ number_behind (drop (prefix_len is_letter_or_digit (b ∷ bs)) (b ∷ bs))
    else if is_in_run b then number (b ∷ bs) ∷ []
    else mark b ∷ []

-- tokens, or the cause of the first that is bad
abbrev pub Tokens : Type 0
Tokens = Result (List Token) PartCause

abbrev pub in_front_of : Read → Tokens → Tokens
in_front_of (Err cause) more = Err cause
in_front_of (Ok t) (Err cause) = Err cause
in_front_of (Ok t) (Ok ts) = Ok (t ∷ ts)

abbrev pub all_good : List Read → Tokens
all_good [] = Ok []
all_good (read ∷ more) = in_front_of read (all_good more)

abbrev pub tokens_of : List ℕ → Tokens
tokens_of line = all_good (flat_map tokens_of_run (runs line))
