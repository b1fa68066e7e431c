-- Statements line by line.
use Rattle.std.proofs.Common.{◌≡◌, ℕ, ◌<◌, List, [], ◌∷◌, length, Bool, true, false, Option, Some, None, Ok, Err, ap, ◌∙◌, sym, refl, cond, not}
use Rattle.std.specs.Result.{IsOkAnd}
use Rattle.apt_lexis.specs.Tokens.{Read, Tokens, tokens_of, is_blank, in_front_of}
use Rattle.apt_lexis.specs.declared.cause.PartCause.{PartCause}
use Rattle.apt_lexis.specs.declared.token.Token.{Token}
use Rattle.apt_lexis.specs.Titles.{Title, behind, with_tokens, may_be_titled}
use Rattle.apt_lexis.specs.Phrase.{Phrase, good}
use Rattle.apt_lexis.specs.Sentences.{first_line, tokens_before, joined, said_on, goes_on, behind_tokens, behind_line, by_title, title_in}
use Rattle.apt_lexis.proofs.Headings.{untitled_tokens}
use Rattle.apt_lexis.proofs.OneByOne.{no_tokens, some_token}

-- ---- a line without a title

-- a line without tokens leaves all as it is
pub silent : (begun : Option Phrase) (n : ℕ) (text : List ℕ) (on : Bool) → length (behind is_blank text) ≡ 0 → behind_tokens begun n (tokens_of text) on ≡ record { begun = begun; said = None }
silent begun n text on e = rw (no_tokens text e) refl

-- a statement with the tokens of a line
abbrev spoken : Option Phrase → ℕ → Tokens → Phrase
spoken begun n ts = record { line = first_line begun n; tokens = joined (tokens_before begun) ts; text = None }

behind_some : (begun : Option Phrase) (n : ℕ) (first : Read) (more : Tokens) (on : Bool)
    → behind_tokens begun n (in_front_of first more) on ≡ cond on (record { begun = Some (spoken begun n (in_front_of first more)); said = None }) (record { begun = None; said = Some (spoken begun n (in_front_of first more)) })
behind_some begun n (Err cause) more on = refl
behind_some begun n (Ok t) (Err cause) on = refl
behind_some begun n (Ok t) (Ok ts) on = refl

-- a line that goes on leaves a statement begun
pub goes_on_with : (begun : Option Phrase) (n : ℕ) (text : List ℕ) → 0 < length (behind is_blank text)
    → behind_tokens begun n (tokens_of text) true ≡ record { begun = Some (spoken begun n (tokens_of text)); said = None }
goes_on_with begun n text h = let s = some_token text h in rw s.2 (behind_some begun n s.0 s.1 true)

-- a line that does not go on completes a statement
pub ends_with : (begun : Option Phrase) (n : ℕ) (text : List ℕ) → 0 < length (behind is_blank text)
    → behind_tokens begun n (tokens_of text) false ≡ record { begun = None; said = Some (spoken begun n (tokens_of text)) }
ends_with begun n text h = let s = some_token text h in rw s.2 (behind_some begun n s.0 s.1 false)

-- ---- a line that begins a statement

abbrev pub begun_with : ℕ → List Token → Phrase
begun_with n ts = record { line = n; tokens = Ok ts; text = None }

alone : (ts : Tokens) → joined (Ok []) ts ≡ ts
alone (Err cause) = refl
alone (Ok ts) = refl

some_tokens : (n : ℕ) (ts : List Token) (on : Bool) → may_be_titled ts ≡ false
    → behind_tokens None n (Ok ts) on ≡ cond (not on) (record { begun = None; said = Some (begun_with n ts) }) (record { begun = Some (begun_with n ts); said = None })
some_tokens n [] on e = cc
some_tokens n (t ∷ ts) true e = refl
some_tokens n (t ∷ ts) false e = refl

at_once : (n : ℕ) (line : List ℕ) (ts : List Token) → tokens_of (said_on line) ≡ Ok ts → may_be_titled ts ≡ false
    → behind_line None n line ≡ cond (not (goes_on line)) (record { begun = None; said = Some (begun_with n ts) }) (record { begun = Some (begun_with n ts); said = None })
at_once n line ts e f =
    ap (by_title None n line) (untitled_tokens line ts e f) ∙ ap (λ read. behind_tokens None n read (goes_on line)) e ∙ some_tokens n ts (goes_on line) f

-- a line that begins a statement is taken by its tokens alone, where these tell that no title stands at its front
pub taken_at_once : (begun : Option Phrase) (n : ℕ) (line front : List ℕ) (before ts : List Token) (fault : Option PartCause) (on : Bool)
    → begun ≡ None → on ≡ goes_on line → front ≡ said_on line → before ≡ [] → fault ≡ None → good fault ts ≡ joined (Ok before) (tokens_of front) → may_be_titled ts ≡ false
    → behind_line begun n line ≡ cond (not on) (record { begun = None; said = Some (begun_with n ts) }) (record { begun = Some (begun_with n ts); said = None })
taken_at_once begun n line front before ts fault on none goes is empty well read f =
    let all : tokens_of (said_on line) ≡ Ok ts =
    sym (sym (ap (λ c. good c ts) well) ∙ read ∙ ap (λ (us : List Token). joined (Ok us) (tokens_of front)) empty ∙ alone (tokens_of front) ∙ ap tokens_of is) in
    rw (none, goes) (at_once n line ts all f)

-- ---- a line with a title

pub by_tokens : (begun : Option Phrase) (n : ℕ) (line : List ℕ) → title_in (tokens_before begun) line ≡ None → behind_line begun n line ≡ by_title begun n line None
by_tokens begun n line e = ap (by_title begun n line) e

-- a title completes a statement
pub ends_with_title : (begun : Option Phrase) (n : ℕ) (line : List ℕ) (t : Title) → IsOkAnd (tokens_before begun) (λ ts. title_in (Ok ts) line ≡ Some (with_tokens ts t))
    → behind_line begun n line ≡ record { begun = None; said = Some (record { line = first_line begun n; tokens = joined (tokens_before begun) (Ok t.0); text = Some t.1 }) }
ends_with_title begun n line t h = titled (tokens_before begun) begun n line t h
  where
    titled : (before : Tokens) (begun : Option Phrase) (n : ℕ) (line : List ℕ) (t : Title) → IsOkAnd before (λ ts. title_in (Ok ts) line ≡ Some (with_tokens ts t))
        → by_title begun n line (title_in before line) ≡ record { begun = None; said = Some (record { line = first_line begun n; tokens = joined before (Ok t.0); text = Some t.1 }) }
    titled (Err cause) begun n line t h = absurd h
    titled (Ok ts) begun n line (us, text) h = rw h refl
