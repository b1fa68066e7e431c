-- A statement as it is read: its line, its tokens, and its text where it takes one.
use Rattle.std.specs.Prelude.{ℕ, List, Option, Some, None, Result, Ok, Err}
use Rattle.apt_lexis.specs.declared.cause.PartCause.{PartCause}
use Rattle.apt_lexis.specs.declared.token.Token.{Token}

-- the line on which it begins; all its tokens, or the cause of the first that is bad
pub record Phrase : Type 0 where
  pub line : ℕ
  pub tokens : Result (List Token) PartCause
  pub text : Option (List ℕ)

-- the tokens of a statement that may have a bad one
abbrev pub good : Option PartCause → List Token → Result (List Token) PartCause
good None ts = Ok ts
good (Some cause) ts = Err cause
