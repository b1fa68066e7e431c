-- What the reader keeps of the statements that it has read.
use Rattle.std.specs.Prelude.{◌≡◌, ℕ, Result, Ok, Err}
use Rattle.apt_words.specs.Answers.{Comes}
use Rattle.apt_words.specs.declared.body.Stmt.{Stmt}
use Rattle.apt_lexis.specs.declared.cause.PartCause.{PartCause}
use Rattle.apt_lexis.specs.declared.error.ParseError.{ParseError}
use Rattle.apt_lexis.specs.Sentences.{fault_in}
use Rattle.apt_parse.specs.declared.read.Read.{Read}
use Rattle.apt_parse.specs.Statements.{labels_of, macros_of, open_macro, open_loop}

pub record IsRead (r : Read) : Type 0 where
  pub labels : r.labels ≡ labels_of r.stmts.items
  pub macros : r.macros ≡ macros_of r.stmts.items
  pub open_macro : r.open_macro ≡ open_macro r.stmts.items
  pub open_loop : r.open_loop ≡ open_loop r.stmts.items

-- a statement as it is due, or its fault with the line on which it begins
abbrev pub IsStated : ℕ → Result Stmt PartCause → Result Stmt ParseError → Type 0
IsStated line due = Comes fault_in (λ st. due ≡ Ok st) (λ fault. (fault.0 ≡ line) × (due ≡ Err fault.1))
