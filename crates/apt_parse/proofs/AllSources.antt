-- The lines and texts of a program's statements.
use Rattle.std.specs.Prelude.{ℕ, List, [], ◌∷◌, ◌++◌, Result, IfOk}
use Rattle.apt_words.specs.Sources.{IsStmt, AreStmts}
use Rattle.apt_words.specs.declared.body.Stmt.{Stmt}
use Rattle.apt_words.specs.declared.body.Program.{Program}
use Rattle.apt_lexis.specs.declared.error.ParseError.{ParseError}
use Rattle.apt_words.specs.Answers.{IsDue}
use Rattle.apt_lexis.specs.Sentences.{fault_in}
use Rattle.apt_parse.specs.Programs.{program_of}
use Rattle.apt_parse.proofs.Facts.{program_of-holds, parsed_holds}

stmts_behind : (sts : List Stmt) (st : Stmt) → IsStmt st → AreStmts sts → AreStmts (sts ++ st ∷ [])
stmts_behind [] st is are = (is, tt)
stmts_behind (first ∷ sts) st is are = (are.0, stmts_behind sts st is are.1)

pub program_of-stmts : (text : List ℕ) → IfOk (program_of text) AreStmts
program_of-stmts text = program_of-holds (λ _. AreStmts) (λ before st next. stmts_behind before st next.stated) tt text

pub parsed_stmts : (text : List ℕ) (read : Result Program ParseError) → IsDue fault_in (program_of text) read → IfOk read (λ p. AreStmts p)
parsed_stmts text read = parsed_holds AreStmts text read (program_of-stmts text)
