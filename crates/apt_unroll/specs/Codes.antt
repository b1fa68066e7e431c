-- Steps, and programs with their tables, by their two parts, by which the prover tells them apart.
use Rattle.std.specs.Prelude.{Bool, List, Option, refl}
use Rattle.std.specs.Coded.{Coded, code_by, coded×, coded_bool, coded_list, coded_option}
use Rattle.apt_words.specs.declared.Refusal.{Refusal}
use Rattle.apt_words.specs.declared.body.Stmt.{Stmt}
use Rattle.apt_words.specs.declared.deed.Step.{Step}
use Rattle.apt_words.specs.contracts.Refusal as refusal
use Rattle.apt_words.specs.contracts.body.Stmt as stmt
use Rattle.apt_words.specs.contracts.deed.Step as step
use Rattle.apt_unroll.specs.Tables.{Listed}
use Rattle.apt_unroll.specs.Trace.{Trace}

abbrev pub trace_code : Coded Trace
trace_code =
    code_by (List Step × Option Refusal) (coded× (coded_list step.the_row.coded) (coded_option refusal.the_row.coded))
    (λ s. (s.steps, s.fault)) (λ p. record { steps = p.0; fault = p.1 }) (λ _. refl)

abbrev pub listed_code : Coded Listed
listed_code =
    code_by (List Stmt × Bool) (coded× (coded_list stmt.the_row.coded) coded_bool)
    (λ l. (l.stmts, l.made)) (λ p. record { stmts = p.0; made = p.1 }) (λ _. refl)
