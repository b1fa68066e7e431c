-- A text that has records comes to a CL file and a tape, and so does the part of `demo`.
use Rattle.std.proofs.Common.{◌≡◌, ℕ, List, Option, None, Result, Ok, refl, ap, ◌∙◌}
use Rattle.apt_words.specs.declared.Refusal.{Refusal}
use Rattle.apt_records.specs.declared.record.Record.{Record}
use Rattle.apt_meaning.specs.Situations.{first_situation}
use Rattle.apt_meaning.specs.Compiled.{compilation}
use Rattle.apt_meaning.proofs.Walks.Compiled.{compiled_passes}
use Rattle.apt_unroll.specs.Trace.{Trace}
use Rattle.apt_pattern.specs.Expansions.{expansion}
use Rattle.apt_pattern.proofs.Undrilled.{as_they_are}
use Rattle.apt_machine.specs.declared.machine.Machine.{Machine}
use Rattle.apt_machine.specs.Tables.{table_of}
use Rattle.apt_post.specs.Limits.{limits}
use Rattle.apt_part.specs.Compilation.{expanded, Compiled, earlier, unless_fault, records_by, with_steps, part_by, or_fault, part_of}
use Rattle.apt_demo.specs.Demo.{demo_part}
use Rattle.apt_demo.specs.Promise.{demo_machine, HasRecords}
use Rattle.apt_core.specs.Outputs.{Output, output_of}
use Rattle.apt_core.specs.Demo.{demo_table, demo_due}
use Rattle.apt_core.proofs.Outputs.{due_for}

neither_refuses : (past : Option Refusal) (due : Result (List Record) Refusal) (rs : List Record) → past ≡ None → due ≡ Ok rs → unless_fault None (earlier past due) ≡ Ok rs
neither_refuses past due rs none compiled = rw (none, compiled) refl

-- the part of a text that has records
abbrev part_with : (m : Machine) (text : List ℕ) → HasRecords m text → Compiled
part_with m text has = record { steps = has.steps; records = has.records }

-- the plain steps of its trace are its steps
expanded_is : (m : Machine) (text : List ℕ) (has : HasRecords m text) → expanded has.statements ≡ record { steps = has.steps; fault = None }
expanded_is m text has =
    ap (λ (t : Trace). expansion t.steps t.fault) has.traced
    ∙ as_they_are has.steps has.undrilled (compiled_passes 0 first_situation has.steps has.records has.compiled)

statements_are : (m : Machine) (text : List ℕ) (has : HasRecords m text) → part_by m has.statements ≡ Ok (part_with m text has)
statements_are m text has =
    (λ i. with_steps (expanded_is m text has i).steps (records_by m (expanded_is m text has i)))
    ∙ (λ i. with_steps has.steps (neither_refuses (limits m has.steps) (compilation first_situation has.steps) has.records has.within has.compiled i))

text_is : (m : Machine) (text : List ℕ) (has : HasRecords m text) → part_of m text ≡ Ok (Ok (part_with m text has))
text_is m text has = ap (or_fault m) has.read ∙ ap (λ r. Ok r) (statements_are m text has)

-- the machine of `demo` is that of its table
demo_tabled : table_of demo_table ≡ Ok demo_machine
demo_tabled = refl

-- what the part of `demo` comes to
pub demo_comes : (n : ℕ) → HasRecords demo_machine (demo_part n) → (o : Output) × (demo_due n ≡ Ok o)
demo_comes n has =
    (output_of demo_machine has.records, due_for demo_machine (demo_part n) demo_table (part_with demo_machine (demo_part n) has) demo_tabled (text_is demo_machine (demo_part n) has))
