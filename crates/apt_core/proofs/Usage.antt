-- Usage is answered only where the words fit no command.
use Rattle.std.proofs.Common.{◌≡◌, inl, inr, ℕ, List, [], ◌∷◌, Option, Some, None, Result, Ok, Err, ap, sym, ◌∙◌, refl}
use Rattle.std.specs.Prelude.{◌≢◌}
use Rattle.apt_words.specs.Chains.{◌>>=◌}
use Rattle.apt_words.specs.declared.Refusal.{Refusal}
use Rattle.apt_parse.specs.Programs.{TextFault}
use Rattle.apt_shelf.specs.Told.{Contents}
use Rattle.apt_machine.specs.declared.machine.Machine.{Machine}
use Rattle.apt_machine.specs.declared.cause.MachineError.{MachineError}
use Rattle.apt_machine.specs.Tables.{table_of}
use Rattle.apt_records.specs.declared.record.Record.{Record}
use Rattle.apt_cldata.specs.Reading.{read_of}
use Rattle.apt_circular.specs.declared.ArcAct.{ArcAct}
use Rattle.apt_tape.specs.Tapes.{run_on}
use Rattle.apt_part.specs.Compilation.{steps_of, part_of}
use Rattle.apt_report.specs.declared.status.Status.{Status}
use Rattle.apt_report.specs.declared.status.Status.TheVariants as answers
use Rattle.apt_report.specs.declared.status.Summary.TheVariants as summaries
use Rattle.apt_core.specs.Words.{FourNames, TapeNames, Work, Compile, Certify, Decode, Listing, Demo, Guard}
use Rattle.apt_core.specs.Due.{OrNoMemory, told_by, bad_machine, bad_part, refused_step, bad_tape, unless_refused, machine_due, steps_due, records_due, acts_due}
use Rattle.apt_core.specs.Inputs.{Input, Files, part_inputs, inputs, guard_inputs, tape_inputs, list_inputs, IsUnread, IsFirstUnread, IsShort, IsStopped}
use Rattle.apt_core.specs.Outputs.{output_due}
use Rattle.apt_core.specs.Certificates.{judged_due, IsJudgement}
use Rattle.apt_words.specs.declared.deed.Step.{Step}
use Rattle.apt_outline.specs.Holding.{figures_at_end}
use Rattle.apt_outline.specs.Outlines.{outline_of}
use Rattle.apt_core.specs.Guarding.{outline_due, watched_due, IsGuarding}
use Rattle.apt_core.specs.Decoding.{Said, said_of, acts_said}
use Rattle.apt_core.specs.Listing.{points_said}
use Rattle.apt_core.specs.Demo.{IsDemo}
use Rattle.apt_core.specs.Promise.{Lines, Outside, Compiles, Certifies, Guards, Decodes, Lists, Works, IsPut, IsRun}

-- ---- what is due

told_never : {A E : Type 0} (s : Status) (due : Result A E) (tell : E → Status) → ((fault : E) → tell fault ≢ s) → told_by due tell ≢ Err s
told_never s (Ok x) tell none e = let f : ⊥ = cc in f
told_never s (Err fault) tell none e = none fault (let same : tell fault ≡ s = cc in same)

chain_never : {A B : Type 0} (s : Status) (due : Result A Status) (more : A → Result B Status) → due ≢ Err s → ((x : A) → more x ≢ Err s) → (due >>= more) ≢ Err s
chain_never s (Ok x) more none later = later x
chain_never s (Err answer) more none later = λ e. none (let same : answer ≡ s = cc in ap Err same)

ok_never : {A : Type 0} (s : Status) (x : A) → (Ok x) ≢ Err s
ok_never s x e = let f : ⊥ = cc in f

-- an answer that tells no fault of a table, and no fault and no refused step of a part
pub record TellsNoFault (s : Status) : Type 0 where
  pub table : (fault : MachineError) → bad_machine fault ≢ s
  pub text : (fault : TextFault) → bad_part fault ≢ s
  pub step : (r : Refusal) → refused_step r ≢ s

usage_tells_none : TellsNoFault answers.Usage
usage_tells_none = record { table = λ fault e. let f : ⊥ = cc in f; text = λ fault e. let f : ⊥ = cc in f; step = λ r e. let f : ⊥ = cc in f }

machine_never : (s : Status) (table : List ℕ) → TellsNoFault s → machine_due table ≢ Err s
machine_never s table tells = told_never s (table_of table) bad_machine tells.table

part_never : {A : Type 0} (s : Status) (due : Result (Result A Refusal) TextFault) → TellsNoFault s → unless_refused due ≢ Err s
part_never s due tells =
    chain_never s (told_by due bad_part) (λ r. told_by r refused_step) (told_never s due bad_part tells.text) (λ r. told_never s r refused_step tells.step)

pub output_never : (s : Status) (text table : List ℕ) → TellsNoFault s → output_due text table ≢ Err s
output_never s text table tells =
    chain_never s (machine_due table) _ (machine_never s table tells) (λ machine.
    chain_never s (unless_refused (part_of machine text)) _ (part_never s (part_of machine text) tells) (λ p. ok_never s _))

records_no_usage : (cl : List ℕ) → records_due cl ≢ Err answers.Usage
records_no_usage cl = told_never answers.Usage (read_of cl) (λ fault. answers.BadCl fault.at fault.cause) (λ fault e. let f : ⊥ = cc in f)

acts_no_usage : (machine : Machine) (tape : List ℕ) → acts_due machine tape ≢ Err answers.Usage
acts_no_usage machine tape = told_never answers.Usage (run_on machine tape) bad_tape (λ fault e. let f : ⊥ = cc in f)

judged_no_usage : (text table cl tape : List ℕ) → judged_due text table cl tape ≢ Err answers.Usage
judged_no_usage text table cl tape =
    chain_never answers.Usage (machine_due table) _ (machine_never answers.Usage table usage_tells_none) (λ machine.
    chain_never answers.Usage (steps_due machine text) _ (part_never answers.Usage (steps_of machine text) usage_tells_none) (λ steps.
    chain_never answers.Usage (records_due cl) _ (records_no_usage cl) (λ written.
    chain_never answers.Usage (acts_due machine tape) _ (acts_no_usage machine tape) (λ acts. ok_never answers.Usage _))))

outline_no_usage : (steps : List Step) (outline : List ℕ) → outline_due steps outline ≢ Err answers.Usage
outline_no_usage steps outline = told_never answers.Usage (outline_of (figures_at_end steps) outline) (λ fault. answers.BadOutline fault.0 fault.1) (λ fault e. let f : ⊥ = cc in f)

watched_no_usage : (text table cl tape outline : List ℕ) → watched_due text table cl tape outline ≢ Err answers.Usage
watched_no_usage text table cl tape outline =
    chain_never answers.Usage (machine_due table) _ (machine_never answers.Usage table usage_tells_none) (λ machine.
    chain_never answers.Usage (steps_due machine text) _ (part_never answers.Usage (steps_of machine text) usage_tells_none) (λ steps.
    chain_never answers.Usage (outline_due steps outline) _ (outline_no_usage steps outline) (λ parts.
    chain_never answers.Usage (records_due cl) _ (records_no_usage cl) (λ written.
    chain_never answers.Usage (acts_due machine tape) _ (acts_no_usage machine tape) (λ acts. ok_never answers.Usage _)))))

acts_said_no_usage : (due : Result (List ArcAct) Status) → due ≢ Err answers.Usage → (said_of (due >>= λ acts. Ok (acts_said acts))).answer ≢ answers.Usage
acts_said_no_usage (Ok acts) none e = let f : ⊥ = cc in f
acts_said_no_usage (Err answer) none e = none (ap Err e)

said_no_usage : (tape : List ℕ) (due : Result Machine Status) → due ≢ Err answers.Usage
    → (said_of (due >>= λ machine. acts_due machine tape >>= λ acts. Ok (acts_said acts))).answer ≢ answers.Usage
said_no_usage tape (Ok machine) none = acts_said_no_usage (acts_due machine tape) (acts_no_usage machine tape)
said_no_usage tape (Err answer) none = λ e. none (ap Err e)

-- ---- what is told

short_no_usage : (fault : Status) (before now : ℕ) (answer : Status) → fault ≢ answers.Usage → IsShort fault before now answer → answer ≢ answers.Usage
short_no_usage fault before now answer none (inl failed) e = none (sym failed.0 ∙ e)
short_no_usage fault before now answer none (inr short) e = let f : answers.NoMemory ≡ answers.Usage = sym short ∙ e in let g : ⊥ = cc in g

unread_no_usage : (told : Option Contents) (x : Input) (before now : ℕ) (answer : Status) → IsUnread told x before now answer → answer ≢ answers.Usage
unread_no_usage told x before now answer (inl missing) e = let f : answers.Missing x.name ≡ answers.Usage = sym missing.0 ∙ e in let g : ⊥ = cc in g
unread_no_usage told x before now answer (inr long) e = let f : answers.TooLong x.name ≡ answers.Usage = sym long.0 ∙ e in let g : ⊥ = cc in g

first_no_usage : (told : Option Contents) (xs : List Input) (before now : ℕ) (answer : Status) → IsFirstUnread told xs before now answer → answer ≢ answers.Usage
first_no_usage told [] before now answer is e = is
first_no_usage told (x ∷ xs) before now answer (inl unread) e = unread_no_usage told x before now answer unread e
first_no_usage told (x ∷ xs) before now answer (inr later) e = first_no_usage told xs before now answer later.2 e

stopped_no_usage : (xs : List Input) (before after : Files) (answer : Status) → IsStopped xs before after answer → answer ≢ answers.Usage
stopped_no_usage xs before after answer (inl first) = first_no_usage before.told xs before.read_faults after.read_faults answer first
stopped_no_usage xs before after answer (inr short) = short_no_usage answers.ReadFault before.read_faults after.read_faults answer (λ e. let f : ⊥ = cc in f) short

judgement_no_usage : (text table cl tape : List ℕ) (answer : Status) → IsJudgement text table cl tape answer → answer ≢ answers.Usage
judgement_no_usage text table cl tape answer (inl due) e = judged_no_usage text table cl tape (due ∙ ap Err e)
judgement_no_usage text table cl tape answer (inr found) e = elim found.2 [
  | inl missed ↦ (let f : answers.NotCertified missed.0 ≡ answers.Usage = sym missed.1 ∙ e in let g : ⊥ = cc in g)
  | inr done ↦ (let f : answers.Done (summaries.Certified done.0) ≡ answers.Usage = sym done.1 ∙ e in let g : ⊥ = cc in g)
]

compiles_no_usage : (n : FourNames) (before after : Files) (told : Status) → Compiles n before after told → told ≢ answers.Usage
compiles_no_usage n before after told works e = elim works.comes [
  | inl stopped ↦ stopped_no_usage (part_inputs n) before after told stopped.0 e
  | inr read ↦ elim read.3 [
    | inl due ↦ output_never answers.Usage read.0 read.1 usage_tells_none (due.0 ∙ ap Err e)
    | inr written ↦ elim written.2 [
      | inl whole ↦ (let f : answers.Done written.0.summary ≡ answers.Usage = sym whole.0 ∙ e in let g : ⊥ = cc in g)
      | inr cut ↦ short_no_usage answers.WriteFault before.write_faults after.write_faults told (λ e. let f : ⊥ = cc in f) cut.0 e
    ]
  ]
]

certifies_no_usage : (n : FourNames) (before after : Files) (told : Status) → Certifies n before after told → told ≢ answers.Usage
certifies_no_usage n before after told works e = elim works.comes [
  | inl stopped ↦ stopped_no_usage (inputs n) before after told stopped e
  | inr judges ↦ judgement_no_usage judges.text judges.table judges.cl judges.tape told judges.judgement e
]

guarding_no_usage : (text table cl tape outline : List ℕ) (answer : Status) → IsGuarding text table cl tape outline answer → answer ≢ answers.Usage
guarding_no_usage text table cl tape outline answer (inl due) e = watched_no_usage text table cl tape outline (due ∙ ap Err e)
guarding_no_usage text table cl tape outline answer (inr found) e = elim found.2 [
  | inl missed ↦ (let f : answers.NotCertified missed.0 ≡ answers.Usage = sym missed.1 ∙ e in let g : ⊥ = cc in g)
  | inr watched ↦ elim watched [
    | inl clear ↦ (let f : answers.Done (summaries.Guarded clear.0 clear.1) ≡ answers.Usage = sym clear.2 ∙ e in let g : ⊥ = cc in g)
    | inr gouged ↦ (let f : answers.Gouge gouged.0 ≡ answers.Usage = sym gouged.1 ∙ e in let g : ⊥ = cc in g)
  ]
]

guards_no_usage : (n : FourNames) (name : List ℕ) (before after : Files) (told : Status) → Guards n name before after told → told ≢ answers.Usage
guards_no_usage n name before after told works e = elim works.comes [
  | inl stopped ↦ stopped_no_usage (guard_inputs n name) before after told stopped e
  | inr watches ↦ guarding_no_usage watches.text watches.table watches.cl watches.tape watches.outline told watches.guarding e
]

decodes_no_usage : (n : TapeNames) (before after : Files) (said : Said) → Decodes n before after said → said.answer ≢ answers.Usage
decodes_no_usage n before after said works e = elim works.comes [
  | inl stopped ↦ stopped_no_usage (tape_inputs n) before after said.answer stopped.0 e
  | inr runs ↦ said_no_usage runs.tape (machine_due runs.table) (machine_never answers.Usage runs.table usage_tells_none) (sym (ap (λ (s : Said). s.answer) runs.due) ∙ e)
]

points_no_usage : (due : Result (List Record) Status) → due ≢ Err answers.Usage → (said_of (due >>= λ rs. Ok (points_said rs))).answer ≢ answers.Usage
points_no_usage (Ok rs) none e = let f : ⊥ = cc in f
points_no_usage (Err answer) none e = none (ap Err e)

lists_no_usage : (name : List ℕ) (before after : Files) (said : Said) → Lists name before after said → said.answer ≢ answers.Usage
lists_no_usage name before after said works e = elim works.comes [
  | inl stopped ↦ stopped_no_usage (list_inputs name) before after said.answer stopped.0 e
  | inr listed ↦ points_no_usage (records_due listed.cl) (records_no_usage listed.cl) (sym (ap (λ (s : Said). s.answer) listed.due) ∙ e)
]

demo_no_usage : (n : ℕ) (told : Status) → OrNoMemory (IsDemo n told) told → told ≢ answers.Usage
demo_no_usage n told (inl shown) e = let f : answers.Done (summaries.Demo n shown.1) ≡ answers.Usage = sym shown.4 ∙ e in let g : ⊥ = cc in g
demo_no_usage n told (inr short) e = let f : answers.NoMemory ≡ answers.Usage = sym short ∙ e in let g : ⊥ = cc in g

works_no_usage : (work : Option Work) (before after : Files) (said : Said) → Works work before after said → said.answer ≡ answers.Usage → work ≡ None
works_no_usage None before after said works e = refl
works_no_usage (Some (Compile n)) before after said works e = absurd (compiles_no_usage n before after said.answer works.1 e)
works_no_usage (Some (Certify n)) before after said works e = absurd (certifies_no_usage n before after said.answer works.1 e)
works_no_usage (Some (Decode n)) before after said works e = absurd (decodes_no_usage n before after said works e)
works_no_usage (Some (Listing name)) before after said works e = absurd (lists_no_usage name before after said works e)
works_no_usage (Some (Guard n name)) before after said works e = absurd (guards_no_usage n name before after said.answer works.1 e)
works_no_usage (Some (Demo n)) before after said works e = absurd (demo_no_usage n said.answer works.1.comes e)

put_no_usage : (said : Said) (answer : Status) (before after : Lines) → IsPut said before after answer → answer ≡ answers.Usage → said.answer ≡ answers.Usage
put_no_usage said answer before after puts e = elim puts.shows [
  | inl whole ↦ sym whole.0 ∙ e
  | inr front ↦ absurd (short_no_usage answers.WriteFault before.put_faults after.put_faults answer (λ e. let f : ⊥ = cc in f) front.0 e)
]

pub usage_asked : (work : Option Work) (before after : Outside) (answer : Status) → IsRun work before after answer → answer ≡ answers.Usage → work ≡ None
usage_asked work before after answer run e =
    works_no_usage work before.files after.files run.said run.works (put_no_usage run.said answer before.lines after.lines run.puts e)
