-- From the work and its line to the run, and where nothing outside fails.
use Rattle.std.proofs.Common.{◌≡◌, inl, inr, ℕ, List, [], ◌∷◌, length, Option, Some, None, Ok, ap, sym, ◌∙◌, subst}
use Rattle.apt_shelf.specs.Told.{Contents}
use Rattle.apt_certify.specs.declared.verdict.Verdict.{Verdict}
use Rattle.apt_circular.specs.declared.ArcAct.{ArcAct}
use Rattle.apt_tape.specs.Tapes.{run_on}
use Rattle.apt_machine.specs.declared.machine.Machine.{Machine}
use Rattle.apt_machine.specs.Tables.{table_of}
use Rattle.apt_report.specs.declared.status.Status.{Status}
use Rattle.apt_report.specs.declared.status.Status.TheVariants as answers
use Rattle.apt_report.specs.declared.status.Summary.TheVariants as summaries
use Rattle.apt_records.specs.declared.record.Record.{Record}
use Rattle.apt_cldata.specs.Reading.{read_of}
use Rattle.apt_report.specs.Listing.{point_count}
use Rattle.apt_core.specs.Words.{FourNames, TapeNames, Work, Compile, Certify, Decode, Listing, Demo, Guard}
use Rattle.apt_core.specs.Due.{OrNoMemory}
use Rattle.apt_core.specs.Inputs.{part_inputs, inputs, tape_inputs, list_inputs, ReadsAll}
use Rattle.apt_core.specs.Outputs.{Output, output_of, output_due}
use Rattle.apt_core.specs.Certificates.{IsRight, IsDone}
use Rattle.apt_core.specs.Decoding.{Said, said_of, acts_said, said_due}
use Rattle.apt_core.specs.Listing.{points_said, listed_due}
use Rattle.apt_core.specs.Demo.{IsDemo}
use Rattle.apt_core.specs.Promise.{Outside, Compiles, Certifies, Runs, Decodes, IsListed, Lists, Works, IsPut, IsRun, NoneRose, Completes}
use Rattle.apt_core.proofs.Chains.{one_due}
use Rattle.apt_core.proofs.Outputs.{due_for}
use Rattle.apt_core.proofs.Decoding.{said_for}
use Rattle.apt_core.proofs.Listing.{points_for}
use Rattle.apt_core.proofs.Right.{same_texts}
use Rattle.apt_core.proofs.Unfailed.{AreUnfailed, stopped_short, FaultOrWritten, compiles_whole, certifies_right, guards_clear}

pub run_is : (work : Option Work) (before after : Outside) (said : Said) (answer : Status) → Works work before.files after.files said → IsPut said before.lines after.lines answer
    → IsRun work before after answer
run_is work before after said answer works puts = record { said = said; works = works; puts = puts }

-- an answer that is one of all done or of no memory stays one behind its line
answered : (said : Said) (answer : Status) (Done : Status → Type 0) (before after : Outside) → NoneRose before after → OrNoMemory (Done said.answer) said.answer
    → IsPut said before.lines after.lines answer → OrNoMemory (Done answer) answer
answered said answer Done before after none is puts = elim puts.shows [
  | inl whole ↦ elim is [ inl done ↦ inl (subst Done (sym whole.0) done) | inr short ↦ inr (whole.0 ∙ short) ]
  | inr front ↦ elim front.0 [ inl failed ↦ absurd (none.putting failed.1) | inr short ↦ inr short ]
]

files_unfailed : (before after : Outside) → NoneRose before after → AreUnfailed before.files after.files
files_unfailed before after none = record { reading = none.reading; writing = none.writing }

-- ---- `compile`

-- what is written is the output that is due
written_due : (n : FourNames) (text table : List ℕ) (o : Output) (before after : Option Contents) (told : Status) → output_due text table ≡ Ok o
    → OrNoMemory (FaultOrWritten n text table before after told) told → OrNoMemory (told ≡ answers.Done o.summary) told
written_due n text table o before after told due (inl (inl fault)) = absurd (let f = sym fault ∙ due in let g : ⊥ = cc in g)
written_due n text table o before after told due (inl (inr is)) =
    inl (is.done ∙ ap (λ (r : Output). answers.Done r.summary) (one_due (output_due text table) is.output o is.due due))
written_due n text table o before after told due (inr short) = inr short

told_whole : (n : FourNames) (m : Contents) (text table : List ℕ) (o : Output) (before after : Outside) (told : Status) → Compiles n before.files after.files told
    → before.files.told ≡ Some m → ReadsAll (Some m) (part_inputs n) (text ∷ table ∷ []) → output_due text table ≡ Ok o → NoneRose before after
    → OrNoMemory (told ≡ answers.Done o.summary) told
told_whole n m text table o before after told works there reads due none =
    written_due n text table o before.files.told after.files.told told due
    (compiles_whole n m text table before.files after.files told there reads (files_unfailed before after none) works)

-- ---- `certify`

verdict_told : (machine : Machine) (text cl tape : List ℕ) (told : Status) → OrNoMemory (IsDone machine text cl tape told) told
    → OrNoMemory ((verdict : Verdict) × (told ≡ answers.Done (summaries.Certified verdict))) told
verdict_told machine text cl tape told (inl done) = inl (done.0, done.1)
verdict_told machine text cl tape told (inr short) = inr short

told_right : (machine : Machine) (n : FourNames) (m : Contents) (text table cl tape : List ℕ) (before after : Outside) (told : Status) → Certifies n before.files after.files told
    → before.files.told ≡ Some m → ReadsAll (Some m) (inputs n) (text ∷ table ∷ cl ∷ tape ∷ []) → table_of table ≡ Ok machine → IsRight machine text cl tape → NoneRose before after
    → OrNoMemory ((verdict : Verdict) × (told ≡ answers.Done (summaries.Certified verdict))) told
told_right machine n m text table cl tape before after told works there reads tabled right none =
    verdict_told machine text cl tape told
    (certifies_right machine n m text table cl tape before.files after.files told there reads tabled right (files_unfailed before after none) works)

-- ---- `decode`

-- a tape that runs to acts
runs_to : (n : TapeNames) (m : Contents) (table tape : List ℕ) (machine : Machine) (acts : List ArcAct) (said : Said) → ReadsAll (Some m) (tape_inputs n) (table ∷ tape ∷ [])
    → table_of table ≡ Ok machine → run_on machine tape ≡ Ok acts → Runs n (Some m) said → said.answer ≡ answers.Done (summaries.Decoded (length acts))
runs_to n m table tape machine acts said reads tabled run runs =
    by_texts (same_texts m (tape_inputs n) (runs.table ∷ runs.tape ∷ []) (table ∷ tape ∷ []) runs.reads reads)
  where
    due : said_due table tape ≡ Ok (acts_said acts)
    due = said_for table tape machine acts tabled run

    by_texts : (runs.table ∷ runs.tape ∷ []) ≡ (table ∷ tape ∷ []) → said.answer ≡ answers.Done (summaries.Decoded (length acts))
    by_texts same =
        let t : runs.table ≡ table = cc in
        let u : runs.tape ≡ tape = cc in
        let here : said_due runs.table runs.tape ≡ Ok (acts_said acts) = rw (t, u) due in
        ap (λ (s : Said). s.answer) (runs.due ∙ ap said_of here)

told_acts : (n : TapeNames) (m : Contents) (table tape : List ℕ) (machine : Machine) (acts : List ArcAct) (before after : Outside) (said : Said)
    → Decodes n before.files after.files said → before.files.told ≡ Some m → ReadsAll (Some m) (tape_inputs n) (table ∷ tape ∷ []) → table_of table ≡ Ok machine
    → run_on machine tape ≡ Ok acts → NoneRose before after → OrNoMemory (said.answer ≡ answers.Done (summaries.Decoded (length acts))) said.answer
told_acts n m table tape machine acts before after said works there reads tabled run none = elim works.comes [
  | inl stopped ↦ inr (stopped_short (tape_inputs n) m (table ∷ tape ∷ []) before.files after.files said.answer there reads (files_unfailed before after none) stopped.0)
  | inr runs ↦ inl (runs_to n m table tape machine acts said reads tabled run (subst (λ t. Runs n t said) there runs))
]

-- ---- `list`

-- a CL file that has records
lists_to : (name : List ℕ) (m : Contents) (cl : List ℕ) (rs : List Record) (said : Said) → ReadsAll (Some m) (list_inputs name) (cl ∷ []) → read_of cl ≡ Ok rs
    → IsListed name (Some m) said → said.answer ≡ answers.Done (summaries.Listed (point_count rs))
lists_to name m cl rs said reads read listed = by_text (same_texts m (list_inputs name) (listed.cl ∷ []) (cl ∷ []) listed.reads reads)
  where
    by_text : (listed.cl ∷ []) ≡ (cl ∷ []) → said.answer ≡ answers.Done (summaries.Listed (point_count rs))
    by_text same =
        let t : listed.cl ≡ cl = cc in
        let here : listed_due listed.cl ≡ Ok (points_said rs) = rw t (points_for cl rs read) in
        ap (λ (s : Said). s.answer) (listed.due ∙ ap said_of here)

told_points : (name : List ℕ) (m : Contents) (cl : List ℕ) (rs : List Record) (before after : Outside) (said : Said) → Lists name before.files after.files said
    → before.files.told ≡ Some m → ReadsAll (Some m) (list_inputs name) (cl ∷ []) → read_of cl ≡ Ok rs → NoneRose before after
    → OrNoMemory (said.answer ≡ answers.Done (summaries.Listed (point_count rs))) said.answer
told_points name m cl rs before after said works there reads read none = elim works.comes [
  | inl stopped ↦ inr (stopped_short (list_inputs name) m (cl ∷ []) before.files after.files said.answer there reads (files_unfailed before after none) stopped.0)
  | inr listed ↦ inl (lists_to name m cl rs said reads read (subst (λ t. IsListed name t said) there listed))
]

-- ---- `demo`

-- the verdict is told
told_demo : (n : ℕ) (told : Status) → OrNoMemory (IsDemo n told) told → OrNoMemory ((verdict : Verdict) × (told ≡ answers.Done (summaries.Demo n verdict))) told
told_demo n told (inl shown) = inl (shown.1, shown.4)
told_demo n told (inr short) = inr short

pub completes : (work : Option Work) (before after : Outside) (answer : Status) → IsRun work before after answer → Completes work before after answer
completes None before after answer run = tt
completes (Some (Compile n)) before after answer run = λ m there none text table machine p reads tabled comes.
    answered run.said answer (λ s. s ≡ answers.Done (output_of machine p.records).summary) before after none
    (told_whole n m text table (output_of machine p.records) before after run.said.answer run.works.1 there reads (due_for machine text table p tabled comes) none) run.puts
completes (Some (Certify n)) before after answer run = λ m there none text table cl tape machine reads tabled right.
    answered run.said answer (λ s. (verdict : Verdict) × (s ≡ answers.Done (summaries.Certified verdict))) before after none
    (told_right machine n m text table cl tape before after run.said.answer run.works.1 there reads tabled right none) run.puts
completes (Some (Decode n)) before after answer run = λ m there none table tape machine acts reads tabled runs.
    answered run.said answer (λ s. s ≡ answers.Done (summaries.Decoded (length acts))) before after none
    (told_acts n m table tape machine acts before after run.said run.works there reads tabled runs none) run.puts
completes (Some (Listing name)) before after answer run = λ m there none cl rs reads read.
    answered run.said answer (λ s. s ≡ answers.Done (summaries.Listed (point_count rs))) before after none
    (told_points name m cl rs before after run.said run.works there reads read none) run.puts
completes (Some (Guard n name)) before after answer run = λ m there none text table cl tape outline machine parts reads tabled right names clear.
    answered run.said answer (λ s. (segments : ℕ) × (s ≡ answers.Done (summaries.Guarded segments (length parts)))) before after none
    (guards_clear machine n name m text table cl tape outline before.files after.files run.said.answer parts right there reads tabled names clear (files_unfailed before after none) run.works.1) run.puts
completes (Some (Demo n)) before after answer run = λ m there none.
    answered run.said answer (λ s. (verdict : Verdict) × (s ≡ answers.Done (summaries.Demo n verdict))) before after none
    (told_demo n run.said.answer run.works.1.comes) run.puts
