-- The promise of the top call: what a run answers, and what it does to what stands outside the program.
use Rattle.std.specs.Prelude.{◌≡◌, ◌⊎◌, ℕ, ◌≤◌, List, [], ◌∷◌, length, Option, Some, None, Ok, Err}
use Rattle.std.specs.FinMap.{get}
use Rattle.apt_shelf.specs.declared.shelf.Shelf as shelves
use Rattle.apt_shelf.specs.declared.shelf.Sink as sinks
use Rattle.apt_shelf.specs.Told.{Contents, Rose, Puts, PutsPrefix}
use Rattle.apt_certify.specs.declared.verdict.Verdict.{Verdict}
use Rattle.apt_machine.specs.declared.machine.Machine.{Machine}
use Rattle.apt_machine.specs.Tables.{table_of}
use Rattle.apt_circular.specs.declared.ArcAct.{ArcAct}
use Rattle.apt_tape.specs.Tapes.{run_on}
use Rattle.apt_part.specs.Compilation.{Compiled, part_of}
use Rattle.apt_report.specs.declared.status.Status.{Status}
use Rattle.apt_report.specs.declared.status.Status.TheVariants as answers
use Rattle.apt_report.specs.declared.status.Summary.TheVariants as summaries
use Rattle.apt_core.specs.Words.{FourNames, TapeNames, Work, Compile, Certify, Decode, Listing, Demo, Guard}
use Rattle.apt_core.specs.Due.{OrNoMemory}
use Rattle.apt_core.specs.Inputs.{Files, files_on, AreRead, part_inputs, inputs, guard_inputs, tape_inputs, list_inputs, ReadsAll, IsShort, IsStopped}
use Rattle.apt_core.specs.Outputs.{Output, output_of, output_due, IsOutput}
use Rattle.apt_core.specs.Delivery.{with_output, WritesFront}
use Rattle.apt_core.specs.Certificates.{IsRight, IsJudgement}
use Rattle.apt_core.specs.Guarding.{KeepsClear, Outlines, IsGuarding}
use Rattle.apt_core.specs.Decoding.{Said, lined, said_of, said_due}
use Rattle.apt_core.specs.Listing.{listed_due}
use Rattle.apt_core.specs.Demo.{IsDemo}
use Rattle.apt_report.specs.Listing.{point_count}
use Rattle.apt_records.specs.declared.record.Record.{Record}
use Rattle.apt_meaning.specs.Paths.{EveryContour, contours_of}
use Rattle.apt_outline.specs.declared.parts.Part.{Part}
use Rattle.apt_cldata.specs.Reading.{read_of}

-- ---- what stands outside

-- what is shown, where that is told, and how often putting has failed
pub record Lines : Type 0 where
  pub shown : Option (List ℕ)
  pub put_faults : ℕ

-- all that a run reads, writes and shows
pub record Outside : Type 0 where
  pub files : Files
  pub lines : Lines

-- the same, as a sink has it, and as a shelf and a sink do
abbrev pub lines_on : {K : Type 0} → sinks.Ghosts K → K → Lines
lines_on k sink = record { shown = k.shown sink; put_faults = k.faults sink }

abbrev pub outside : {H K : Type 0} → shelves.Ghosts H → sinks.Ghosts K → H → K → Outside
outside h k shelf sink = record { files = files_on h shelf; lines = lines_on k sink }

-- ---- `compile`

-- the names CL and TAPE hold the CL file and the tape of the part that was read, for the machine of the table that was read: they are those of its
-- records, right for it, and all that `certify` asks of them holds; all other names hold what they held
pub record IsCompiled (n : FourNames) (text table : List ℕ) (o : Output) (before after : Contents) : Type 0 where
  pub output : IsOutput text table o
  pub written : after ≡ with_output n.cl n.tape o before
  pub cl_holds : get after n.cl ≡ Some o.cl
  pub tape_holds : get after n.tape ≡ Some o.tape

-- told files stay told
abbrev pub Leaves : FourNames → List ℕ → List ℕ → Output → Option Contents → Option Contents → Type 0
Leaves n text table o None after = Unit {0}
Leaves n text table o (Some before) None = ⊥
Leaves n text table o (Some before) (Some after) = IsCompiled n text table o before after

-- both files are written; or a front part of them, where writing failed, or memory ran out
abbrev pub Delivers : FourNames → List ℕ → List ℕ → Output → Files → Files → Status → Type 0
Delivers n text table o before after told =
    ((told ≡ answers.Done o.summary) × Leaves n text table o before.told after.told)
    ⊎ (IsShort answers.WriteFault before.write_faults after.write_faults told × WritesFront n.cl n.tape o before.told after.told)

-- the texts of the part and of the table have a fault, or a step is refused, and nothing is written; or they come to an output, and it is written
abbrev pub Writes : FourNames → List ℕ → List ℕ → Files → Files → Status → Type 0
Writes n text table before after told =
    ((output_due text table ≡ Err told) × AreRead before after)
    ⊎ ((o : Output) × (output_due text table ≡ Ok o) × Delivers n text table o before after told)

-- the work of `compile`: it stops, and nothing is written; or both texts are read, and what is due for them is told, and written
pub record Compiles (n : FourNames) (before after : Files) (told : Status) : Type 0 where
  pub comes :
      (IsStopped (part_inputs n) before after told × AreRead before after)
      ⊎ ((text table : List ℕ) × ReadsAll before.told (part_inputs n) (text ∷ table ∷ []) × Writes n text table before after told)
  pub reads_later : before.read_faults ≤ after.read_faults
  pub writes_later : before.write_faults ≤ after.write_faults

-- ---- `certify`

-- the four texts, and the answer to them
pub record Judges (n : FourNames) (told : Option Contents) (answer : Status) : Type 0 where
  pub text : List ℕ
  pub table : List ℕ
  pub cl : List ℕ
  pub tape : List ℕ
  pub reads : ReadsAll told (inputs n) (text ∷ table ∷ cl ∷ tape ∷ [])
  pub judgement : IsJudgement text table cl tape answer

-- the work of `certify`: it stops, or it answers what the four files hold. Nothing is written
pub record Certifies (n : FourNames) (before after : Files) (told : Status) : Type 0 where
  pub comes : IsStopped (inputs n) before after told ⊎ Judges n before.told told
  pub read : AreRead before after

-- ---- `guard`

-- the five texts, and the answer to them
pub record Watches (n : FourNames) (name : List ℕ) (told : Option Contents) (answer : Status) : Type 0 where
  pub text : List ℕ
  pub table : List ℕ
  pub cl : List ℕ
  pub tape : List ℕ
  pub outline : List ℕ
  pub reads : ReadsAll told (guard_inputs n name) (text ∷ table ∷ cl ∷ tape ∷ outline ∷ [])
  pub guarding : IsGuarding text table cl tape outline answer

-- the work of `guard`: it stops, or it answers what the five files hold. Nothing is written
pub record Guards (n : FourNames) (name : List ℕ) (before after : Files) (told : Status) : Type 0 where
  pub comes : IsStopped (guard_inputs n name) before after told ⊎ Watches n name before.told told
  pub read : AreRead before after

-- ---- `decode`

-- the two texts, and what is said for them
pub record Runs (n : TapeNames) (files : Option Contents) (said : Said) : Type 0 where
  pub table : List ℕ
  pub tape : List ℕ
  pub reads : ReadsAll files (tape_inputs n) (table ∷ tape ∷ [])
  pub due : said ≡ said_of (said_due table tape)

-- the work of `decode`: it stops, or it says what the tape is decoded to. Nothing is written
pub record Decodes (n : TapeNames) (before after : Files) (said : Said) : Type 0 where
  pub comes : (IsStopped (tape_inputs n) before after said.answer × (said ≡ lined said.answer)) ⊎ Runs n before.told said
  pub read : AreRead before after

-- ---- `list`

-- the bytes of the CL file, and what is said for them
pub record IsListed (name : List ℕ) (files : Option Contents) (said : Said) : Type 0 where
  pub cl : List ℕ
  pub reads : ReadsAll files (list_inputs name) (cl ∷ [])
  pub due : said ≡ said_of (listed_due cl)

-- the work of `list`: it stops, or it says what points the CL file has. Nothing is written
pub record Lists (name : List ℕ) (before after : Files) (said : Said) : Type 0 where
  pub comes : (IsStopped (list_inputs name) before after said.answer × (said ≡ lined said.answer)) ⊎ IsListed name before.told said
  pub read : AreRead before after

-- ---- `demo`

-- the work of `demo`: its part is shown, or memory ran out. Nothing outside is read or written
pub record Demonstrates (n : ℕ) (before after : Files) (told : Status) : Type 0 where
  pub comes : OrNoMemory (IsDemo n told) told
  pub untouched : after ≡ before

-- ---- a run

-- the work that is asked for, none where the words fit no shape; it comes to what is told, and to the text that is put for it
abbrev pub Works : Option Work → Files → Files → Said → Type 0
Works None before after said = (said ≡ lined answers.Usage) × (after ≡ before)
Works (Some (Compile n)) before after said = (said ≡ lined said.answer) × Compiles n before after said.answer
Works (Some (Certify n)) before after said = (said ≡ lined said.answer) × Certifies n before after said.answer
Works (Some (Decode n)) before after said = Decodes n before after said
Works (Some (Listing name)) before after said = Lists name before after said
Works (Some (Demo n)) before after said = (said ≡ lined said.answer) × Demonstrates n before after said.answer
Works (Some (Guard n outline)) before after said = (said ≡ lined said.answer) × Guards n outline before after said.answer

-- all of the text stands behind what was shown; or a front part of it, where putting failed, or memory ran out
abbrev pub Shows : Said → Lines → Lines → Status → Type 0
Shows said before after answer =
    ((answer ≡ said.answer) × Puts said.text before.shown after.shown)
    ⊎ (IsShort answers.WriteFault before.put_faults after.put_faults answer × PutsPrefix said.text before.shown after.shown)

-- the putting of the text
pub record IsPut (said : Said) (before after : Lines) (answer : Status) : Type 0 where
  pub shows : Shows said before after answer
  pub later : before.put_faults ≤ after.put_faults

-- first all work is done, which comes to what is said, and then its text is put
pub record IsRun (work : Option Work) (before after : Outside) (answer : Status) : Type 0 where
  pub said : Said
  pub works : Works work before.files after.files said
  pub puts : IsPut said before.lines after.lines answer

-- ---- completeness

-- nothing outside failed
pub record NoneRose (before after : Outside) : Type 0 where
  pub reading : ¬ (Rose before.files.read_faults after.files.read_faults)
  pub writing : ¬ (Rose before.files.write_faults after.files.write_faults)
  pub putting : ¬ (Rose before.lines.put_faults after.lines.put_faults)

-- for the machine of a table: a part without fault, of which no step is refused, is compiled; a CL file and a tape that are right for their part are
-- certified, and guarded where no contour of theirs comes too near to a part of an outline; a tape that a control runs is decoded. A CL file is listed, and the part of
-- `demo` is certified
abbrev pub CompletesIn : Work → Contents → Status → Type 0
CompletesIn (Compile n) m answer =
    (text table : List ℕ) (machine : Machine) (p : Compiled) → ReadsAll (Some m) (part_inputs n) (text ∷ table ∷ []) → table_of table ≡ Ok machine → part_of machine text ≡ Ok (Ok p)
    → OrNoMemory (answer ≡ answers.Done (output_of machine p.records).summary) answer
CompletesIn (Certify n) m answer =
    (text table cl tape : List ℕ) (machine : Machine) → ReadsAll (Some m) (inputs n) (text ∷ table ∷ cl ∷ tape ∷ []) → table_of table ≡ Ok machine → IsRight machine text cl tape
    → OrNoMemory ((verdict : Verdict) × (answer ≡ answers.Done (summaries.Certified verdict))) answer
CompletesIn (Decode n) m answer =
    (table tape : List ℕ) (machine : Machine) (acts : List ArcAct) → ReadsAll (Some m) (tape_inputs n) (table ∷ tape ∷ []) → table_of table ≡ Ok machine
    → run_on machine tape ≡ Ok acts → OrNoMemory (answer ≡ answers.Done (summaries.Decoded (length acts))) answer
CompletesIn (Listing name) m answer =
    (cl : List ℕ) (rs : List Record) → ReadsAll (Some m) (list_inputs name) (cl ∷ []) → read_of cl ≡ Ok rs
    → OrNoMemory (answer ≡ answers.Done (summaries.Listed (point_count rs))) answer
CompletesIn (Guard n name) m answer =
    (text table cl tape outline : List ℕ) (machine : Machine) (parts : List Part) → ReadsAll (Some m) (guard_inputs n name) (text ∷ table ∷ cl ∷ tape ∷ outline ∷ [])
    → table_of table ≡ Ok machine → (right : IsRight machine text cl tape) → Outlines right.steps outline parts → EveryContour (KeepsClear parts) (contours_of right.records)
    → OrNoMemory ((segments : ℕ) × (answer ≡ answers.Done (summaries.Guarded segments (length parts)))) answer
CompletesIn (Demo n) m answer = OrNoMemory ((verdict : Verdict) × (answer ≡ answers.Done (summaries.Demo n verdict))) answer

-- where no count rose, or memory ran out
abbrev pub Completes : Option Work → Outside → Outside → Status → Type 0
Completes None before after answer = Unit {0}
Completes (Some work) before after answer = (m : Contents) → before.files.told ≡ Some m → NoneRose before after → CompletesIn work m answer
