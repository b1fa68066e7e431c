-- From what a guard finds to the answer.
use Rattle.std.proofs.Common.{◌≡◌, ◌∙◌, inl, inr, ℕ, List, [], ◌∷◌, ◌++◌, map, length, Option, Some, None, Result, Ok, Err, refl, ap, sym, subst}
use Rattle.std.specs.List.{AllByRecursion}
use Rattle.apt_words.specs.Chains.{◌>>=◌}
use Rattle.apt_words.specs.declared.deed.Step.{Step}
use Rattle.apt_shelf.specs.Told.{Contents}
use Rattle.apt_records.specs.declared.record.Record.{Record}
use Rattle.apt_cldata.specs.Reading.{read_of}
use Rattle.apt_certify.specs.declared.leg.Job.{Job}
use Rattle.apt_certify.specs.declared.verdict.Verdict.{Verdict}
use Rattle.apt_certify.specs.Verdicts.{IsVerdict}
use Rattle.apt_meaning.specs.Paths.{Contour, EveryContour, contours_of}
use Rattle.apt_meaning.specs.Records.{Follows}
use Rattle.apt_job.specs.Jobs.{job_said, jobs_said}
use Rattle.apt_machine.specs.declared.machine.Machine.{Machine}
use Rattle.apt_machine.specs.Tables.{table_of}
use Rattle.apt_circular.specs.declared.ArcAct.{ArcAct}
use Rattle.apt_tape.specs.Tapes.{acts_on}
use Rattle.apt_outline.specs.declared.parts.Part.{Part}
use Rattle.apt_outline.specs.declared.parts.Reach.{Reach}
use Rattle.apt_outline.specs.declared.parts.Gouge.{Gouge}
use Rattle.apt_outline.specs.Guards.{Pass, passes, IsClearPass, IsFirstGouge, IsFound}
use Rattle.apt_outline.specs.Reaches.{reach_of, pass_said}
use Rattle.apt_outline.specs.Spots.{IsFirst}
use Rattle.apt_outline.proofs.Reaching.{passes_said}
use Rattle.apt_part.specs.Compilation.{steps_of}
use Rattle.apt_part.specs.Promise.{Passes}
use Rattle.apt_part.proofs.Promised.{passes_comes}
use Rattle.apt_report.specs.declared.status.Status.{Status}
use Rattle.apt_report.specs.declared.status.Status.TheVariants as answers
use Rattle.apt_report.specs.declared.status.Summary.TheVariants as summaries
use Rattle.apt_core.specs.Words.{FourNames}
use Rattle.apt_core.specs.Due.{OrNoMemory, ComesToNone, unless_refused, machine_due, steps_due, records_due, acts_due}
use Rattle.apt_core.specs.Inputs.{Files, AreRead, guard_inputs, ReadsAll, IsStopped}
use Rattle.apt_core.specs.Certificates.{IsRight, IsCertified, judged_by, IsMiss, IsMissed}
use Rattle.apt_core.specs.Guarding.{KeepsClear, Outlines, outline_due, Watched, watched_by, watched_due, IsWatched, IsGuarding}
use Rattle.apt_core.specs.Promise.{Watches, Guards}
use Rattle.apt_core.proofs.Chains.{one_due, chain_on}
use Rattle.apt_core.proofs.Judging.{AreJudged, good_with}
use Rattle.apt_core.proofs.Right.{no_miss, same_texts}

-- ---- what texts come to

abbrev behind_written : Machine → List ℕ → List Step → List Part → List Record → Result Watched Status
behind_written machine tape steps parts written = acts_due machine tape >>= λ acts. Ok (watched_by (judged_by machine steps written acts) parts)

abbrev behind_parts : Machine → List ℕ → List ℕ → List Step → List Part → Result Watched Status
behind_parts machine cl tape steps parts = records_due cl >>= λ written. behind_written machine tape steps parts written

abbrev behind_steps : Machine → List ℕ → List ℕ → List ℕ → List Step → Result Watched Status
behind_steps machine cl tape outline steps = outline_due steps outline >>= λ parts. behind_parts machine cl tape steps parts

abbrev behind_table : List ℕ → List ℕ → List ℕ → List ℕ → Machine → Result Watched Status
behind_table text cl tape outline machine = steps_due machine text >>= λ steps. behind_steps machine cl tape outline steps

on_table : (machine : Machine) (text table cl tape outline : List ℕ) → table_of table ≡ Ok machine → watched_due text table cl tape outline ≡ behind_table text cl tape outline machine
on_table machine text table cl tape outline tabled = chain_on (machine_due table) machine (behind_table text cl tape outline) (rw tabled refl)

on_steps : (machine : Machine) (text table cl tape outline : List ℕ) (steps : List Step) → table_of table ≡ Ok machine → steps_of machine text ≡ Ok (Ok steps)
    → watched_due text table cl tape outline ≡ behind_steps machine cl tape outline steps
on_steps machine text table cl tape outline steps tabled comes =
    on_table machine text table cl tape outline tabled ∙ chain_on (steps_due machine text) steps (behind_steps machine cl tape outline) (ap unless_refused comes)

on_parts : (machine : Machine) (text table cl tape outline : List ℕ) (steps : List Step) (parts : List Part) → table_of table ≡ Ok machine → steps_of machine text ≡ Ok (Ok steps)
    → Outlines steps outline parts → watched_due text table cl tape outline ≡ behind_parts machine cl tape steps parts
on_parts machine text table cl tape outline steps parts tabled comes names =
    on_steps machine text table cl tape outline steps tabled comes ∙ chain_on (outline_due steps outline) parts (behind_parts machine cl tape steps) (rw names refl)

on_records : (machine : Machine) (text table cl tape outline : List ℕ) (steps : List Step) (parts : List Part) (written : List Record) → table_of table ≡ Ok machine
    → steps_of machine text ≡ Ok (Ok steps) → Outlines steps outline parts → read_of cl ≡ Ok written → watched_due text table cl tape outline ≡ behind_written machine tape steps parts written
on_records machine text table cl tape outline steps parts written tabled comes names read =
    on_parts machine text table cl tape outline steps parts tabled comes names ∙ chain_on (records_due cl) written (behind_written machine tape steps parts) (rw read refl)

pub watched_for : (machine : Machine) (text table cl tape outline : List ℕ) (steps : List Step) (written : List Record) (acts : List ArcAct) (parts : List Part)
    → AreJudged machine text table cl tape steps written acts → Outlines steps outline parts → watched_due text table cl tape outline ≡ Ok (watched_by (judged_by machine steps written acts) parts)
watched_for machine text table cl tape outline steps written acts parts are names =
    on_records machine text table cl tape outline steps parts written are.tabled are.comes names are.read
    ∙ chain_on (acts_due machine tape) acts (λ acts. Ok (watched_by (judged_by machine steps written acts) parts)) (rw are.run refl)

-- ---- where a text comes to nothing

none_watched : {A : Type 0} (text table cl tape outline : List ℕ) (due : Result A Status) (more : A → Result Watched Status) (answer : Status)
    → watched_due text table cl tape outline ≡ (due >>= more) → ComesToNone due answer → OrNoMemory (IsGuarding text table cl tape outline answer) answer
none_watched text table cl tape outline due more answer same (inl e) = inl (inl (same ∙ rw e refl))
none_watched text table cl tape outline due more answer same (inr short) = inr short

pub table_watched : (text table cl tape outline : List ℕ) (answer : Status) → machine_due table ≡ Err answer → OrNoMemory (IsGuarding text table cl tape outline answer) answer
table_watched text table cl tape outline answer e = none_watched text table cl tape outline (machine_due table) (behind_table text cl tape outline) answer refl (inl e)

pub part_watched : (machine : Machine) (text table cl tape outline : List ℕ) (answer : Status) → table_of table ≡ Ok machine → ComesToNone (steps_due machine text) answer
    → OrNoMemory (IsGuarding text table cl tape outline answer) answer
part_watched machine text table cl tape outline answer tabled none =
    none_watched text table cl tape outline (steps_due machine text) (behind_steps machine cl tape outline) answer (on_table machine text table cl tape outline tabled) none

pub outline_watched : (machine : Machine) (text table cl tape outline : List ℕ) (steps : List Step) (answer : Status) → table_of table ≡ Ok machine → steps_of machine text ≡ Ok (Ok steps)
    → ComesToNone (outline_due steps outline) answer → OrNoMemory (IsGuarding text table cl tape outline answer) answer
outline_watched machine text table cl tape outline steps answer tabled comes none =
    none_watched text table cl tape outline (outline_due steps outline) (behind_parts machine cl tape steps) answer (on_steps machine text table cl tape outline steps tabled comes) none

pub cl_watched : (machine : Machine) (text table cl tape outline : List ℕ) (steps : List Step) (parts : List Part) (answer : Status) → table_of table ≡ Ok machine
    → steps_of machine text ≡ Ok (Ok steps) → Outlines steps outline parts → ComesToNone (records_due cl) answer → OrNoMemory (IsGuarding text table cl tape outline answer) answer
cl_watched machine text table cl tape outline steps parts answer tabled comes names none =
    none_watched text table cl tape outline (records_due cl) (behind_written machine tape steps parts) answer (on_parts machine text table cl tape outline steps parts tabled comes names) none

pub tape_watched : (machine : Machine) (text table cl tape outline : List ℕ) (steps : List Step) (parts : List Part) (written : List Record) (answer : Status) → table_of table ≡ Ok machine
    → steps_of machine text ≡ Ok (Ok steps) → Outlines steps outline parts → read_of cl ≡ Ok written → ComesToNone (acts_due machine tape) answer
    → OrNoMemory (IsGuarding text table cl tape outline answer) answer
tape_watched machine text table cl tape outline steps parts written answer tabled comes names read none =
    none_watched text table cl tape outline (acts_due machine tape) (λ acts. Ok (watched_by (judged_by machine steps written acts) parts)) answer
    (on_records machine text table cl tape outline steps parts written tabled comes names read) none

-- something is missed
pub missed_watched : (machine : Machine) (text table cl tape outline : List ℕ) (steps : List Step) (written : List Record) (acts : List ArcAct) (parts : List Part) (answer : Status)
    → AreJudged machine text table cl tape steps written acts → Outlines steps outline parts → OrNoMemory (IsMissed machine steps written acts answer) answer
    → OrNoMemory (IsGuarding text table cl tape outline answer) answer
missed_watched machine text table cl tape outline steps written acts parts answer are names (inl missed) =
    inl (inr (watched_by (judged_by machine steps written acts) parts, watched_for machine text table cl tape outline steps written acts parts are names, inl missed))
missed_watched machine text table cl tape outline steps written acts parts answer are names (inr short) = inr short

-- ---- the contours of records

pub found_said : (parts : List Part) (written : List Record) (jobs : List Job) (reaches : List Reach) (found : Option Gouge) → jobs ≡ jobs_said written → reaches ≡ map reach_of (contours_of written)
    → IsFound (passes jobs reaches) parts found → IsFound (map pass_said (contours_of written)) parts found
found_said parts written jobs reaches found said reach is =
    subst (λ (ps : List Pass). IsFound ps parts found) (rw (said, reach) (passes_said job_said (λ c. refl) (contours_of written))) is

each_clear : (parts : List Part) (cs : List Contour) → AllByRecursion (IsClearPass parts) (map pass_said cs) → EveryContour (KeepsClear parts) cs
each_clear parts [] clear = tt
each_clear parts (c ∷ cs) clear = (clear.0, each_clear parts cs clear.1)

all_clear : (parts : List Part) (cs : List Contour) → EveryContour (KeepsClear parts) cs → AllByRecursion (IsClearPass parts) (map pass_said cs)
all_clear parts [] clear = tt
all_clear parts (c ∷ cs) clear = (clear.0, all_clear parts cs clear.1)

holds_at : {T : Type 0} (P : T → Type 0) (before behind : List T) (x : T) → AllByRecursion P (before ++ x ∷ behind) → P x
holds_at P [] behind x all = all.0
holds_at P (y ∷ before) behind x all = holds_at P before behind x all.1

none_first : {T : Type 0} (P : T → Type 0) (list : List T) (n : ℕ) (x : T) → IsFirst P list n x → AllByRecursion P list → ⊥
none_first P list n x first all = first.fails (holds_at P first.before first.behind x (subst (AllByRecursion P) first.split all))

-- ---- all is right

abbrev answer_found : Verdict → List Part → Option Gouge → Status
answer_found v parts None = answers.Done (summaries.Guarded v.segments (length parts))
answer_found v parts (Some g) = answers.Gouge g

pub good_watched : (machine : Machine) (text table cl tape outline : List ℕ) (steps : List Step) (written : List Record) (acts : List ArcAct) (parts : List Part) (v : Verdict) (found : Option Gouge)
    → AreJudged machine text table cl tape steps written acts → Outlines steps outline parts → Passes machine text steps → Follows steps written → IsVerdict (jobs_said written) v
    → v.first_bad ≡ None → acts ≡ acts_on machine written → IsFound (map pass_said (contours_of written)) parts found
    → OrNoMemory (IsGuarding text table cl tape outline (answer_found v parts found)) (answer_found v parts found)
good_watched machine text table cl tape outline steps written acts parts v found are names pass follow verdict none planned is =
    inl (inr (watched_by (judged_by machine steps written acts) parts, watched_for machine text table cl tape outline steps written acts parts are names, inr (by_found found is)))
  where
    good : (certified : IsCertified machine text cl tape v) × (steps ≡ certified.right.steps) × (written ≡ certified.right.records)
    good = good_with machine text cl tape steps written v pass are.read (are.run ∙ ap Ok planned) follow verdict none

    named : Outlines good.0.right.steps outline parts
    named = subst (λ (ss : List Step). Outlines ss outline parts) good.1 names

    by_found : (found : Option Gouge) → IsFound (map pass_said (contours_of written)) parts found → IsWatched machine text cl tape outline (answer_found v parts found)
    by_found None clear = inl (
      v.segments,
      length parts,
      refl,
      record {
        verdict = v;
        certified = good.0;
        parts = parts;
        names = named;
        clear = subst (λ (rs : List Record). EveryContour (KeepsClear parts) (contours_of rs)) good.2 (each_clear parts (contours_of written) clear);
        counted = refl;
        number = refl;
      },
    )
    by_found (Some g) gouge = inr (
      g,
      refl,
      record {
        verdict = v;
        certified = good.0;
        parts = parts;
        names = named;
        gouge = subst (λ (rs : List Record). IsFirstGouge (map pass_said (contours_of rs)) parts g) good.2 gouge;
      },
    )

-- so many parts are told
pub as_many : (text table cl tape outline : List ℕ) (segments n : ℕ) (parts : List Part) → n ≡ length parts
    → OrNoMemory (IsGuarding text table cl tape outline (answers.Done (summaries.Guarded segments (length parts)))) (answers.Done (summaries.Guarded segments (length parts)))
    → OrNoMemory (IsGuarding text table cl tape outline (answers.Done (summaries.Guarded segments n))) (answers.Done (summaries.Guarded segments n))
as_many text table cl tape outline segments n parts many is =
    subst (λ k. OrNoMemory (IsGuarding text table cl tape outline (answers.Done (summaries.Guarded segments k))) (answers.Done (summaries.Guarded segments k))) (sym many) is

-- ---- where no contour comes too near, nothing else is answered

same_steps : (machine : Machine) (text cl tape : List ℕ) (a b : IsRight machine text cl tape) → a.steps ≡ b.steps
same_steps machine text cl tape a b =
    let e : steps_of machine text ≡ Ok (Ok a.steps) = passes_comes machine text a.steps a.passes in
    let f : steps_of machine text ≡ Ok (Ok b.steps) = passes_comes machine text b.steps b.passes in
    let same : Ok (Ok a.steps) ≡ steps_of machine text = sym e in cc

same_records : (machine : Machine) (text cl tape : List ℕ) (a b : IsRight machine text cl tape) → a.records ≡ b.records
same_records machine text cl tape a b = let same : Ok a.records ≡ Ok b.records = sym a.read ∙ b.read in cc

same_parts : (steps others : List Step) (outline : List ℕ) (parts more : List Part) → steps ≡ others → Outlines steps outline parts → Outlines others outline more → parts ≡ more
same_parts steps others outline parts more same one two = let both : Ok parts ≡ Ok more = sym one ∙ subst (λ (ss : List Step). Outlines ss outline more) (sym same) two in cc

abbrev IsClear : List Part → Status → Type 0
IsClear parts told = (segments : ℕ) × (told ≡ answers.Done (summaries.Guarded segments (length parts)))

watched_clear : (machine : Machine) (text cl tape outline : List ℕ) (told : Status) (parts : List Part) (right : IsRight machine text cl tape) → Outlines right.steps outline parts
    → EveryContour (KeepsClear parts) (contours_of right.records) → IsWatched machine text cl tape outline told → IsClear parts told
watched_clear machine text cl tape outline told parts right names clear (inl is) =
    let guarded = is.3 in
    let theirs = same_parts guarded.certified.right.steps right.steps outline guarded.parts parts (same_steps machine text cl tape guarded.certified.right right) guarded.names names in
    (is.0, is.2 ∙ ap (λ n. answers.Done (summaries.Guarded is.0 n)) (guarded.number ∙ ap length theirs))
watched_clear machine text cl tape outline told parts right names clear (inr is) =
    let gouged = is.2 in
    let theirs = same_parts gouged.certified.right.steps right.steps outline gouged.parts parts (same_steps machine text cl tape gouged.certified.right right) gouged.names names in
    let records = same_records machine text cl tape gouged.certified.right right in
    let all = all_clear parts (contours_of right.records) clear in
    absurd (none_first (IsClearPass gouged.parts) (map pass_said (contours_of gouged.certified.right.records)) is.0.motion gouged.gouge.its_pass gouged.gouge.motion (rw (theirs, records) all))

right_watched : (machine : Machine) (text table cl tape outline : List ℕ) (parts : List Part) (right : IsRight machine text cl tape) → table_of table ≡ Ok machine → Outlines right.steps outline parts
    → watched_due text table cl tape outline ≡ Ok (watched_by (judged_by machine right.steps right.records (acts_on machine right.records)) parts)
right_watched machine text table cl tape outline parts right tabled names =
    watched_for machine text table cl tape outline right.steps right.records (acts_on machine right.records) parts
    (record { tabled = tabled; comes = passes_comes machine text right.steps right.passes; read = right.read; run = right.acts }) names

guarding_clear : (machine : Machine) (text table cl tape outline : List ℕ) (told : Status) (parts : List Part) (right : IsRight machine text cl tape) → table_of table ≡ Ok machine
    → Outlines right.steps outline parts → EveryContour (KeepsClear parts) (contours_of right.records) → IsGuarding text table cl tape outline told → IsClear parts told
guarding_clear machine text table cl tape outline told parts right tabled names clear (inl none) =
    absurd (let f = sym none ∙ right_watched machine text table cl tape outline parts right tabled names in let g : ⊥ = cc in g)
guarding_clear machine text table cl tape outline told parts right tabled names clear (inr found) = elim found.2 [
  | inl missed ↦ absurd (no_miss machine text cl tape right (acts_on machine right.records) missed.0 refl
      (subst (λ (w : Watched). IsMiss w.judged.machine w.judged.steps w.judged.written w.judged.acts missed.0) same missed.2))
  | inr watched ↦ watched_clear machine text cl tape outline told parts right names clear (subst (λ (w : Watched). IsWatched w.judged.machine text cl tape outline told) same watched)
]
  where
    same : found.0 ≡ watched_by (judged_by machine right.steps right.records (acts_on machine right.records)) parts
    same = one_due (watched_due text table cl tape outline) found.0 (watched_by (judged_by machine right.steps right.records (acts_on machine right.records)) parts) found.1
        (right_watched machine text table cl tape outline parts right tabled names)

pub right_is_clear : (machine : Machine) (n : FourNames) (name : List ℕ) (m : Contents) (text table cl tape outline : List ℕ) (told : Status) (parts : List Part) (right : IsRight machine text cl tape)
    → ReadsAll (Some m) (guard_inputs n name) (text ∷ table ∷ cl ∷ tape ∷ outline ∷ []) → table_of table ≡ Ok machine → Outlines right.steps outline parts
    → EveryContour (KeepsClear parts) (contours_of right.records) → Watches n name (Some m) told → IsClear parts told
right_is_clear machine n name m text table cl tape outline told parts right reads tabled names clear is =
    by_texts (same_texts m (guard_inputs n name) (is.text ∷ is.table ∷ is.cl ∷ is.tape ∷ is.outline ∷ []) (text ∷ table ∷ cl ∷ tape ∷ outline ∷ []) is.reads reads)
  where
    by_texts : (is.text ∷ is.table ∷ is.cl ∷ is.tape ∷ is.outline ∷ []) ≡ (text ∷ table ∷ cl ∷ tape ∷ outline ∷ []) → IsClear parts told
    by_texts same =
        let t : is.text ≡ text = cc in
        let b : is.table ≡ table = cc in
        let c : is.cl ≡ cl = cc in
        let p : is.tape ≡ tape = cc in
        let o : is.outline ≡ outline = cc in
        guarding_clear machine text table cl tape outline told parts right tabled names clear (rw (← t, ← b, ← c, ← p, ← o) is.guarding)

-- ---- the work

pub stopped_guards : (n : FourNames) (name : List ℕ) (before after : Files) (told : Status) → AreRead before after → IsStopped (guard_inputs n name) before after told
    → Guards n name before after told
stopped_guards n name before after told read stopped = record { comes = inl stopped; read = read }

-- all are read
pub watched_guards : (n : FourNames) (name text table cl tape outline : List ℕ) (before after : Files) (told : Status) → AreRead before after
    → ReadsAll before.told (guard_inputs n name) (text ∷ table ∷ cl ∷ tape ∷ outline ∷ []) → OrNoMemory (IsGuarding text table cl tape outline told) told → Guards n name before after told
watched_guards n name text table cl tape outline before after told read reads (inl guarding) = record {
  comes = inr (record { text = text; table = table; cl = cl; tape = tape; outline = outline; reads = reads; guarding = guarding });
  read = read;
}
watched_guards n name text table cl tape outline before after told read reads (inr short) = stopped_guards n name before after told read (inr (inr short))
