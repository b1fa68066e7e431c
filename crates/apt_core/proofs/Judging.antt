-- From what a judging finds to the answer, and to what is right.
use Rattle.std.proofs.Common.{◌≡◌, inl, inr, ℕ, List, [], ◌∷◌, None, Result, Ok, Err, IfOk, IfErr, MatchResult, ap, ◌∙◌, refl, subst}
use Rattle.apt_words.specs.Chains.{◌>>=◌}
use Rattle.apt_words.specs.declared.deed.Step.{Step}
use Rattle.apt_records.specs.declared.record.Record.{Record}
use Rattle.apt_cldata.specs.Reading.{read_of}
use Rattle.apt_certify.specs.declared.leg.Job.{Job}
use Rattle.apt_certify.specs.declared.verdict.Verdict.{Verdict}
use Rattle.apt_certify.specs.Jobs.{AreLegal}
use Rattle.apt_certify.specs.Verdicts.{IsVerdict, IsFirstBadOrNone}
use Rattle.apt_meaning.specs.Situations.{first_situation}
use Rattle.apt_meaning.specs.Records.{Follows}
use Rattle.apt_meaning.proofs.InNumbers.{legal_in_numbers}
use Rattle.apt_job.specs.Jobs.{jobs_said}
use Rattle.apt_job.proofs.Walks.{jobs_right, makes_said}
use Rattle.apt_machine.specs.declared.machine.Machine.{Machine}
use Rattle.apt_machine.specs.Tables.{table_of}
use Rattle.apt_circular.specs.declared.ArcAct.{ArcAct}
use Rattle.apt_tape.specs.Tapes.{acts_on, run_on}
use Rattle.apt_sweeps.proofs.Machines.{arcs_belong}
use Rattle.apt_part.proofs.Promised.{passes_drilled}
use Rattle.apt_part.specs.Compilation.{steps_of}
use Rattle.apt_part.specs.Promise.{Passes, file_limit}
use Rattle.apt_report.specs.declared.status.Status.{Status}
use Rattle.apt_report.specs.declared.status.Status.TheVariants as answers
use Rattle.apt_report.specs.declared.status.Summary.TheVariants as summaries
use Rattle.apt_core.specs.Words.{FourNames}
use Rattle.apt_core.specs.Due.{OrNoMemory, ComesToNone, unless_refused, machine_due, steps_due, records_due, acts_due}
use Rattle.apt_core.specs.Inputs.{Files, AreRead, input, part_limit, machine_limit, inputs, Reads, ReadsAll, IsStopped}
use Rattle.apt_core.specs.Certificates.{IsCertified, Judged, judged_by, judged_due, IsMissed, IsJudgement}
use Rattle.apt_core.specs.Promise.{Certifies}
use Rattle.apt_core.proofs.Counting.{makes_segments}
use Rattle.apt_core.proofs.Chains.{chain_on}
use Rattle.apt_core.proofs.Readings.{reads_next, stopped_next}

-- a verdict without a bad motion finds all legal
all_legal : (jobs : List Job) (v : Verdict) → IsVerdict jobs v → v.first_bad ≡ None → AreLegal jobs
all_legal jobs v is none = subst (IsFirstBadOrNone jobs) none is.first_bad

-- what texts come to
pub record AreJudged (machine : Machine) (text table cl tape : List ℕ) (steps : List Step) (written : List Record) (acts : List ArcAct) : Type 0 where
  pub tabled : table_of table ≡ Ok machine
  pub comes : steps_of machine text ≡ Ok (Ok steps)
  pub read : read_of cl ≡ Ok written
  pub run : run_on machine tape ≡ Ok acts

-- behind the table, the steps and the records
abbrev behind_records : Machine → List ℕ → List Step → List Record → Result Judged Status
behind_records machine tape steps written = acts_due machine tape >>= λ acts. Ok (judged_by machine steps written acts)

abbrev behind_steps : Machine → List ℕ → List ℕ → List Step → Result Judged Status
behind_steps machine cl tape steps = records_due cl >>= λ written. behind_records machine tape steps written

abbrev behind_table : List ℕ → List ℕ → List ℕ → Machine → Result Judged Status
behind_table text cl tape machine = steps_due machine text >>= λ steps. behind_steps machine cl tape steps

on_table : (machine : Machine) (text table cl tape : List ℕ) → table_of table ≡ Ok machine → judged_due text table cl tape ≡ behind_table text cl tape machine
on_table machine text table cl tape tabled = chain_on (machine_due table) machine (behind_table text cl tape) (rw tabled refl)

on_steps : (machine : Machine) (text table cl tape : List ℕ) (steps : List Step) → table_of table ≡ Ok machine → steps_of machine text ≡ Ok (Ok steps)
    → judged_due text table cl tape ≡ behind_steps machine cl tape steps
on_steps machine text table cl tape steps tabled comes =
    on_table machine text table cl tape tabled ∙ chain_on (steps_due machine text) steps (behind_steps machine cl tape) (ap unless_refused comes)

on_records : (machine : Machine) (text table cl tape : List ℕ) (steps : List Step) (written : List Record) → table_of table ≡ Ok machine → steps_of machine text ≡ Ok (Ok steps)
    → read_of cl ≡ Ok written → judged_due text table cl tape ≡ behind_records machine tape steps written
on_records machine text table cl tape steps written tabled comes read =
    on_steps machine text table cl tape steps tabled comes ∙ chain_on (records_due cl) written (behind_records machine tape steps) (rw read refl)

pub judged_for : (machine : Machine) (text table cl tape : List ℕ) (steps : List Step) (written : List Record) (acts : List ArcAct)
    → AreJudged machine text table cl tape steps written acts → judged_due text table cl tape ≡ Ok (judged_by machine steps written acts)
judged_for machine text table cl tape steps written acts are =
    on_records machine text table cl tape steps written are.tabled are.comes are.read
    ∙ chain_on (acts_due machine tape) acts (λ acts. Ok (judged_by machine steps written acts)) (rw are.run refl)

-- where a text comes to nothing
none_judged : {A : Type 0} (text table cl tape : List ℕ) (due : Result A Status) (more : A → Result Judged Status) (answer : Status) → judged_due text table cl tape ≡ (due >>= more)
    → ComesToNone due answer → OrNoMemory (IsJudgement text table cl tape answer) answer
none_judged text table cl tape due more answer same (inl e) = inl (inl (same ∙ rw e refl))
none_judged text table cl tape due more answer same (inr short) = inr short

pub table_judged : (text table cl tape : List ℕ) (answer : Status) → machine_due table ≡ Err answer → OrNoMemory (IsJudgement text table cl tape answer) answer
table_judged text table cl tape answer e = none_judged text table cl tape (machine_due table) (behind_table text cl tape) answer refl (inl e)

pub part_judged : (machine : Machine) (text table cl tape : List ℕ) (answer : Status) → table_of table ≡ Ok machine → ComesToNone (steps_due machine text) answer
    → OrNoMemory (IsJudgement text table cl tape answer) answer
part_judged machine text table cl tape answer tabled none =
    none_judged text table cl tape (steps_due machine text) (behind_steps machine cl tape) answer (on_table machine text table cl tape tabled) none

pub tape_judged : (machine : Machine) (text table cl tape : List ℕ) (steps : List Step) (written : List Record) (answer : Status) → table_of table ≡ Ok machine
    → steps_of machine text ≡ Ok (Ok steps) → read_of cl ≡ Ok written → ComesToNone (acts_due machine tape) answer → OrNoMemory (IsJudgement text table cl tape answer) answer
tape_judged machine text table cl tape steps written answer tabled comes read none =
    none_judged text table cl tape (acts_due machine tape) (λ acts. Ok (judged_by machine steps written acts)) answer
    (on_records machine text table cl tape steps written tabled comes read) none

-- something is missed
pub missed_judged : (machine : Machine) (text table cl tape : List ℕ) (steps : List Step) (written : List Record) (acts : List ArcAct) (answer : Status)
    → AreJudged machine text table cl tape steps written acts → OrNoMemory (IsMissed machine steps written acts answer) answer → OrNoMemory (IsJudgement text table cl tape answer) answer
missed_judged machine text table cl tape steps written acts answer are (inl missed) =
    inl (inr (judged_by machine steps written acts, judged_for machine text table cl tape steps written acts are, inl missed))
missed_judged machine text table cl tape steps written acts answer are (inr short) = inr short

-- what follows legally is right
good_is_right : (machine : Machine) (text cl tape : List ℕ) (steps : List Step) (written : List Record) (v : Verdict) → Passes machine text steps → read_of cl ≡ Ok written
    → run_on machine tape ≡ Ok (acts_on machine written) → Follows steps written → IsVerdict (jobs_said written) v → v.first_bad ≡ None → IsCertified machine text cl tape v
good_is_right machine text cl tape steps written v passes read run follow verdict none =
    let makes = makes_said steps written follow in
    let right = jobs_right steps written (jobs_said written) makes (all_legal (jobs_said written) v verdict none) in record {
      right = record {
        steps = steps;
        passes = passes;
        records = written;
        read = read;
        acts = run;
        follow = right.0;
        legal = right.1;
        arcs = arcs_belong machine steps written passes.fine right.0 right.1;
        holes = passes_drilled passes written right.0;
      };
      numbers = (legal_in_numbers written).0 right.1;
      verdict = verdict;
      counted = verdict.segments ∙ makes_segments first_situation steps written (jobs_said written) makes;
    }

-- with these steps and records
pub good_with : (machine : Machine) (text cl tape : List ℕ) (steps : List Step) (written : List Record) (v : Verdict) → Passes machine text steps → read_of cl ≡ Ok written
    → run_on machine tape ≡ Ok (acts_on machine written) → Follows steps written → IsVerdict (jobs_said written) v → v.first_bad ≡ None
    → (certified : IsCertified machine text cl tape v) × (steps ≡ certified.right.steps) × (written ≡ certified.right.records)
unfolding good_is_right
good_with machine text cl tape steps written v passes read run follow verdict none = (good_is_right machine text cl tape steps written v passes read run follow verdict none, refl, refl)

-- all is right
pub good_judged : (machine : Machine) (text table cl tape : List ℕ) (steps : List Step) (written : List Record) (acts : List ArcAct) (v : Verdict)
    → AreJudged machine text table cl tape steps written acts → Passes machine text steps → Follows steps written → IsVerdict (jobs_said written) v → v.first_bad ≡ None → acts ≡ acts_on machine written
    → OrNoMemory (IsJudgement text table cl tape (answers.Done (summaries.Certified v))) (answers.Done (summaries.Certified v))
good_judged machine text table cl tape steps written acts v are passes follow verdict none planned =
    inl (inr (
      judged_by machine steps written acts,
      judged_for machine text table cl tape steps written acts are,
      inr (v, refl, good_is_right machine text cl tape steps written v passes are.read (are.run ∙ ap Ok planned) follow verdict none),
    ))

-- ---- the work

pub stopped_certifies : (n : FourNames) (before after : Files) (told : Status) → AreRead before after → IsStopped (inputs n) before after told → Certifies n before after told
stopped_certifies n before after told read stopped = record { comes = inl stopped; read = read }

-- all are read
pub judged_certifies : (n : FourNames) (text table cl tape : List ℕ) (before after : Files) (told : Status) → AreRead before after
    → ReadsAll before.told (inputs n) (text ∷ table ∷ cl ∷ tape ∷ []) → OrNoMemory (IsJudgement text table cl tape told) told → Certifies n before after told
judged_certifies n text table cl tape before after told read reads (inl judgement) = record {
  comes = inr (record { text = text; table = table; cl = cl; tape = tape; reads = reads; judgement = judgement });
  read = read;
}
judged_certifies n text table cl tape before after told read reads (inr short) = stopped_certifies n before after told read (inr (inr short))

-- the part, the table and the CL file are read, and the tape can't be
pub tape_unread : (n : FourNames) (before one two three four : Files) (text table cl : List ℕ) (told : Status) → AreRead before one → Reads before.told (input n.part part_limit) text
    → AreRead one two → Reads one.told (input n.machine machine_limit) table → AreRead two three → Reads two.told (input n.cl file_limit) cl → IsStopped (input n.tape file_limit ∷ []) three four told
    → IsStopped (inputs n) before four told
tape_unread n before one two three four text table cl told a part b machine c file stopped =
    stopped_next before one four (input n.part part_limit) text (input n.machine machine_limit ∷ input n.cl file_limit ∷ input n.tape file_limit ∷ []) told a part
    (stopped_next one two four (input n.machine machine_limit) table (input n.cl file_limit ∷ input n.tape file_limit ∷ []) told b machine
    (stopped_next two three four (input n.cl file_limit) cl (input n.tape file_limit ∷ []) told c file stopped))

-- and all four are read
pub four_read : (n : FourNames) (before one two three : Files) (text table cl tape : List ℕ) → AreRead before one → Reads before.told (input n.part part_limit) text
    → AreRead one two → Reads one.told (input n.machine machine_limit) table → AreRead two three → Reads two.told (input n.cl file_limit) cl → Reads three.told (input n.tape file_limit) tape
    → ReadsAll before.told (inputs n) (text ∷ table ∷ cl ∷ tape ∷ [])
four_read n before one two three text table cl tape a part b machine c file last =
    reads_next before one (input n.part part_limit) text (input n.machine machine_limit ∷ input n.cl file_limit ∷ input n.tape file_limit ∷ []) (table ∷ cl ∷ tape ∷ []) a part
    (reads_next one two (input n.machine machine_limit) table (input n.cl file_limit ∷ input n.tape file_limit ∷ []) (cl ∷ tape ∷ []) b machine
    (reads_next two three (input n.cl file_limit) cl (input n.tape file_limit ∷ []) (tape ∷ []) c file (last, tt)))

-- what comes of a text, either way
pub either_way : {A E : Type 0} (r : Result A E) (P : A → Type 0) (Q : E → Type 0) → IfOk r P → IfErr r Q → MatchResult r P Q
either_way (Ok x) P Q is none = is
either_way (Err e) P Q is none = none
