-- From a run whose answer is Done to what a compiled part leaves.
use Rattle.std.proofs.Common.{◌≡◌, inl, inr, ℕ, List, [], ◌∷◌, Option, Some, Err, ap, sym, ◌∙◌, subst}
use Rattle.std.specs.Prelude.{◌≢◌}
use Rattle.apt_shelf.specs.Told.{Contents}
use Rattle.apt_report.specs.declared.status.Status.{Status}
use Rattle.apt_report.specs.declared.status.Status.TheVariants as answers
use Rattle.apt_report.specs.declared.status.Summary.{Summary}
use Rattle.apt_core.specs.Words.{FourNames, Work, Compile}
use Rattle.apt_core.specs.Inputs.{Input, Files, part_inputs, ReadsAll, IsUnread, IsFirstUnread, IsShort, IsStopped}
use Rattle.apt_core.specs.Outputs.{Output}
use Rattle.apt_core.specs.Decoding.{Said}
use Rattle.apt_core.specs.Promise.{Lines, Outside, IsCompiled, Leaves, Writes, Compiles, Works, IsPut, IsRun}
use Rattle.apt_core.proofs.Usage.{TellsNoFault, output_never}
use Rattle.apt_calling.specs.Calling.{HasCompiled}

-- ---- answers that are not Done

done_tells_none : (s : Summary) → TellsNoFault (answers.Done s)
done_tells_none s = record { table = λ fault e. let f : ⊥ = cc in f; text = λ fault e. let f : ⊥ = cc in f; step = λ r e. let f : ⊥ = cc in f }

short_not_done : (fault : Status) (before now : ℕ) (answer : Status) (s : Summary) → fault ≢ answers.Done s → IsShort fault before now answer → answer ≢ answers.Done s
short_not_done fault before now answer s none (inl failed) e = none (sym failed.0 ∙ e)
short_not_done fault before now answer s none (inr short) e = let f : answers.NoMemory ≡ answers.Done s = sym short ∙ e in let g : ⊥ = cc in g

unread_not_done : (told : Option Contents) (x : Input) (before now : ℕ) (answer : Status) (s : Summary) → IsUnread told x before now answer → answer ≢ answers.Done s
unread_not_done told x before now answer s (inl missing) e = let f : answers.Missing x.name ≡ answers.Done s = sym missing.0 ∙ e in let g : ⊥ = cc in g
unread_not_done told x before now answer s (inr long) e = let f : answers.TooLong x.name ≡ answers.Done s = sym long.0 ∙ e in let g : ⊥ = cc in g

first_not_done : (told : Option Contents) (xs : List Input) (before now : ℕ) (answer : Status) (s : Summary) → IsFirstUnread told xs before now answer → answer ≢ answers.Done s
first_not_done told [] before now answer s is e = is
first_not_done told (x ∷ xs) before now answer s (inl unread) e = unread_not_done told x before now answer s unread e
first_not_done told (x ∷ xs) before now answer s (inr later) e = first_not_done told xs before now answer s later.2 e

stopped_not_done : (xs : List Input) (before after : Files) (answer : Status) (s : Summary) → IsStopped xs before after answer → answer ≢ answers.Done s
stopped_not_done xs before after answer s (inl first) = first_not_done before.told xs before.read_faults after.read_faults answer s first
stopped_not_done xs before after answer s (inr short) = short_not_done answers.ReadFault before.read_faults after.read_faults answer s (λ e. let f : ⊥ = cc in f) short

-- ---- the work

leaves_compiled : (n : FourNames) (text table : List ℕ) (o : Output) (before after : Option Contents) (m later : Contents) → before ≡ Some m → after ≡ Some later
    → Leaves n text table o before after → IsCompiled n text table o m later
leaves_compiled n text table o before after m later held holds is =
    subst (λ t. Leaves n text table o (Some m) t) holds (subst (λ t. Leaves n text table o t after) held is)

writes_compiled : (n : FourNames) (text table : List ℕ) (before after : Files) (m later : Contents) (s : Summary) (told : Status) → told ≡ answers.Done s
    → before.told ≡ Some m → after.told ≡ Some later → Writes n text table before after told → (o : Output) × IsCompiled n text table o m later
writes_compiled n text table before after m later s told done held holds (inl due) =
    absurd (output_never (answers.Done s) text table (done_tells_none s) (due.0 ∙ ap Err done))
writes_compiled n text table before after m later s told done held holds (inr written) = elim written.2 [
  | inl whole ↦ (written.0, leaves_compiled n text table written.0 before.told after.told m later held holds whole.1)
  | inr cut ↦ absurd (short_not_done answers.WriteFault before.write_faults after.write_faults told s (λ e. let f : ⊥ = cc in f) cut.0 done)
]

has_compiled : (n : FourNames) (text table : List ℕ) (m later : Contents) → ReadsAll (Some m) (part_inputs n) (text ∷ table ∷ [])
    → ((o : Output) × IsCompiled n text table o m later) → HasCompiled n m later
has_compiled n text table m later reads is = record { text = text; table = table; reads = reads; output = is.0; compiled = is.1 }

compiles_done : (n : FourNames) (before after : Files) (m later : Contents) (s : Summary) (told : Status) → told ≡ answers.Done s → before.told ≡ Some m → after.told ≡ Some later
    → Compiles n before after told → HasCompiled n m later
compiles_done n before after m later s told done held holds works = elim works.comes [
  | inl stopped ↦ absurd (stopped_not_done (part_inputs n) before after told s stopped.0 done)
  | inr read ↦ has_compiled n read.0 read.1 m later (subst (λ t. ReadsAll t (part_inputs n) (read.0 ∷ read.1 ∷ [])) held read.2)
      (writes_compiled n read.0 read.1 before after m later s told done held holds read.3)
]

-- ---- the run

-- a text that was put whole has the answer of the work
said_done : (said : Said) (answer : Status) (s : Summary) (before after : Lines) → IsPut said before after answer → answer ≡ answers.Done s → said.answer ≡ answers.Done s
said_done said answer s before after puts done = elim puts.shows [
  | inl whole ↦ sym whole.0 ∙ done
  | inr front ↦ absurd (short_not_done answers.WriteFault before.put_faults after.put_faults answer s (λ e. let f : ⊥ = cc in f) front.0 done)
]

pub done_has_compiled : (n : FourNames) (work : Option Work) (m later : Contents) (before after : Outside) (s : Summary) (answer : Status) → IsRun work before after answer
    → work ≡ Some (Compile n) → answer ≡ answers.Done s → before.files.told ≡ Some m → after.files.told ≡ Some later → HasCompiled n m later
done_has_compiled n work m later before after s answer run asks done held holds =
    let works = subst (λ a. Works a before.files after.files run.said) asks run.works in
    compiles_done n before.files after.files m later s run.said.answer (said_done run.said answer s before.lines after.lines run.puts done) held holds works.1
