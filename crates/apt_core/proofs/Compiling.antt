-- From the parts of the work to what a compile tells and leaves.
use Rattle.std.proofs.Common.{inl, inr, ℕ, ◌≤◌, List, [], ◌∷◌, Option, Some, None, Ok, ap, sym, ◌∙◌, refl, subst, arith}
use Rattle.std.specs.Prelude.{◌≢◌}
use Rattle.std.specs.FinMap.{insert}
use Rattle.apt_shelf.specs.Told.{Contents, Steps}
use Rattle.apt_shelf.proofs.ToldLaws.{get_inserted}
use Rattle.apt_shelf.proofs.EntriesLaws.{get_other}
use Rattle.apt_report.specs.declared.status.Status.{Status}
use Rattle.apt_report.specs.declared.status.Status.TheVariants as answers
use Rattle.apt_core.specs.Words.{FourNames}
use Rattle.apt_core.specs.Due.{ComesToNone}
use Rattle.apt_core.specs.Inputs.{Files, AreRead, part_inputs, ReadsAll, IsShort, IsStopped}
use Rattle.apt_core.specs.Outputs.{Output, output_due, IsOutput}
use Rattle.apt_core.specs.Delivery.{with_output, WritesFront}
use Rattle.apt_core.specs.Promise.{IsCompiled, Leaves, Delivers, Compiles}
use Rattle.apt_core.proofs.Outputs.{due_for}

-- nothing is written
pub stopped_compiles : (n : FourNames) (before after : Files) (told : Status) → AreRead before after → IsStopped (part_inputs n) before after told → Compiles n before after told
stopped_compiles n before after told read stopped = record { comes = inl (stopped, read); reads_later = read.later; writes_later = rw read.unfailed (omega arith) }

pub none_compiles : (n : FourNames) (text table : List ℕ) (before after : Files) (told : Status) → AreRead before after → ReadsAll before.told (part_inputs n) (text ∷ table ∷ [])
    → ComesToNone (output_due text table) told → Compiles n before after told
none_compiles n text table before after told read reads (inl due) = record {
  comes = inr (text, table, reads, inl (due, read));
  reads_later = read.later;
  writes_later = rw read.unfailed (omega arith);
}
none_compiles n text table before after told read reads (inr short) = stopped_compiles n before after told read (inr (inr short))

-- ---- the writing

-- the counts before and after the writing
pub record AreWritten (before after : Files) : Type 0 where
  pub reads_later : before.read_faults ≤ after.read_faults
  pub writes_later : before.write_faults ≤ after.write_faults

writes : (n : FourNames) (text table : List ℕ) (before after : Files) (o : Output) (told : Status) → AreWritten before after → ReadsAll before.told (part_inputs n) (text ∷ table ∷ [])
    → IsOutput text table o → Delivers n text table o before after told → Compiles n before after told
writes n text table before after o told counts reads is delivers = record {
  comes = inr (text, table, reads, inr (o, due_for is.machine text table is.part is.tabled is.comes ∙ ap Ok (sym is.exact), delivers));
  reads_later = counts.reads_later;
  writes_later = counts.writes_later;
}

is_compiled : (n : FourNames) (text table : List ℕ) (m : Contents) (o : Output) → n.cl ≢ n.tape → IsOutput text table o → IsCompiled n text table o m (with_output n.cl n.tape o m)
is_compiled n text table m o apart is = record {
  output = is;
  written = refl;
  cl_holds = get_other (insert m n.cl o.cl) n.tape n.cl o.tape apart ∙ get_inserted m n.cl o.cl;
  tape_holds = get_inserted (insert m n.cl o.cl) n.tape o.tape;
}

leaves_whole : (n : FourNames) (text table : List ℕ) (before after : Option Contents) (o : Output) → n.cl ≢ n.tape → IsOutput text table o
    → Steps (with_output n.cl n.tape o) before after → Leaves n text table o before after
leaves_whole n text table None after o apart is steps = tt
leaves_whole n text table (Some m) after o apart is steps = rw steps (is_compiled n text table m o apart is)

-- both files are written whole
pub whole_compiles : (n : FourNames) (text table : List ℕ) (before middle after : Files) (o : Output) → n.cl ≢ n.tape → AreRead before middle → AreWritten before after
    → ReadsAll before.told (part_inputs n) (text ∷ table ∷ []) → IsOutput text table o → Steps (with_output n.cl n.tape o) middle.told after.told
    → Compiles n before after (answers.Done o.summary)
whole_compiles n text table before middle after o apart read counts reads is steps =
    writes n text table before after o (answers.Done o.summary) counts reads is
    (inl (refl, leaves_whole n text table before.told after.told o apart is (subst (λ t. Steps (with_output n.cl n.tape o) t after.told) read.files steps)))

-- they are cut short
pub cut_compiles : (n : FourNames) (text table : List ℕ) (before middle after : Files) (o : Output) (told : Status) → AreRead before middle → AreWritten before after
    → ReadsAll before.told (part_inputs n) (text ∷ table ∷ []) → IsOutput text table o → WritesFront n.cl n.tape o middle.told after.told
    → IsShort answers.WriteFault middle.write_faults after.write_faults told → Compiles n before after told
cut_compiles n text table before middle after o told read counts reads is front short =
    writes n text table before after o told counts reads is
    (inr (subst (λ k. IsShort answers.WriteFault k after.write_faults told) read.unfailed short, subst (λ t. WritesFront n.cl n.tape o t after.told) read.files front))
