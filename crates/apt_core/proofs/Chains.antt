-- What is due, along a chain, and for a text that comes to none.
use Rattle.std.proofs.Common.{◌≡◌, inl, inr, ℕ, List, Result, Ok, Err, sym, ◌∙◌, refl}
use Rattle.apt_words.specs.Chains.{◌>>=◌}
use Rattle.apt_words.specs.declared.Refusal.{Refusal}
use Rattle.apt_parse.specs.Programs.{TextFault}
use Rattle.apt_cldata.specs.declared.error.ClError.{ClError}
use Rattle.apt_cldata.specs.declared.error.ClError.TheVariants as cl_errors
use Rattle.apt_cldata.specs.Reading as reading
use Rattle.apt_words.specs.Answers.{IsFault}
use Rattle.apt_control.specs.declared.error.ControlError.{ControlError}
use Rattle.apt_control.specs.declared.error.ControlError.TheVariants as tape_errors
use Rattle.apt_control.specs.Answers.{fault_in}
use Rattle.apt_machine.specs.declared.machine.Machine.{Machine}
use Rattle.apt_tape.specs.Tapes.{run_on}
use Rattle.apt_words.specs.declared.deed.Step.{Step}
use Rattle.apt_outline.specs.declared.cause.OutlineError.{OutlineError}
use Rattle.apt_outline.specs.declared.cause.OutlineError.TheVariants as outline_errors
use Rattle.apt_outline.specs.Holding.{figures_at_end}
use Rattle.apt_outline.specs.Outlines as outlines
use Rattle.apt_part.specs.Answering.{IsPart}
use Rattle.apt_part.specs.declared.part.PartError.{PartError}
use Rattle.apt_part.specs.declared.part.PartError.TheVariants as part_errors
use Rattle.apt_report.specs.declared.status.Status.{Status}
use Rattle.apt_core.specs.Due.{ComesToNone, part_told, unless_refused, records_due, acts_due, cl_told, tape_told, outline_told}
use Rattle.apt_core.specs.Guarding.{outline_due}

-- what is due and was not given is told
pub none_told : {A : Type 0} (due : Result (Result A Refusal) TextFault) (error : PartError) → IsPart due (Err error) → ComesToNone (unless_refused due) (part_told error)
none_told due (part_errors.Bad line cause) is = inl (rw is refl)
none_told due (part_errors.Refused r) is = inl (rw is refl)
none_told due part_errors.NoMemory is = inr refl

pub bad_cl_told : (cl : List ℕ) (error : ClError) → IsFault reading.fault_in (reading.read_of cl) error → ComesToNone (records_due cl) (cl_told error)
bad_cl_told cl (cl_errors.Bad at cause) e = inl (rw e refl)
bad_cl_told cl cl_errors.NoMemory e = inr refl

pub bad_tape_told : (machine : Machine) (tape : List ℕ) (error : ControlError) → IsFault fault_in (run_on machine tape) error → ComesToNone (acts_due machine tape) (tape_told error)
bad_tape_told machine tape (tape_errors.Bad at cause) e = inl (rw e refl)
bad_tape_told machine tape tape_errors.NoMemory e = inr refl

pub bad_outline_told : (steps : List Step) (text : List ℕ) (error : OutlineError) → IsFault outlines.fault_in (outlines.outline_of (figures_at_end steps) text) error
    → ComesToNone (outline_due steps text) (outline_told error)
bad_outline_told steps text (outline_errors.Bad line cause) e = inl (rw e refl)
bad_outline_told steps text outline_errors.NoMemory e = inr refl

-- ---- along a chain

pub one_due : {A : Type 0} (due : Result A Status) (a b : A) → due ≡ Ok a → due ≡ Ok b → a ≡ b
one_due due a b e f = let same = sym e ∙ f in cc

pub chain_on : {A B : Type 0} (due : Result A Status) (x : A) (more : A → Result B Status) → due ≡ Ok x → (due >>= more) ≡ more x
chain_on due x more e = rw e refl

-- the first that comes to none stands
pub none_first : {A B : Type 0} (due : Result A Status) (more : A → Result B Status) (answer : Status) → ComesToNone due answer → ComesToNone (due >>= more) answer
none_first due more answer (inl e) = inl (rw e refl)
none_first due more answer (inr short) = inr short

pub none_behind : {A B : Type 0} (due : Result A Status) (x : A) (more : A → Result B Status) (answer : Status) → due ≡ Ok x → ComesToNone (more x) answer
    → ComesToNone (due >>= more) answer
none_behind due x more answer e (inl is) = inl (chain_on due x more e ∙ is)
none_behind due x more answer e (inr short) = inr short
