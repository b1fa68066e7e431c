-- A run of a tape goes on piece by piece.
use Rattle.std.proofs.Common.{◌∙◌, ℕ, List, ◌++◌, Ok, Err, ap, sym, subst}
use Rattle.std.proofs.lemmas.List.{map-append}
use Rattle.apt_words.specs.Answers.{IsFault}
use Rattle.apt_tapecode.specs.declared.Code.{Code}
use Rattle.apt_control.specs.declared.Act.{Act}
use Rattle.apt_control.specs.declared.error.ControlError.{ControlError}
use Rattle.apt_control.specs.declared.held.Held.{Held}
use Rattle.apt_control.specs.Answers.{fault_in}
use Rattle.apt_control.specs.Control.{meaning, nothing_held}
use Rattle.apt_control.specs.Walk.{Walk}
use Rattle.apt_control.specs.Pieces.{StandsBehind}
use Rattle.apt_circular.specs.declared.ArcAct.{ArcAct}
use Rattle.apt_circular.specs.declared.ArcAct.TheVariants.{Plain}
use Rattle.apt_tape.specs.declared.reader.Reader.TheVariants as readers
use Rattle.apt_tape.specs.declared.run.TapeRun.{TapeRun}
use Rattle.apt_circular.specs.Plans.{plainly}
use Rattle.apt_tape.specs.Tapes.{Kind, run_in}
use Rattle.apt_tape.specs.Runs.{kind_of, code_of, Stands, HasRun}

-- plain acts are dropped
pub plain_behind : (dropped : List ArcAct) (r now : Walk Held Act) (front : List ℕ)
    → ((acts : List Act) (front : List ℕ) → StandsBehind meaning nothing_held acts r front → StandsBehind meaning nothing_held (acts ++ r.acts) now front)
    → Stands dropped (readers.Plain r) front → Stands (dropped ++ plainly r.acts) (readers.Plain now) front
plain_behind dropped r now front behind stands =
    (stands.0 ++ r.acts, ap (λ (done : List ArcAct). done ++ plainly r.acts) stands.1 ∙ sym (map-append Plain stands.0 r.acts), behind stands.0 front stands.2)

-- a piece is refused
pub run_refused : {T : Type 0} (has : T → List ArcAct → Type 0) (kind : Kind) (code : Code) (front piece : List ℕ) (run : TapeRun T) (error : ControlError) → HasRun has kind code front (Ok run)
    → ((acts : List ArcAct) (front more : List ℕ) → Stands acts run.reader front → IsFault fault_in (run_in (kind_of run.reader) (code_of run.reader) (front ++ piece ++ more)) error)
    → HasRun has kind code (front ++ piece) (Err error)
run_refused has kind code front piece run error so whole = λ more.
    subst (λ k. IsFault fault_in (run_in k code (front ++ piece ++ more)) error) so.0
    (subst (λ c. IsFault fault_in (run_in (kind_of run.reader) c (front ++ piece ++ more)) error) so.1 (whole so.2.0 front more so.2.2))
