-- Acts that fit, and whose arcs can go from where the tool stands, are a program.
use Rattle.std.specs.Prelude.{◌≡◌, Bool, false, List, [], ◌∷◌, Option, Some, None}
use Rattle.std.proofs.Common.{refl}
use Rattle.apt_words.specs.declared.Units.{Units}
use Rattle.apt_records.specs.declared.record.Position.{Position}
use Rattle.apt_control.specs.declared.Act.{Act}
use Rattle.apt_control.specs.declared.Act.TheVariants as acts
use Rattle.apt_control.specs.declared.held.Held.{Held}
use Rattle.apt_control.specs.Control.{nothing_held}
use Rattle.apt_post.specs.Blocks.{behind}
use Rattle.apt_circular.specs.declared.ArcAct.{ArcAct}
use Rattle.apt_circular.specs.declared.ArcAct.TheVariants as arcs
use Rattle.apt_circular.specs.Fits.{Fits, FitToTheEnd, IsFitting}
use Rattle.apt_circular.specs.Writable.{position, stands_behind, ArcsCan, HoldsPosition}
use Rattle.apt_circular.specs.ArcTape.{behind_act, ends_it, CanAct, ArcsToTheEnd, IsArcProgram}

act_can : (held : Held) (at : Option Position) (act : ArcAct) (more : List ArcAct) → HoldsPosition at held → ArcsCan at (act ∷ more) → Fits act → CanAct held act
act_can held at (arcs.Plain act) more holds can fits = fits
act_can held None (arcs.Arc turn x y z cx cy feed) more holds can fits = absurd can.0
act_can held (Some at) (arcs.Arc turn x y z cx cy feed) more holds can fits = record { at = at; holds = holds; goes = can.0; fits = fits }

plain_holds : (incremental : Bool) (held : Held) (at : Option Position) (act : Act) → HoldsPosition at held → HoldsPosition (stands_behind at act) (behind incremental held act)
plain_holds incremental held None (acts.Units u) holds = tt
plain_holds incremental held (Some at) (acts.Units u) holds = holds
plain_holds incremental held at (acts.Rapid x y z) holds = (refl, refl, refl)
plain_holds incremental held at (acts.Cut x y z feed) holds = (refl, refl, refl)
plain_holds incremental held at (acts.Do command) holds = holds
plain_holds incremental held at acts.End holds = holds

-- the last of acts to the end is the end, and no other is
last_is : (act : ArcAct) → FitToTheEnd (act ∷ []) → act ≡ arcs.Plain acts.End
last_is (arcs.Plain (acts.Units u)) fit = absurd fit.1
last_is (arcs.Plain (acts.Rapid x y z)) fit = absurd fit.1
last_is (arcs.Plain (acts.Cut x y z feed)) fit = absurd fit.1
last_is (arcs.Plain (acts.Do command)) fit = absurd fit.1
last_is (arcs.Plain acts.End) fit = refl
last_is (arcs.Arc turn x y z cx cy feed) fit = absurd fit.1

first_is : (act next : ArcAct) (more : List ArcAct) → FitToTheEnd (act ∷ next ∷ more) → Fits act × (ends_it act ≡ false) × FitToTheEnd (next ∷ more)
first_is (arcs.Plain (acts.Units u)) next more fit = (fit.0, refl, fit.1)
first_is (arcs.Plain (acts.Rapid x y z)) next more fit = (fit.0, refl, fit.1)
first_is (arcs.Plain (acts.Cut x y z feed)) next more fit = (fit.0, refl, fit.1)
first_is (arcs.Plain (acts.Do command)) next more fit = (fit.0, refl, fit.1)
first_is (arcs.Plain acts.End) next more fit = absurd fit
first_is (arcs.Arc turn x y z cx cy feed) next more fit = (fit.0, refl, fit.1)

acts_can : (incremental : Bool) (held : Held) (at : Option Position) (done : List ArcAct) → HoldsPosition at held → ArcsCan at done → FitToTheEnd done → ArcsToTheEnd incremental held done
acts_can incremental held at [] holds can fit = absurd fit
acts_can incremental held at (act ∷ []) holds can fit = last_is act fit
acts_can incremental held at (arcs.Plain act ∷ next ∷ more) holds can to_end =
    let fit = first_is (arcs.Plain act) next more to_end in (
      act_can held at (arcs.Plain act) (next ∷ more) holds can fit.0,
      fit.1,
      acts_can incremental (behind incremental held act) (stands_behind at act) (next ∷ more) (plain_holds incremental held at act holds) can fit.2,
    )
acts_can incremental held at (arcs.Arc turn x y z cx cy feed ∷ next ∷ more) holds can to_end =
    let fit = first_is (arcs.Arc turn x y z cx cy feed) next more to_end in (
      act_can held at (arcs.Arc turn x y z cx cy feed) (next ∷ more) holds can fit.0,
      fit.1,
      acts_can incremental (behind_act incremental held (arcs.Arc turn x y z cx cy feed)) (Some (position x y z)) (next ∷ more) (refl, refl, refl) can.1 fit.2,
    )

-- from nowhere, behind the units
program_can : (incremental : Bool) (u : Units) (more : List ArcAct) → ArcsCan None (arcs.Plain (acts.Units u) ∷ more) → FitToTheEnd more → IsArcProgram incremental (arcs.Plain (acts.Units u) ∷ more)
program_can incremental u more can fit = record { units = u; more = more; is = refl; to_the_end = acts_can incremental (behind incremental nothing_held (acts.Units u)) None more tt can fit }

pub are_program : (incremental : Bool) (done : List ArcAct) → IsFitting done → ArcsCan None done → IsArcProgram incremental done
are_program incremental [] fit can = absurd fit
are_program incremental (arcs.Plain (acts.Units u) ∷ more) fit can = program_can incremental u more can fit
are_program incremental (arcs.Plain (acts.Rapid x y z) ∷ more) fit can = absurd fit
are_program incremental (arcs.Plain (acts.Cut x y z feed) ∷ more) fit can = absurd fit
are_program incremental (arcs.Plain (acts.Do command) ∷ more) fit can = absurd fit
are_program incremental (arcs.Plain acts.End ∷ more) fit can = absurd fit
are_program incremental (arcs.Arc turn x y z cx cy feed ∷ more) fit can = absurd fit
