-- The arcs among the acts that legal records ask for on a machine are those of their contours.
use Rattle.std.proofs.Common.{◌≡◌, Bool, true, false, List, [], ◌∷◌, Option, None, refl, subst}
use Rattle.apt_words.specs.declared.deed.Step.{Step}
use Rattle.apt_records.specs.declared.record.Position.{Position}
use Rattle.apt_records.specs.declared.record.Record.{Record}
use Rattle.apt_control.specs.declared.Act.{Act}
use Rattle.apt_machine.specs.declared.machine.Machine.{Machine}
use Rattle.apt_meaning.specs.Compiled.{first_refused}
use Rattle.apt_meaning.specs.Paths.{Contour, contours_of, IsLegalCut, EveryContour}
use Rattle.apt_meaning.specs.Records.{Follows}
use Rattle.apt_meaning.specs.Situations.{first_situation}
use Rattle.apt_post.specs.Said.{acts_of}
use Rattle.apt_circular.specs.declared.ArcAct.{ArcAct}
use Rattle.apt_circular.specs.ArcPlan.{plan_arcs}
use Rattle.apt_circular.specs.Writable.{stands_behind}
use Rattle.apt_circular.proofs.ArcsSaid.{arcs_said}
use Rattle.apt_circular.specs.Plans.{plainly}
use Rattle.apt_tape.specs.Tapes.{acts_on}
use Rattle.apt_sweeps.specs.ArcSweeps.{sweeps_behind, sweeps_of, AreArcsOf}
use Rattle.apt_sweeps.proofs.Belonging.{plan_sweeps}

-- plain acts have no arc
no_arcs : (at : Option Position) (done : List Act) (cs : List Contour) → AreArcsOf (sweeps_behind at (plainly done)) cs
no_arcs at [] cs = tt
no_arcs at (act ∷ more) cs = no_arcs (stands_behind at act) more cs

by_circles : (machine : Machine) (written : List Record) (circles : Bool) → machine.circles ≡ circles → AreArcsOf (sweeps_of (plan_arcs written)) (contours_of written)
    → AreArcsOf (sweeps_of (acts_on machine written)) (contours_of written)
by_circles machine written true e are =
    let asked : plan_arcs written ≡ acts_on machine written = rw e (arcs_said written) in
    subst (λ (done : List ArcAct). AreArcsOf (sweeps_of done) (contours_of written)) asked are
by_circles machine written false e are =
    let asked : plainly (acts_of written) ≡ acts_on machine written = rw e refl in
    subst (λ (done : List ArcAct). AreArcsOf (sweeps_of done) (contours_of written)) asked (no_arcs None (acts_of written) (contours_of written))

pub arcs_belong : (machine : Machine) (steps : List Step) (written : List Record) → first_refused first_situation steps ≡ None → Follows steps written → EveryContour IsLegalCut (contours_of written)
    → AreArcsOf (sweeps_of (acts_on machine written)) (contours_of written)
arcs_belong machine steps written fine follows legal = by_circles machine written machine.circles refl (plan_sweeps steps written fine follows legal)
