use Rattle.std.proofs.Common.{◌≡◌, ◌∙◌, true, false, cond, sym, ap}
use Rattle.apt_circular.specs.ArcBlocks.{round_fault}
use Rattle.apt_cycle.specs.CycleBlocks.{drills, hole_fault}
use Rattle.apt_cycle.proofs.Saying.{beside_behind}
use Rattle.apt_cycle.proofs.reading.end_fault.Goals as goal

pub returns-then-drills : goal.returns-then-drills
returns-then-drills c = λ h more holds is.
    let now = c.args.now.now in
    let on : drills now.held.motion ≡ true = sym c.drills.ensures ∙ c.if-drills.true in
    c.hole_fault.ensures more is.said (is.given on) ∙ ap (λ t. cond t (hole_fault now more) (round_fault h.held now.held more)) (sym on)

pub returns-else-drills : goal.returns-else-drills
returns-else-drills c = λ h more holds is.
    let now = c.args.now.now in
    let off : drills now.held.motion ≡ false = sym c.drills.ensures ∙ c.if-drills.false in
    c.round_fault.ensures _ _ (is.instruction off)
    ∙ ap (λ n. round_fault h.held n more) (sym (beside_behind h now more holds off))
    ∙ ap (λ t. cond t (hole_fault now more) (round_fault h.held now.held more)) (sym off)
