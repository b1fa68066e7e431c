use Rattle.std.proofs.Common.{◌≡◌, ◌∙◌, ◌++◌, true, false, List, OnOk, cond, sym, ap, subst}
use Rattle.apt_circular.specs.declared.ArcAct.{ArcAct}
use Rattle.apt_circular.specs.ArcBlocks.{round_acts}
use Rattle.apt_cycle.specs.CycleBlocks.{drills, hole_acts}
use Rattle.apt_cycle.proofs.Saying.{beside_behind}
use Rattle.apt_cycle.proofs.reading.push_block.Goals as goal

pub returns-then-drills : goal.returns-then-drills
returns-then-drills c = λ h more holds is.
    let now = c.args.now.now in
    let on : drills now.held.motion ≡ true = sym c.drills.ensures ∙ c.if-drills.true in
    subst (λ (own : List ArcAct). OnOk c.push_hole.result (c.push_hole.new.acts.items ≡ c.args.acts.now.items ++ own)) (ap (λ t. cond t (hole_acts now more) (round_acts h.held now.held more)) (sym on))
    (c.push_hole.ensures more is.said)

pub returns-else-drills : goal.returns-else-drills
returns-else-drills c = λ h more holds is.
    let now = c.args.now.now in
    let off : drills now.held.motion ≡ false = sym c.drills.ensures ∙ c.if-drills.false in
    subst (λ (own : List ArcAct). OnOk c.push_acts.result (c.push_acts.new.acts.items ≡ c.args.acts.now.items ++ own))
    (ap (λ n. round_acts h.held n more) (sym (beside_behind h now more holds off)) ∙ ap (λ t. cond t (hole_acts now more) (round_acts h.held now.held more)) (sym off))
    (c.push_acts.ensures _ _ (is.instruction off))
