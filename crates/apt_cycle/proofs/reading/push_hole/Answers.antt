use Rattle.std.proofs.Common.{◌∙◌, ◌++◌, List, map, ap}
use Rattle.apt_control.specs.declared.Act.{Act}
use Rattle.apt_circular.specs.declared.ArcAct.{ArcAct}
use Rattle.apt_circular.specs.declared.ArcAct.TheVariants as arcs
use Rattle.apt_cycle.specs.CycleBlocks.{moves_of}
use Rattle.apt_cycle.proofs.Saying.{acts_are}
use Rattle.apt_cycle.proofs.reading.push_hole.Goals as goal

pub returns : goal.returns
returns c = λ more is.
    let plain : List Act → List ArcAct = map arcs.Plain in
    let before = c.args.acts.now.items in
    let units = c.in_ok-push_plain.ensures ∙ ap (λ l. before ++ plain l) (c.unit_act.ensures more is) in
    let first = c.in_ok-push_plain-2.ensures ∙ (λ i. units i ++ plain (c.act_before.ensures more is i)) in
    let moved = c.in_ok-push_moves.ensures more is ∙ ap (λ l. l ++ plain (moves_of c.args.now.now more)) first in
    let last = c.in_ok-push_plain-3.ensures ∙ (λ i. moved i ++ plain (c.act_after.ensures more is i)) in
    last ∙ acts_are before c.args.now.now more
