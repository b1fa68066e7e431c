use Rattle.std.proofs.Common.{◌∙◌, ◌++◌, List, map, ap}
use Rattle.apt_control.specs.declared.Act.{Act}
use Rattle.apt_control.specs.Control.{with_said}
use Rattle.apt_circular.specs.declared.ArcAct.{ArcAct}
use Rattle.apt_circular.specs.declared.ArcAct.TheVariants as arcs
use Rattle.apt_circular.specs.Instructions.{motion_acts}
use Rattle.apt_circular.proofs.Instructions.{acts_are}
use Rattle.apt_circular.proofs.reading.push_acts.Goals as goal

pub returns : goal.returns
returns c = λ held more is.
    let plain : List Act → List ArcAct = map arcs.Plain in
    let before = c.args.acts.now.items in
    let units = c.in_ok-push_plain.ensures ∙ ap (λ l. before ++ plain l) (c.unit_act.ensures more is.said) in
    let first = c.in_ok-push_plain-2.ensures ∙ (λ i. units i ++ plain (c.act_before.ensures more is.said i)) in
    let moved = c.in_ok-push_motion.ensures held more is ∙ ap (λ l. l ++ motion_acts held (with_said held more) more) first in
    let last = c.in_ok-push_plain-3.ensures ∙ (λ i. moved i ++ plain (c.act_after.ensures more is.said i)) in
    last ∙ acts_are before held (with_said held more) more
