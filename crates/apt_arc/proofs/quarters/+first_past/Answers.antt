use Rattle.std.proofs.Common.{◌∙◌, ◌<◌, arith, FitsSigned, w8}
use Rattle.std.proofs.lemmas.Int.{to_z-of_z}
use Rattle.apt_arc.proofs.Quartered.{sense_fits, first_none, first_behind, later}
use Rattle.apt_arc.proofs.quarters.+first_past.Goals as goal
use Rattle.apt_arc.proofs.quarters.+first_past.Goals.{then-left-eq0-via-then-left-eq0, then-left-eq0-via-else-left-eq0+then-is_behind}
use Rattle.std.proofs.Common.{sym}

pub returns-then-left-eq0-clause-value : goal.returns-then-left-eq0-clause-value
returns-then-left-eq0-clause-value t c =
    let sense : FitsSigned w8 c.args.arc.now.sense = sense_fits c.args.arc.now.sense c.requires.arc.sense in
    let value = simp to_z-of_z at c.onward.ensures.value in
    elim c.then-left-eq0.branch [
      | then-left-eq0-via-then-left-eq0 w ↦ value ∙ sym (first_none c.args.left c.args.arc.now.track c.args.arc.now.sense c.args.arc.now.start c.args.u w.if-left-eq0.true)
      | then-left-eq0-via-else-left-eq0+then-is_behind w ↦
          value ∙ sym (first_behind c.args.left c.args.arc.now.track c.args.arc.now.sense c.args.arc.now.start c.args.u (sym w.is_behind.ensures ∙ w.if-is_behind.true))
    ]

pub returns-clause-value : goal.returns-clause-value
returns-clause-value t c =
    let sense : FitsSigned w8 c.args.arc.now.sense = sense_fits c.args.arc.now.sense c.requires.arc.sense in
    let some : 0 < c.args.left = omega arith in
    later c.args.left c.args.arc.now.track c.args.arc.now.sense c.args.arc.now.start c.args.u c.onward-2.result c.first_past.result some (sym c.is_behind.ensures ∙ c.if-is_behind.false)
    (simp to_z-of_z at c.onward-2.ensures.value) c.first_past.ensures.value
