use Rattle.std.proofs.Common.{refl, ◌≡◌, ◌∙◌, true}
use Rattle.apt_stop.specs.Courses.{is_tanto}
use Rattle.apt_stop.proofs.Placed.{placed}
use Rattle.apt_stop.proofs.Decided.{touch_is}
use Rattle.apt_stop.proofs.decisions.decide_value.Goals as goal

pub meeting-requires : goal.meeting-requires
meeting-requires c = placed c.args.c.now c.requires

pub returns-in-Tanto : goal.returns-in-Tanto
returns-in-Tanto c =
    let touches : is_tanto c.args.c.now.how ≡ true = rw c.in-Tanto.is refl in
    c.touching.ensures ∙ touch_is c.args.c.now touches
