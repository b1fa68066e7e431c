use Rattle.std.proofs.Common.{◌≡◌, ◌∙◌, sym, false}
use Rattle.apt_canon.specs.Meeting.{are_parallel, line_line}
use Rattle.apt_stop.specs.Courses.{stop_side}
use Rattle.apt_stop.specs.Choices.{is_past}
use Rattle.apt_stop.proofs.Sided.{side_is, past_is}
use Rattle.apt_stop.proofs.OnMovedLines.{straight_ok, straight_err, straight_behind}
use Rattle.apt_stop.proofs.decisions.straight.Goals as goal
use Rattle.apt_stop.proofs.decisions.straight.Goals.{After-far_side-far, After-is_past, After-line_line}

apart : (c : After-far_side-far) → are_parallel c.args.track.now.line c.args.stop.now.line ≡ false
apart c = sym c.are_parallel.ensures ∙ c.if-are_parallel.false

past : (c : After-is_past) → is_past c.args.c.now c.args.c.now.track c.args.c.now.stop ≡ c.is_past.result
past c =
    let k = c.args.c.now in
    sym ((rw c.far_side-far.ensures at c.is_past.ensures) ∙ past_is k k.track k.stop)

met : (c : After-line_line) → line_line c.args.track.now.line c.args.track.now.off c.args.stop.now.line c.args.stop.now.off ≡ c.line_line.result
met c = sym c.line_line.ensures.value

pub returns-then-is_past : goal.returns-then-is_past
returns-then-is_past c =
    let at = goal.at.returns-then-is_past c in
    straight_behind c.args.c.now c.args.track.now c.args.stop.now (apart at.After-far_side-far) (past at.After-is_past ∙ c.if-is_past.true)

pub returns-in-Ok : goal.returns-in-Ok
returns-in-Ok c =
    let at = goal.at.returns-in-Ok c in
    let side : c.side_from.result ≡ stop_side c.args.c.now = (rw c.far_side-far.ensures at c.side_from.ensures) ∙ side_is c.args.c.now in
    straight_ok c.args.c.now c.args.track.now c.args.stop.now c.side_from.result c.in-Ok.end (apart at.After-far_side-far) (past at.After-is_past ∙ c.if-is_past.false) side
    (met at.After-line_line ∙ c.in-Ok.is)

pub returns-in-Err : goal.returns-in-Err
returns-in-Err c =
    let at = goal.at.returns-in-Err c in
    straight_err c.args.c.now c.args.track.now c.args.stop.now c.in-Err.field-0 (apart at.After-far_side-far) (past at.After-is_past ∙ c.if-is_past.false)
    (met at.After-line_line ∙ c.in-Err.is)
