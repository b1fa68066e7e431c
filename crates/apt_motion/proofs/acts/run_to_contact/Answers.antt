use Rattle.std.proofs.Common.{◌∙◌, ap}
use Rattle.apt_meaning.specs.Records.{cut_at}
use Rattle.apt_motion.proofs.Cuts.{cut_done, cut_refused}
use Rattle.apt_motion.proofs.acts.run_to_contact.Goals as goal

pub returns-in_ok-contour-in-Ok : goal.returns-in_ok-contour-in-Ok
returns-in_ok-contour-in-Ok g c =
    let here = c.args.here.now in
    let cut = c.args.cut.now in
    cut_done g.P.Pen.takes here c.cut_to.new.self c.args.step.now c.args.pen.now c.contour.new.self cut c.in-Ok.ends c.requires.asks c.in-Ok.ensures.value
    c.in_ok-contour-in-Ok.ensures (c.cut_to.ensures.after ∙ ap (cut_at here cut.motion) c.last.ensures)

pub returns-in-Err : goal.returns-in-Err
returns-in-Err g c =
    rw c.refusal.ensures
    (cut_refused g.P.Pen.takes c.args.here.now c.args.step.now c.args.pen.now c.args.cut.now c.in-Err.case c.requires.asks c.in-Err.ensures.value)
