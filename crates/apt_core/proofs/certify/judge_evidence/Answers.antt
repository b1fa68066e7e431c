use Rattle.apt_core.proofs.Judging.{good_judged}
use Rattle.apt_core.proofs.certify.judge_evidence.Goals as goal

pub returns : goal.returns
returns g c = λ table cl tape is.
    let machine = c.in_ok-machine.machine in
    let steps = c.in_ok-steps.ensures in
    let verdict = c.in_ok-contours.ensures in
    let tabled = rw c.in_ok-machine.was at is.machine in
    let of_cl = rw c.in_ok-records.was at is.records in
    let run = rw (c.in_ok-machine.was, c.in_ok-records.was, c.in_ok-difference.was) at is.difference in
    good_judged machine c.args.evidence.text.items table cl tape c.in_ok-steps.steps.items c.in_ok-records.records.items run.0 c.in_ok-contours.contours.verdict (record { tabled = tabled; comes = steps.comes; read = of_cl; run = run.2 })
    steps.passes (rw c.deref.ensures.value at verdict.follows) verdict.verdict verdict.legal (verdict.planned run.0 run.1)
