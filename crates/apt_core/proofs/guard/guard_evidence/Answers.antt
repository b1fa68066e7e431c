use Rattle.std.proofs.Common.{Some, None, arith}
use Rattle.apt_core.proofs.Guarding.{as_many, found_said, good_watched}
use Rattle.apt_core.proofs.guard.guard_evidence.Goals as goal

pub returns-in-Some : goal.returns-in-Some
returns-in-Some g c = λ table cl tape is.
    let machine = c.in_ok-machine.machine in
    let steps = c.in_ok-steps.steps.items in
    let written = c.in_ok-records.records.items in
    let parts = c.in_ok-parts.parts.items in
    let comes = c.in_ok-steps.ensures in
    let contours = c.in_ok-contours.ensures in
    let follows = rw c.deref-3.ensures.value at contours.follows in
    let legs = rw c.deref-2.ensures.value at c.in_ok-reaches.ensures.legs steps in
    let run = rw (c.in_ok-machine.was, c.in_ok-records.was, c.in_ok-difference.was) at is.difference in
    (good_watched machine c.args.evidence.text.items table cl tape c.args.text.now steps written run.0 parts c.in_ok-contours.contours.verdict (Some c.in-Some.gouge)
    (record { tabled = rw c.in_ok-machine.was at is.machine; comes = comes.comes; read = rw c.in_ok-records.was at is.records; run = run.2 })
    (rw c.deref.ensures.value at c.in_ok-parts.ensures.names) comes.passes follows contours.verdict contours.legal (contours.planned run.0 run.1)
    (found_said parts written c.in_ok-contours.contours.jobs.items c.in_ok-reaches.reaches.items (Some c.in-Some.gouge) contours.said (legs follows)
    (rw (c.deref-4.ensures.value, c.deref-5.ensures.value, c.deref-6.ensures.value) at c.in-Some.ensures.found)))

pub returns : goal.returns
returns g c = λ table cl tape is.
    let machine = c.in_ok-machine.machine in
    let steps = c.in_ok-steps.steps.items in
    let written = c.in_ok-records.records.items in
    let parts = c.in_ok-parts.parts.items in
    let comes = c.in_ok-steps.ensures in
    let contours = c.in_ok-contours.ensures in
    let follows = rw c.deref-3.ensures.value at contours.follows in
    let legs = rw c.deref-2.ensures.value at c.in_ok-reaches.ensures.legs steps in
    let run = rw (c.in_ok-machine.was, c.in_ok-records.was, c.in_ok-difference.was) at is.difference in
    as_many c.args.evidence.text.items table cl tape c.args.text.now c.in_ok-contours.contours.verdict.segments c.len.result c.in_ok-parts.parts.items (omega (arith, c.len.ensures, c.in_ok-parts.parts.ok))
    (good_watched machine c.args.evidence.text.items table cl tape c.args.text.now steps written run.0 parts c.in_ok-contours.contours.verdict None
    (record { tabled = rw c.in_ok-machine.was at is.machine; comes = comes.comes; read = rw c.in_ok-records.was at is.records; run = run.2 })
    (rw c.deref.ensures.value at c.in_ok-parts.ensures.names) comes.passes follows contours.verdict contours.legal (contours.planned run.0 run.1)
    (found_said parts written c.in_ok-contours.contours.jobs.items c.in_ok-reaches.reaches.items None contours.said (legs follows)
    (rw (c.deref-4.ensures.value, c.deref-5.ensures.value, c.deref-6.ensures.value) at c.in-None.ensures.found)))
