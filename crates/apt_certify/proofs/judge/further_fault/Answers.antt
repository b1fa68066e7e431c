use Rattle.std.proofs.Common.{◌+◌, ◌∷◌, length, pos, arith}
use Rattle.std.proofs.lemmas.List.{drop_more, drop_all}
use Rattle.apt_certify.specs.Tests.{tests_from}
use Rattle.apt_certify.proofs.Passing.{first_passed, one_passed, fault_at_segment, fault_at_end, all_passed, first_is}
use Rattle.apt_certify.proofs.Testing.{tests_legal}
use Rattle.apt_certify.proofs.judge.further_fault.Goals as goal

pub vertices-init : goal.vertices-init
vertices-init c =
    let a = c.args in
    first_passed a.in_band a.leg.now a.start a.first a.vertices.now c.requires.hold c.requires.first c.requires.vertices c.requires.known

pub vertices-preserved : goal.vertices-preserved
vertices-preserved c =
    let a = c.args in
    let path = a.first ∷ a.vertices.now in
    let passed = rw (drop_more a.vertices.now c.vertices.i (record { x = pos 0; y = pos 0 }) c.vertices-test.true) at c.vertices.invariant in
    one_passed a.in_band a.leg.now a.start path c.vertices.at _ _ (c.vertices.i + 1) c.in_default.ensures passed

pub returns-in-Some : goal.returns-in-Some
returns-in-Some c =
    let a = c.args in
    let path = a.first ∷ a.vertices.now in
    let f = c.in-Some.fault in
    let passed = rw (drop_more a.vertices.now c.vertices.i (record { x = pos 0; y = pos 0 }) c.vertices-test.true) at c.vertices.invariant in
    first_is a.leg.now a.start (tests_from a.start path) c.first_motion.result (c.vertices.i + 2) f.reason f.spot c.first_motion.ensures
    (fault_at_segment a.in_band a.leg.now a.start path c.vertices.at _ _ (c.vertices.i + 1) (c.vertices.i + 2) f.reason f.spot (omega arith) c.in-Some.ensures passed)

pub returns-in-Some-end_fault : goal.returns-in-Some-end_fault
returns-in-Some-end_fault c =
    let a = c.args in
    let path = a.first ∷ a.vertices.now in
    let f = c.in-Some-end_fault.fault in
    let passed = rw (drop_all c.vertices.i a.vertices.now c.vertices-test.false) at c.vertices.invariant in
    first_is a.leg.now a.start (tests_from a.start path) c.first_motion-in-Some-end_fault.result (length a.vertices.now + 1) f.reason f.spot c.first_motion-in-Some-end_fault.ensures
    (fault_at_end a.in_band a.leg.now a.start path c.vertices.at (c.vertices.i + 1) (length a.vertices.now + 1) f.reason f.spot (omega arith) (c.in-Some-end_fault.ensures a.start) passed)

pub returns-in-None : goal.returns-in-None
returns-in-None c =
    let a = c.args in
    let path = a.first ∷ a.vertices.now in
    let passed = rw (drop_all c.vertices.i a.vertices.now c.vertices-test.false) at c.vertices.invariant in
    tests_legal a.leg.now a.start path (omega arith) (all_passed a.in_band a.leg.now a.start path c.vertices.at (c.vertices.i + 1) (c.in-None.ensures a.start) passed)

pub onward_fault-requires-clause-known : goal.onward_fault-requires-clause-known
onward_fault-requires-clause-known c =
    let passed = rw (drop_more c.args.vertices.now c.vertices.i (record { x = pos 0; y = pos 0 }) c.vertices-test.true) at c.vertices.invariant in
    λ yes. (passed.known yes).0
