use Rattle.std.proofs.Common.{arith, pos, negsuc, FitsSigned, w64}
use Rattle.std.proofs.lemmas.Int.{ints, to_z-of_z}
use Rattle.apt_certify.proofs.Past.{onward_line, onward_outside, onward_inside, inside_from, inside_to}
use Rattle.apt_certify.proofs.deviations.onwards.Goals as goal

pub past_between-requires-clause-from : goal.past_between-requires-clause-from
past_between-requires-clause-from c =
    let a = c.args in
    let track = rw c.in-Circ.is at c.requires.track in
    let fits : FitsSigned w64 c.in-Circ.r = omega (arith, ints, track.1) in
    let reach = c.further-most.ensures.reaches.under in
    simp to_z-of_z (inside_from a.track.now a.p a.q c.in-Circ.c c.in-Circ.r a.most.under c.further-most.result.under _ c.in-Circ.is (omega (arith, ints, reach.least, reach.most)) c.requires.under c.further-most.ensures.under)

pub past_between-requires-clause-to : goal.past_between-requires-clause-to
past_between-requires-clause-to c =
    let a = c.args in
    let track = rw c.in-Circ.is at c.requires.track in
    let fits : FitsSigned w64 c.in-Circ.r = omega (arith, ints, track.1) in
    let reach = c.further-most.ensures.reaches.under in
    simp to_z-of_z (inside_to a.track.now a.q c.in-Circ.c c.in-Circ.r a.most.under c.further-most.result.under _ c.in-Circ.is (omega (arith, ints, reach.least, reach.most)) c.further-most.ensures.under)

pub returns-in-Line-clause-over : goal.returns-in-Line-clause-over
returns-in-Line-clause-over c =
    let a = c.args in
    onward_line a.track.now (pos 1) a.p a.q c.in-Line.base c.in-Line.dir c.in-Line.off a.most.over c.further-most.result.over c.in-Line.is c.requires.over c.further-most.ensures.over

pub returns-in-Line-clause-under : goal.returns-in-Line-clause-under
returns-in-Line-clause-under c =
    let a = c.args in
    onward_line a.track.now (negsuc 0) a.p a.q c.in-Line.base c.in-Line.dir c.in-Line.off a.most.under c.further-most.result.under c.in-Line.is c.requires.under c.further-most.ensures.under

pub returns-in-Circ-clause-over : goal.returns-in-Circ-clause-over
returns-in-Circ-clause-over c =
    let a = c.args in
    onward_outside a.track.now a.p a.q c.in-Circ.c c.in-Circ.r a.most.over c.further-most.result.over _ c.in-Circ.is (omega (arith, ints, c.further-most.ensures.reaches.over.least, c.further-most.ensures.reaches.over.most)) c.requires.over c.further-most.ensures.over

pub returns-in-Circ-clause-under : goal.returns-in-Circ-clause-under
returns-in-Circ-clause-under c =
    let a = c.args in
    let track = rw c.in-Circ.is at c.requires.track in
    let fits : FitsSigned w64 c.in-Circ.r = omega (arith, ints, track.1) in
    let more = c.further-most.ensures.reaches.under in
    let last = c.past_between.ensures.reach in
    onward_inside a.track.now a.p a.q c.in-Circ.c c.in-Circ.r a.most.under c.further-most.result.under _ c.past_between.result _ c.in-Circ.is
    (omega (arith, ints, more.least, more.most)) (omega (arith, ints, last.least, last.most)) c.further-most.ensures.under (simp to_z-of_z at c.past_between.ensures.least)
