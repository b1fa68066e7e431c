use Rattle.std.proofs.Common.{arith, FitsSigned, w64}
use Rattle.std.proofs.lemmas.Int.{ints, to_z-of_z}
use Rattle.apt_certify.proofs.deviations.further.Goals as goal

pub returns-in-Line-clause-over : goal.returns-in-Line-clause-over
returns-in-Line-clause-over c =
    let track = rw c.in-Line.is at c.requires.track in
    let fits : FitsSigned w64 c.in-Line.off = omega (arith, ints, track.2) in
    rw c.in-Line.is (simp to_z-of_z at c.further_along.ensures.over)

pub returns-in-Line-clause-under : goal.returns-in-Line-clause-under
returns-in-Line-clause-under c =
    let track = rw c.in-Line.is at c.requires.track in
    let fits : FitsSigned w64 c.in-Line.off = omega (arith, ints, track.2) in
    rw c.in-Line.is (simp to_z-of_z at c.further_along.ensures.under)

pub returns-in-Circ-clause-over : goal.returns-in-Circ-clause-over
returns-in-Circ-clause-over c =
    let track = rw c.in-Circ.is at c.requires.track in
    let fits : FitsSigned w64 c.in-Circ.r = omega (arith, ints, track.1) in
    rw c.in-Circ.is (simp to_z-of_z at c.further_round.ensures.over)

pub returns-in-Circ-clause-under : goal.returns-in-Circ-clause-under
returns-in-Circ-clause-under c =
    let track = rw c.in-Circ.is at c.requires.track in
    let fits : FitsSigned w64 c.in-Circ.r = omega (arith, ints, track.1) in
    rw c.in-Circ.is (simp to_z-of_z at c.further_round.ensures.under)
