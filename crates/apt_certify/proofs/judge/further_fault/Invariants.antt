use Rattle.std.proofs.Common.{◌+◌, ◌∷◌, drop}
use Rattle.apt_certify.proofs.Passing.{IsPassed}
use Rattle.apt_certify.proofs.judge.further_fault.Given as goal

abbrev pub invariant-vertices : goal.invariant-vertices
invariant-vertices l = IsPassed l.fn.in_band l.leg l.fn.start (l.fn.first ∷ l.fn.vertices) l.at (drop l.i l.vertices) (l.i + 1)
