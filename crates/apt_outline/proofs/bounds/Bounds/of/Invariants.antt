use Rattle.std.proofs.Common.{◌∷◌, take}
use Rattle.apt_outline.specs.Boxes.{IsBoxOf}
use Rattle.apt_outline.proofs.bounds.Bounds.of.Given as goal

abbrev pub invariant-points : goal.invariant-points
invariant-points l = IsBoxOf l.bounds.low l.bounds.high (l.fn.start ∷ take l.q-index l.rest)
