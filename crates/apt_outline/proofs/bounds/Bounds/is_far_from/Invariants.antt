use Rattle.std.proofs.Common.{take}
use Rattle.std.specs.List.{AllByRecursion}
use Rattle.apt_plane.specs.declared.figures.Pt.{Pt}
use Rattle.apt_outline.specs.Boxes.{IsIn}
use Rattle.apt_outline.specs.Guards.{segment, IsClearOf}
use Rattle.apt_outline.proofs.bounds.Bounds.is_far_from.Given as goal

abbrev pub invariant-parts : goal.invariant-parts
invariant-parts l = (a b : Pt) → IsIn l.fn.self.low l.fn.self.high a → IsIn l.fn.self.low l.fn.self.high b → AllByRecursion (IsClearOf l.rho (segment a b)) (take l.part-index l.parts)
