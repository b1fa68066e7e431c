use Rattle.std.proofs.Common.{arith, FitsSigned, w64}
use Rattle.std.proofs.lemmas.Int.{ints, to_z-of_z}
use Rattle.apt_outline.proofs.Within.{joined}
use Rattle.apt_outline.proofs.bounds.Bounds.with.Goals as goal

pub returns : goal.returns
returns c =
    let low = c.args.self.low in
    let high = c.args.self.high in
    let q = c.args.q in
    let left : FitsSigned w64 low.x = omega (arith, ints, c.requires.low.x) in
    let below : FitsSigned w64 low.y = omega (arith, ints, c.requires.low.y) in
    let right : FitsSigned w64 high.x = omega (arith, ints, c.requires.high.x) in
    let above : FitsSigned w64 high.y = omega (arith, ints, c.requires.high.y) in
    let x : FitsSigned w64 q.x = omega (arith, ints, c.requires.point.x) in
    let y : FitsSigned w64 q.y = omega (arith, ints, c.requires.point.y) in
    let is = joined low high q (record { x = c.min.result; y = c.min-2.result }) (record { x = c.max.result; y = c.max-2.result }) c.requires.low c.requires.high c.requires.point
    (simp to_z-of_z at c.min.ensures.value) (simp to_z-of_z at c.min-2.ensures.value) (simp to_z-of_z at c.max.ensures.value) (simp to_z-of_z at c.max-2.ensures.value) in
    let to_left : FitsSigned w64 c.min.result = omega (arith, ints, is.least.x) in
    let to_below : FitsSigned w64 c.min-2.result = omega (arith, ints, is.least.y) in
    let to_right : FitsSigned w64 c.max.result = omega (arith, ints, is.greatest.x) in
    let to_above : FitsSigned w64 c.max-2.result = omega (arith, ints, is.greatest.y) in
    simp to_z-of_z is
