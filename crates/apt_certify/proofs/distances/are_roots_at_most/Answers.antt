use Rattle.std.proofs.Common.{arith, FitsSigned, w64}
use Rattle.std.proofs.lemmas.Int.{ints, to_z-of_z}
use Rattle.apt_certify.proofs.Telling.{plus_tells, minus_tells, roots_fit}
use Rattle.apt_certify.proofs.distances.are_roots_at_most.Goals as goal

pub overflow_mul-roots : goal.overflow_mul-roots
overflow_mul-roots c =
    let a = c.args in
    let fh : FitsSigned w64 a.h = c.ranges.h in
    omega (arith, roots_fit a.h a.n c.from.result c.square_of_size.result (simp to_z-of_z at c.square_of_size.ensures) c.from.ensures c.requires.h c.requires.n)

pub returns-else-h-lt0 : goal.returns-else-h-lt0
returns-else-h-lt0 c =
    let a = c.args in
    let fh : FitsSigned w64 a.h = c.ranges.h in
    let fk : FitsSigned w64 a.k = c.ranges.k in
    plus_tells a.k a.h a.n c.from.result c.square_of_size.result c.square_of_size-square.result (simp to_z-of_z at c.square_of_size.ensures) c.from.ensures (simp to_z-of_z at c.square_of_size-square.ensures)
    (omega (arith, ints, c.if-k-ge0.true)) (omega (arith, ints, c.if-h-lt0.false))

pub returns-then-h-lt0-2 : goal.returns-then-h-lt0-2
returns-then-h-lt0-2 c =
    let a = c.args in
    let fh : FitsSigned w64 a.h = c.ranges.h in
    let fk : FitsSigned w64 a.k = c.ranges.k in
    minus_tells a.k a.h a.n c.from.result c.square_of_size.result c.square_of_size-square.result (simp to_z-of_z at c.square_of_size.ensures) c.from.ensures (simp to_z-of_z at c.square_of_size-square.ensures)
    (omega (arith, ints, c.if-k-ge0.false)) (omega (arith, ints, c.if-h-lt0-2.true))
