use Rattle.std.proofs.Common.{◌*◌, ◌^◌, ◌≤◌, arith, FitsSigned, w64}
use Rattle.std.proofs.lemmas.Int.{ints, to_z-of_z}
use Rattle.std.proofs.lemmas.Nat.{mul-le}
use Rattle.apt_outline.proofs.Deciding.{IsSeen, tells_behind, tells_beyond, tells_across}
use Rattle.apt_outline.proofs.edges.is_far.Goals as goal

pub overflow_mul-from : goal.overflow_mul-from
overflow_mul-from c =
    let square : c.args.r * c.args.r ≤ 4 * 10 ^ 16 = omega (arith, mul-le c.args.r c.args.r (2 * 10 ^ 8) (2 * 10 ^ 8) c.requires.length c.requires.length) in
    let product = mul-le (c.args.r * c.args.r) c.square_of-whole.result (4 * 10 ^ 16) (2 * 10 ^ 16) square c.square_of-whole.ensures.small in
    rw (c.from.ensures, c.from-else-unsigned_abs-whole.ensures) (omega (arith, product))

pub returns-then-along-le0 : goal.returns-then-along-le0
returns-then-along-le0 c =
    let a = c.args in
    let fits : FitsSigned w64 c.dot_of-along.result = omega (arith, ints, c.dot_of-along.ensures.small) in
    let seen : IsSeen a.a a.p a.q c.displacement-edge.result c.displacement-way.result c.dot_of-along.result c.square_of-whole.result =
    record { edge = c.displacement-edge.ensures.value; way = c.displacement-way.ensures.value; along = c.dot_of-along.ensures.value; whole = c.square_of-whole.ensures.value } in
    tells_behind a.r c.square_of.result _ a.a a.p a.q _ _ _ seen c.square_of.ensures.value (omega (arith, ints, c.if-along-le0.true))

pub returns-then-unsigned_abs-whole : goal.returns-then-unsigned_abs-whole
returns-then-unsigned_abs-whole c =
    let a = c.args in
    let fits : FitsSigned w64 c.dot_of-along.result = omega (arith, ints, c.dot_of-along.ensures.small) in
    let seen : IsSeen a.a a.p a.q c.displacement-edge.result c.displacement-way.result c.dot_of-along.result c.square_of-whole.result =
    record { edge = c.displacement-edge.ensures.value; way = c.displacement-way.ensures.value; along = c.dot_of-along.ensures.value; whole = c.square_of-whole.ensures.value } in
    tells_beyond a.r c.square_of-then-unsigned_abs-whole.result _ a.a a.p a.q _ _ c.displacement.result _ seen c.displacement.ensures.value c.square_of-then-unsigned_abs-whole.ensures.value
    (omega (arith, ints, c.if-along-le0.false, c.if-unsigned_abs-whole.true, c.unsigned_abs.ensures.value))

pub returns-else-unsigned_abs-whole : goal.returns-else-unsigned_abs-whole
returns-else-unsigned_abs-whole c =
    let a = c.args in
    let fits : FitsSigned w64 c.dot_of-along.result = omega (arith, ints, c.dot_of-along.ensures.small) in
    let fg : FitsSigned w64 c.cross_of.result = omega (arith, ints, c.cross_of.ensures.small) in
    let seen : IsSeen a.a a.p a.q c.displacement-edge.result c.displacement-way.result c.dot_of-along.result c.square_of-whole.result =
    record { edge = c.displacement-edge.ensures.value; way = c.displacement-way.ensures.value; along = c.dot_of-along.ensures.value; whole = c.square_of-whole.ensures.value } in
    tells_across c.is_at_most.result a.r _ c.square_of-whole.result a.a a.p a.q _ _ c.dot_of-along.result c.cross_of.result seen
    (rw (c.from.ensures, c.from-else-unsigned_abs-whole.ensures) (omega arith)) c.cross_of.ensures.value
    (omega (arith, ints, c.if-along-le0.false)) (omega (arith, ints, c.if-along-le0.false, c.if-unsigned_abs-whole.false, c.unsigned_abs.ensures.value))
    (simp to_z-of_z at c.is_at_most.ensures)
