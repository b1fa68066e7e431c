use Rattle.std.proofs.Common.{◌≤◌, ◌-ℤ◌, unsigned_abs, arith, FitsSigned, w64}
use Rattle.std.proofs.lemmas.Int.{ints, to_z-of_z}
use Rattle.apt_outline.proofs.Beside.{ahead_tells, least_small, greatest_small}
use Rattle.apt_outline.proofs.boxes.is_ahead.Goals as goal

pub overflow_sub-result : goal.overflow_sub-result
overflow_sub-result c =
    let fa : FitsSigned w64 c.args.a = c.ranges.a in
    let fb : FitsSigned w64 c.args.b = c.ranges.b in
    let fp : FitsSigned w64 c.args.p = c.ranges.p in
    let fq : FitsSigned w64 c.args.q = c.ranges.q in
    let least : unsigned_abs c.min.result ≤ 50000000 = least_small c.args.a c.args.b c.min.result 50000000 (simp to_z-of_z at c.min.ensures.value) c.requires.a c.requires.b in
    let most : unsigned_abs c.max.result ≤ 50000000 = greatest_small c.args.p c.args.q c.max.result 50000000 (simp to_z-of_z at c.max.ensures.value) c.requires.p c.requires.q in
    let fm : FitsSigned w64 c.min.result = omega (arith, ints, least) in
    let fn : FitsSigned w64 c.max.result = omega (arith, ints, most) in
    let whole : FitsSigned w64 (c.min.result -ℤ c.max.result) = omega (arith, ints, least, most) in
    simp to_z-of_z whole

pub returns : goal.returns
returns c =
    let fa : FitsSigned w64 c.args.a = c.ranges.a in
    let fb : FitsSigned w64 c.args.b = c.ranges.b in
    let fp : FitsSigned w64 c.args.p = c.ranges.p in
    let fq : FitsSigned w64 c.args.q = c.ranges.q in
    let fr : FitsSigned w64 c.args.r = c.ranges.r in
    let least : unsigned_abs c.min.result ≤ 50000000 = least_small c.args.a c.args.b c.min.result 50000000 (simp to_z-of_z at c.min.ensures.value) c.requires.a c.requires.b in
    let most : unsigned_abs c.max.result ≤ 50000000 = greatest_small c.args.p c.args.q c.max.result 50000000 (simp to_z-of_z at c.max.ensures.value) c.requires.p c.requires.q in
    let fm : FitsSigned w64 c.min.result = omega (arith, ints, least) in
    let fn : FitsSigned w64 c.max.result = omega (arith, ints, most) in
    let whole : FitsSigned w64 (c.min.result -ℤ c.max.result) = omega (arith, ints, least, most) in
    simp to_z-of_z
    (ahead_tells c.args.a c.args.b c.args.p c.args.q c.args.r c.min.result c.max.result (simp to_z-of_z at c.min.ensures.value) (simp to_z-of_z at c.max.ensures.value))
