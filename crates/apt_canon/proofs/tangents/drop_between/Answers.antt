use Rattle.std.proofs.Common.{◌≡◌, arith, ◌*ℤ◌, unsigned_abs, refl}
use Rattle.apt_canon.specs.Tangents.{side_of_circle}
use Rattle.apt_canon.proofs.Shares.{side_kept}
use Rattle.apt_canon.proofs.TangentLines.Calls.{drop_fits, drop_kept, drop_small}
use Rattle.apt_canon.proofs.tangents.drop_between.Goals as goal

pub overflow_sub-result : goal.overflow_sub-result
overflow_sub-result c =
    let a = c.args.a.now in
    let b = c.args.b.now in
    let first : unsigned_abs c.on_side.result ≡ unsigned_abs a.r = rw (side_kept a.r (omega (arith, c.requires.a.x))) at c.on_side.ensures.size in
    let second : unsigned_abs c.on_side-2.result ≡ unsigned_abs b.r = rw (side_kept b.r (omega (arith, c.requires.b.x))) at c.on_side-2.ensures.size in
    drop_fits c.on_side.result c.on_side-2.result (omega (arith, first, c.requires.a.x)) (omega (arith, second, c.requires.b.x))

pub returns-clause-value : goal.returns-clause-value
returns-clause-value c =
    let a = c.args.a.now in
    let b = c.args.b.now in
    let kept_a = side_kept a.r (omega (arith, c.requires.a.x)) in
    let kept_b = side_kept b.r (omega (arith, c.requires.b.x)) in
    let first : unsigned_abs c.on_side.result ≡ unsigned_abs a.r = rw kept_a at c.on_side.ensures.size in
    let second : unsigned_abs c.on_side-2.result ≡ unsigned_abs b.r = rw kept_b at c.on_side-2.ensures.size in
    let value : c.on_side.result ≡ side_of_circle c.args.left_a *ℤ a.r = rw kept_a at c.on_side.ensures.value in
    let value-2 : c.on_side-2.result ≡ side_of_circle c.args.left_b *ℤ b.r = rw kept_b at c.on_side-2.ensures.value in
    rw (drop_kept c.on_side.result c.on_side-2.result (omega (arith, first, c.requires.a.x)) (omega (arith, second, c.requires.b.x)), value, value-2) refl

pub returns-clause-small : goal.returns-clause-small
returns-clause-small c =
    let a = c.args.a.now in
    let b = c.args.b.now in
    let first : unsigned_abs c.on_side.result ≡ unsigned_abs a.r = rw (side_kept a.r (omega (arith, c.requires.a.x))) at c.on_side.ensures.size in
    let second : unsigned_abs c.on_side-2.result ≡ unsigned_abs b.r = rw (side_kept b.r (omega (arith, c.requires.b.x))) at c.on_side-2.ensures.size in
    rw (drop_kept c.on_side.result c.on_side-2.result (omega (arith, first, c.requires.a.x)) (omega (arith, second, c.requires.b.x)))
    (drop_small c.on_side.result c.on_side-2.result (omega (arith, first, c.requires.a.x)) (omega (arith, second, c.requires.b.x)))
