use Rattle.std.proofs.Common.{◌≡◌, ◌≤◌, ◌∙◌, ap, arith, neg_ℤ, ◌*ℤ◌, unsigned_abs}
use Rattle.apt_num.specs.Sign.{square}
use Rattle.apt_num.proofs.Squares.{size_neg}
use Rattle.apt_plane.specs.Vectors.{displacement, length_squared}
use Rattle.apt_canon.specs.Tangents.{side_of_circle}
use Rattle.apt_canon.proofs.Shares.{side_kept}
use Rattle.apt_canon.proofs.Ways.{way_is_dir}
use Rattle.apt_canon.proofs.TangentLines.Calls.{outside_apart, back_kept, same_dir, found_from}
use Rattle.apt_canon.proofs.tangents.tangent_from_value.Goals as goal

pub direction-requires-clause-way : goal.direction-requires-clause-way
direction-requires-clause-way c =
    let p = c.args.p in
    let circle = c.args.c.now in
    let kept = side_kept circle.r (omega (arith, c.requires.circle.x)) in
    let needed : c.square.result ≡ square circle.r = rw kept at c.square.ensures in
    let apart : c.length_squared.result ≡ length_squared (displacement p circle.c) = c.length_squared.ensures ∙ ap length_squared c.displacement-way.ensures.value in
    let outside : square circle.r ≤ length_squared (displacement p circle.c) = omega (arith, needed, apart, c.if-length_squared-square.false) in
    rw c.displacement-way.ensures.value (way_is_dir p circle.c c.requires.point c.requires.circle.centre (outside_apart p circle c.requires.circle outside))

pub direction-requires-clause-drop : goal.direction-requires-clause-drop
direction-requires-clause-drop c =
    let circle = c.args.c.now in
    let kept = side_kept circle.r (omega (arith, c.requires.circle.x)) in
    let needed : c.square.result ≡ square circle.r = rw kept at c.square.ensures in
    let size : unsigned_abs c.on_side.result ≡ unsigned_abs circle.r = rw kept at c.on_side.ensures.size in
    let outside : square circle.r ≤ length_squared c.displacement-way.result = omega (arith, needed, c.length_squared.ensures, c.if-length_squared-square.false) in
    rw (back_kept c.on_side.result c.on_side.ensures.small, size_neg c.on_side.result, size) outside

pub direction-requires-clause-small : goal.direction-requires-clause-small
direction-requires-clause-small c = rw (back_kept c.on_side.result c.on_side.ensures.small, size_neg c.on_side.result) c.on_side.ensures.small

pub returns : goal.returns
returns c =
    let p = c.args.p in
    let circle = c.args.c.now in
    let kept = side_kept circle.r (omega (arith, c.requires.circle.x)) in
    let needed : c.square.result ≡ square circle.r = rw kept at c.square.ensures in
    let apart : c.length_squared.result ≡ length_squared (displacement p circle.c) = c.length_squared.ensures ∙ ap length_squared c.displacement-way.ensures.value in
    let outside : square circle.r ≤ length_squared (displacement p circle.c) = omega (arith, needed, apart, c.if-length_squared-square.false) in
    let side : c.on_side.result ≡ side_of_circle c.args.left *ℤ circle.r = rw kept at c.on_side.ensures.value in
    let turned = back_kept c.on_side.result c.on_side.ensures.small in
    let dir = same_dir c.displacement-way.result (displacement p circle.c) _ (neg_ℤ (side_of_circle c.args.left *ℤ circle.r)) c.direction.result c.direction.ensures c.displacement-way.ensures.value (turned ∙ ap neg_ℤ side) in
    found_from p c.args.left circle c.direction.result outside dir
