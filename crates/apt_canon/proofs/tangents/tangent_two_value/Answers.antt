use Rattle.std.proofs.Common.{◌≡◌, ◌∙◌, ap, arith}
use Rattle.apt_num.specs.Sign.{square}
use Rattle.apt_plane.specs.Vectors.{displacement, length_squared}
use Rattle.apt_canon.specs.Tangents.{drop}
use Rattle.apt_canon.proofs.Shares.{side_kept}
use Rattle.apt_canon.proofs.Ways.{way_is_dir}
use Rattle.apt_canon.proofs.TangentLines.Calls.{same_dir, same_touch, two_below, two_same, two_found}
use Rattle.apt_canon.proofs.tangents.tangent_two_value.Goals as goal

pub returns-then-apart-square : goal.returns-then-apart-square
returns-then-apart-square c =
    let a = c.args.a.now in
    let b = c.args.b.now in
    let z = c.drop_between-drop.result in
    let apart : c.length_squared-apart.result ≡ length_squared (displacement a.c b.c) = c.length_squared-apart.ensures ∙ ap length_squared c.displacement-way.ensures.value in
    let kept = side_kept z c.drop_between-drop.ensures.small in
    let needed : c.square.result ≡ square z = rw kept at c.square.ensures in
    let same : square z ≡ square (drop a c.args.left_a b c.args.left_b) = ap square c.drop_between-drop.ensures.value in
    two_below a c.args.left_a b c.args.left_b (omega (arith, apart, needed, same, c.if-apart-square.true))

pub returns-then-apart-eq0 : goal.returns-then-apart-eq0
returns-then-apart-eq0 c =
    let a = c.args.a.now in
    let b = c.args.b.now in
    let z = c.drop_between-drop.result in
    let apart : c.length_squared-apart.result ≡ length_squared (displacement a.c b.c) = c.length_squared-apart.ensures ∙ ap length_squared c.displacement-way.ensures.value in
    let kept = side_kept z c.drop_between-drop.ensures.small in
    let needed : c.square.result ≡ square z = rw kept at c.square.ensures in
    let same : square z ≡ square (drop a c.args.left_a b c.args.left_b) = ap square c.drop_between-drop.ensures.value in
    two_same a c.args.left_a b c.args.left_b (omega (arith, apart, needed, same, c.if-apart-square.false)) (omega (arith, apart, c.if-apart-eq0.true))

pub touch_point-requires-clause-way : goal.touch_point-requires-clause-way
touch_point-requires-clause-way c =
    let a = c.args.a.now in
    let b = c.args.b.now in
    let apart : c.length_squared-apart.result ≡ length_squared (displacement a.c b.c) = c.length_squared-apart.ensures ∙ ap length_squared c.displacement-way.ensures.value in
    rw c.displacement-way.ensures.value (way_is_dir a.c b.c c.requires.a.centre c.requires.b.centre (omega (arith, apart, c.if-apart-eq0.false)))

pub direction-requires-clause-way : goal.direction-requires-clause-way
direction-requires-clause-way c =
    let a = c.args.a.now in
    let b = c.args.b.now in
    let apart : c.length_squared-apart.result ≡ length_squared (displacement a.c b.c) = c.length_squared-apart.ensures ∙ ap length_squared c.displacement-way.ensures.value in
    rw c.displacement-way.ensures.value (way_is_dir a.c b.c c.requires.a.centre c.requires.b.centre (omega (arith, apart, c.if-apart-eq0.false)))

pub returns : goal.returns
returns c =
    let a = c.args.a.now in
    let b = c.args.b.now in
    let left_a = c.args.left_a in
    let left_b = c.args.left_b in
    let v = displacement a.c b.c in
    let z = c.drop_between-drop.result in
    let apart : c.length_squared-apart.result ≡ length_squared v = c.length_squared-apart.ensures ∙ ap length_squared c.displacement-way.ensures.value in
    let kept = side_kept z c.drop_between-drop.ensures.small in
    let needed : c.square.result ≡ square z = rw kept at c.square.ensures in
    let same : square z ≡ square (drop a left_a b left_b) = ap square c.drop_between-drop.ensures.value in
    let dropped = kept ∙ c.drop_between-drop.ensures.value in
    let base = same_touch a left_a c.displacement-way.result v _ (drop a left_a b left_b) c.touch_point.result c.touch_point.ensures c.displacement-way.ensures.value dropped in
    let dir = same_dir c.displacement-way.result v _ (drop a left_a b left_b) c.direction.result c.direction.ensures c.displacement-way.ensures.value dropped in
    two_found a left_a b left_b c.touch_point.result c.direction.result (omega (arith, apart, needed, same, c.if-apart-square.false)) (omega (arith, apart, c.if-apart-eq0.false)) base dir
