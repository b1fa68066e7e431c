use Rattle.std.proofs.Common.{◌≡◌, ◌*◌, ◌^◌, arith, pos, ◌-ℤ◌, ◌*ℤ◌, unsigned_abs, FitsSigned, w64, ap, refl}
use Rattle.std.proofs.lemmas.Int.{ints, to_z-of_z}
use Rattle.apt_num.specs.Near.{near}
use Rattle.apt_plane.specs.Vectors.{length_squared}
use Rattle.apt_canon.specs.Tangents.{falling, side_of_circle, touch_point}
use Rattle.apt_canon.proofs.Products.{kept}
use Rattle.apt_canon.proofs.Shares.{turned_part_small, side_kept, reached_fits, reached}
use Rattle.apt_canon.proofs.Products.{zero-minus}
use Rattle.apt_canon.proofs.tangents.touch_point.Goals as goal

pub quotient-requires-clause-part : goal.quotient-requires-clause-part
quotient-requires-clause-part c =
    turned_part_small c.falling-turned.result.y c.divisor-whole.result (length_squared c.args.way * 2 ^ 30) c.divisor-whole.ensures.value c.divisor-whole.ensures.small c.falling-turned.ensures.y_small

pub overflow_add-result : goal.overflow_add-result
overflow_add-result c =
    reached_fits c.args.a.now.c.x c.quotient.result c.on_side-radius.result c.args.a.now.r c.requires.circle.x c.on_side-radius.ensures.size c.quotient.ensures.small

pub quotient-requires-2-clause-n : goal.quotient-requires-2-clause-n
quotient-requires-2-clause-n c = rw (side_kept c.on_side-radius.result c.on_side-radius.ensures.small) c.on_side-radius.ensures.small

pub overflow_add-result-2 : goal.overflow_add-result-2
overflow_add-result-2 c =
    reached_fits c.args.a.now.c.y c.quotient-2.result c.on_side-radius.result c.args.a.now.r c.requires.circle.y c.on_side-radius.ensures.size c.quotient-2.ensures.small

pub returns : goal.returns
returns c =
    let a = c.args.a.now in
    let way = c.args.way in
    let radius = c.on_side-radius.result in
    let x = c.falling-turned.result.x in
    let y = c.falling-turned.result.y in
    let whole = c.divisor-whole.result in
    let fits_drop : FitsSigned w64 c.args.drop = c.ranges.drop in
    let size : unsigned_abs whole ≡ length_squared way * 2 ^ 30 = ap unsigned_abs c.divisor-whole.ensures.value in
    let small_x = c.falling-turned.ensures.x_small in
    let small_y = c.falling-turned.ensures.y_small in
    let kept_r = side_kept a.r (omega (arith, c.requires.circle.x)) in
    let kept_radius = side_kept radius c.on_side-radius.ensures.small in
    let kept_x = kept x (omega (arith, size, small_x, c.divisor-whole.ensures.small)) in
    let kept_y = kept y (omega (arith, size, small_y, c.divisor-whole.ensures.small)) in
    let kept_back = kept (pos 0 -ℤ y) (omega (arith, ints, size, small_y, c.divisor-whole.ensures.small)) in
    let kept_whole = kept whole (omega (arith, c.divisor-whole.ensures.small)) in
    let is_radius : radius ≡ side_of_circle c.args.left *ℤ a.r = rw kept_r at c.on_side-radius.ensures.value in
    let is_x : x ≡ (falling way c.args.drop).dx = simp to_z-of_z at c.falling-turned.ensures.x in
    let is_y : y ≡ (falling way c.args.drop).dy = simp to_z-of_z at c.falling-turned.ensures.y in
    let first : c.quotient.result ≡ near (radius *ℤ (pos 0 -ℤ y)) whole = rw (kept_radius, kept_y, kept_back, kept_whole) at c.quotient.ensures.value in
    let second : c.quotient-2.result ≡ near (radius *ℤ x) whole = rw (kept_radius, kept_x, kept_whole) at c.quotient-2.ensures.value in
    rw (
      reached a.c.x c.quotient.result radius a.r c.requires.circle.x c.on_side-radius.ensures.size c.quotient.ensures.small,
      reached a.c.y c.quotient-2.result radius a.r c.requires.circle.y c.on_side-radius.ensures.size c.quotient-2.ensures.small,
      first,
      second,
      zero-minus y,
      is_radius,
      is_x,
      is_y,
      c.divisor-whole.ensures.value,
    ) (refl {a = touch_point a c.args.left way c.args.drop})
