use Rattle.std.proofs.Common.{refl, ◌≡◌, ◌∙◌, sym, arith, ◌-ℤ◌, pos, neg_ℤ, FitsSigned, w64, true, false}
use Rattle.std.specs.Int.{w128}
use Rattle.std.proofs.lemmas.Int.{ints, to_z-of_z}
use Rattle.apt_num.specs.Sign as signs
use Rattle.apt_canon.proofs.Products.{zero-minus}
use Rattle.apt_canon.proofs.circles.is_between.Goals as goal

pub returns-then-is_at_least : goal.returns-then-is_at_least
returns-then-is_at_least c =
    let a = c.args in
    let fits_height : FitsSigned w128 a.height = c.ranges.height in
    let fits_turned : FitsSigned w128 (pos 0 -ℤ a.height) = omega (arith, ints) in
    let fits_off : FitsSigned w64 a.off = c.ranges.off in
    let fits_left : FitsSigned w64 (pos 0 -ℤ a.off) = omega (arith, ints) in
    let fits_r : FitsSigned w64 a.r = c.ranges.r in
    let fits_low : FitsSigned w64 (a.off -ℤ a.r) = omega (arith, ints) in
    let fits_high : FitsSigned w64 ((pos 0 -ℤ a.off) -ℤ a.r) = omega (arith, ints) in
    let first : c.is_at_least.result ≡ signs.is_at_least a.height (a.off -ℤ a.r) a.square = simp to_z-of_z at c.is_at_least.ensures in
    let other : c.is_at_least-then-is_at_least.result ≡ signs.is_at_least (pos 0 -ℤ a.height) ((pos 0 -ℤ a.off) -ℤ a.r) a.square =
    simp to_z-of_z at c.is_at_least-then-is_at_least.ensures in
    let second : c.is_at_least-then-is_at_least.result ≡ signs.is_at_least (neg_ℤ a.height) (neg_ℤ a.off -ℤ a.r) a.square = rw (zero-minus a.height, zero-minus a.off) at other in
    let holds : signs.is_at_least a.height (a.off -ℤ a.r) a.square ≡ true = sym first ∙ c.if-is_at_least.true in
    rw (holds, second) refl

pub returns-else-is_at_least : goal.returns-else-is_at_least
returns-else-is_at_least c =
    let a = c.args in
    let fits_height : FitsSigned w128 a.height = c.ranges.height in
    let fits_off : FitsSigned w64 a.off = c.ranges.off in
    let fits_r : FitsSigned w64 a.r = c.ranges.r in
    let fits_low : FitsSigned w64 (a.off -ℤ a.r) = omega (arith, ints) in
    let first : c.is_at_least.result ≡ signs.is_at_least a.height (a.off -ℤ a.r) a.square = simp to_z-of_z at c.is_at_least.ensures in
    let fails : signs.is_at_least a.height (a.off -ℤ a.r) a.square ≡ false = sym first ∙ c.if-is_at_least.false in
    c.if-is_at_least.false ∙ rw fails refl
