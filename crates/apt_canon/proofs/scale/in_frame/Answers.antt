use Rattle.std.proofs.Common.{refl, ◌≡◌, arith, ◌*ℤ◌, w64}
use Rattle.std.proofs.Math.IntN.{*ℤ_comm}
use Rattle.std.proofs.lemmas.Int.{to_z-of_z}
use Rattle.apt_canon.proofs.Products.{kept, part_size, sum_size, scaled_sum_kept, scaled_sum_fits}
use Rattle.apt_canon.proofs.scale.in_frame.Goals as goal

pub overflow_mul-result : goal.overflow_mul-result
overflow_mul-result c =
    let a = c.args.a in
    let b = c.args.b in
    let x = c.args.x in
    let y = c.args.y in
    let first : c.times.result ≡ a *ℤ x = rw (to_z-of_z w64 a c.ranges.a, kept x (omega arith)) at c.times.ensures.value in
    let second : c.times-2.result ≡ b *ℤ y = rw (to_z-of_z w64 b c.ranges.b, kept y (omega arith)) at c.times-2.ensures.value in
    let first_small = part_size a x c.requires.a c.requires.x in
    let second_small = part_size b y c.requires.b c.requires.y in
    rw (first, second) (scaled_sum_fits (a *ℤ x) (b *ℤ y) first_small second_small)

pub returns-clause-value : goal.returns-clause-value
returns-clause-value c =
    let a = c.args.a in
    let b = c.args.b in
    let x = c.args.x in
    let y = c.args.y in
    let first : c.times.result ≡ a *ℤ x = rw (to_z-of_z w64 a c.ranges.a, kept x (omega arith)) at c.times.ensures.value in
    let second : c.times-2.result ≡ b *ℤ y = rw (to_z-of_z w64 b c.ranges.b, kept y (omega arith)) at c.times-2.ensures.value in
    let first_small = part_size a x c.requires.a c.requires.x in
    let second_small = part_size b y c.requires.b c.requires.y in
    rw (first, second, scaled_sum_kept (a *ℤ x) (b *ℤ y) first_small second_small, *ℤ_comm a x, *ℤ_comm b y) refl

pub returns-clause-small : goal.returns-clause-small
returns-clause-small c =
    let a = c.args.a in
    let b = c.args.b in
    let x = c.args.x in
    let y = c.args.y in
    rw (returns-clause-value c, *ℤ_comm x a, *ℤ_comm y b) (sum_size (a *ℤ x) (b *ℤ y) (part_size a x c.requires.a c.requires.x) (part_size b y c.requires.b c.requires.y))
