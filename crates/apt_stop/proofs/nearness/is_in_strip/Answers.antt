use Rattle.std.proofs.Common.{arith, ◌≡◌, ◌≤◌, ◌-ℤ◌, neg_ℤ, unsigned_abs}
use Rattle.std.specs.Int.{w128}
use Rattle.std.proofs.lemmas.Int.{ints, to_z-of_z}
use Rattle.apt_num.specs.Sign.{is_at_least}
use Rattle.apt_stop.proofs.Strips.{turned_kept, low_kept, high_kept, first_decides, second_decides}
use Rattle.apt_stop.proofs.nearness.is_in_strip.Goals as goal

pub returns-then-is_at_least : goal.returns-then-is_at_least
returns-then-is_at_least c =
    let k = c.args.height in
    let h = c.args.off in
    let g = c.args.g in
    let few : unsigned_abs g ≤ 100 = omega (arith, ints) in
    let first : c.is_at_least.result ≡ is_at_least k (h -ℤ g) c.args.length_squared =
    rw (to_z-of_z w128 k c.ranges.height, low_kept h g c.requires.off few) at c.is_at_least.ensures in
    let second : c.is_at_least-then-is_at_least.result ≡ is_at_least (neg_ℤ k) (neg_ℤ h -ℤ g) c.args.length_squared =
    rw (turned_kept k c.requires.height, high_kept h g c.requires.off few) at c.is_at_least-then-is_at_least.ensures in
    second_decides _ _ (is_at_least k (h -ℤ g) c.args.length_squared) (is_at_least (neg_ℤ k) (neg_ℤ h -ℤ g) c.args.length_squared) first second c.if-is_at_least.true

pub returns-else-is_at_least : goal.returns-else-is_at_least
returns-else-is_at_least c =
    let k = c.args.height in
    let h = c.args.off in
    let g = c.args.g in
    let few : unsigned_abs g ≤ 100 = omega (arith, ints) in
    let first : c.is_at_least.result ≡ is_at_least k (h -ℤ g) c.args.length_squared =
    rw (to_z-of_z w128 k c.ranges.height, low_kept h g c.requires.off few) at c.is_at_least.ensures in
    first_decides _ (is_at_least k (h -ℤ g) c.args.length_squared) (is_at_least (neg_ℤ k) (neg_ℤ h -ℤ g) c.args.length_squared) first c.if-is_at_least.false
