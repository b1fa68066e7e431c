use Rattle.std.proofs.Common.{refl, ◌≡◌, ◌∙◌, ◌*◌, ◌^◌, ◌≤◌, arith, ℕ, ℤ, pos, ◌+ℤ◌, ◌-ℤ◌, ◌*ℤ◌, unsigned_abs, FitsSigned, w64, to_z, of_z}
use Rattle.std.specs.Int.{w128}
use Rattle.std.proofs.lemmas.Int.{ints, to_z-of_z}
use Rattle.apt_canon.proofs.Products.{kept}
use Rattle.apt_canon.proofs.circles.chord_share.Goals as goal

plain : (n : ℕ) → n ≤ 2 * 10 ^ 16 → to_z w128 n ≡ pos n
plain n h = omega (arith, ints)

share_size : (n : ℕ) (x y : ℤ) → n ≤ 2 * 10 ^ 16 → unsigned_abs x ≤ 10 ^ 16 → unsigned_abs y ≤ 10 ^ 16 → unsigned_abs (((pos n +ℤ x) -ℤ y) *ℤ pos (2 ^ 64)) ≤ 2 ^ 120
share_size n x y h p q = omega (arith, ints)

share_kept : (n : ℕ) (x y : ℤ) → n ≤ 2 * 10 ^ 16 → unsigned_abs x ≤ 10 ^ 16 → unsigned_abs y ≤ 10 ^ 16
    → to_z w128 (of_z w128 (to_z w128 (of_z w128 (to_z w128 (of_z w128 (to_z w128 n +ℤ to_z w128 (of_z w128 x))) -ℤ to_z w128 (of_z w128 y))) *ℤ pos (2 ^ 64)))
    ≡ ((pos n +ℤ x) -ℤ y) *ℤ pos (2 ^ 64)
share_kept n x y h p q =
    rw (
      plain n h,
      kept x (omega arith),
      kept y (omega arith),
      kept (pos n +ℤ x) (omega (arith, ints)),
      kept ((pos n +ℤ x) -ℤ y) (omega (arith, ints)),
      kept (((pos n +ℤ x) -ℤ y) *ℤ pos (2 ^ 64)) (omega (arith, share_size n x y h p q)),
    ) refl

pub returns-clause-value : goal.returns-clause-value
returns-clause-value c =
    let fits_r : FitsSigned w64 c.args.r = c.ranges.r in
    let fits_q : FitsSigned w64 c.args.q = c.ranges.q in
    let first : c.square_of.result ≡ c.args.r *ℤ c.args.r = simp to_z-of_z at c.square_of.ensures.value in
    let second : c.square_of-2.result ≡ c.args.q *ℤ c.args.q = simp to_z-of_z at c.square_of-2.ensures.value in
    share_kept c.args.square c.square_of.result c.square_of-2.result c.requires.square c.square_of.ensures.small c.square_of-2.ensures.small ∙ rw (first, second) refl

pub returns-clause-small : goal.returns-clause-small
returns-clause-small c =
    rw (share_kept c.args.square c.square_of.result c.square_of-2.result c.requires.square c.square_of.ensures.small c.square_of-2.ensures.small)
    (share_size c.args.square c.square_of.result c.square_of-2.result c.requires.square c.square_of.ensures.small c.square_of-2.ensures.small)
