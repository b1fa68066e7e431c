-- What the two tests of a strip are given.
use Rattle.std.proofs.Common.{refl, ◌≡◌, ◌*◌, ◌^◌, ◌≤◌, arith, Bool, true, false, ◌&&◌, ℤ, pos, neg_ℤ, ◌-ℤ◌, unsigned_abs, to_z, of_z, w64}
use Rattle.std.specs.Int.{w128}
use Rattle.std.proofs.lemmas.Int.{ints}

pub turned_kept : (k : ℤ) → unsigned_abs k ≤ 2 * 10 ^ 16 → to_z w128 (of_z w128 (pos 0 -ℤ to_z w128 (of_z w128 k))) ≡ neg_ℤ k
turned_kept k small = omega (arith, ints)

pub low_kept : (h g : ℤ) → unsigned_abs h ≤ 10 ^ 8 → unsigned_abs g ≤ 100 → to_z w64 (of_z w64 (to_z w64 (of_z w64 h) -ℤ to_z w64 (of_z w64 g))) ≡ h -ℤ g
low_kept h g small few = omega (arith, ints)

pub high_kept : (h g : ℤ) → unsigned_abs h ≤ 10 ^ 8 → unsigned_abs g ≤ 100
    → to_z w64 (of_z w64 (to_z w64 (of_z w64 (pos 0 -ℤ to_z w64 (of_z w64 h))) -ℤ to_z w64 (of_z w64 g))) ≡ neg_ℤ h -ℤ g
high_kept h g small few = omega (arith, ints)

-- where the first test holds the second decides, and else the first does
pub second_decides : (r s a b : Bool) → r ≡ a → s ≡ b → r ≡ true → s ≡ (a && b)
second_decides r s a b e f is = rw (← e, is) f

pub first_decides : (r a b : Bool) → r ≡ a → r ≡ false → r ≡ (a && b)
first_decides r a b e is = rw (← e, is) refl
