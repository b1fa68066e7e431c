-- How far the points of a pattern lie.
use Rattle.std.proofs.Common.{◌≢◌, ℕ, ◌*◌, ◌≤◌, ◌<◌, ℤ, pos, arith}
use Rattle.std.specs.Prelude.{◌-ℤ◌, ◌*ℤ◌, unsigned_abs}
use Rattle.std.proofs.lemmas.Int.{ints}
use Rattle.std.proofs.Math.Nat.{mul-le-mul_left}
use Rattle.apt_num.specs.Near.{near}
use Rattle.apt_num.proofs.Squares.{size_mul}
use Rattle.apt_num.proofs.Nearest.{near_bound}
use Rattle.apt_words.specs.declared.Units.{Units}
use Rattle.apt_words.specs.declared.Units.TheVariants.{Inch, Mm}
use Rattle.apt_scalar.specs.Scalars.{IsScalar}
use Rattle.apt_scalar.specs.StepScalars.{HasScalars}
use Rattle.apt_records.specs.declared.record.Position.{Position}
use Rattle.apt_pattern.specs.Patterns.{along, scalar_of, goto}

some_last : (last : ℕ) → 0 < last → pos last ≢ pos 0
some_last last h e = absurd (omega (arith, ints, h, e))

pub way_far : (way : ℤ) (k last : ℕ) → unsigned_abs way ≤ 100000000 → k ≤ last → unsigned_abs (way *ℤ pos k) ≤ 100000000 * last
way_far way k last small h = omega (arith, size_mul way (pos k), mul-le-mul_left k small, mul-le-mul_left 100000000 h)

pub part_bound : (n : ℤ) (last : ℕ) → 0 < last → unsigned_abs n ≤ 100000000 * last → unsigned_abs (near n (pos last)) ≤ 100000000
part_bound n last some far = near_bound n (pos last) 100000000 (some_last last some) far

pub along_bound : (p q : ℤ) (last k : ℕ) → unsigned_abs p ≤ 50000000 → unsigned_abs q ≤ 50000000 → 0 < last → k ≤ last → unsigned_abs (along p q last k) ≤ 150000000
along_bound p q last k small_p small_q some h =
    let far = way_far (q -ℤ p) k last (omega (arith, ints, small_p, small_q)) h in
    omega (arith, ints, part_bound ((q -ℤ p) *ℤ pos k) last some far, small_p)

-- ---- the scalars of GOTO a point

inch_scalar : (g : ℤ) → unsigned_abs g ≤ 200000000 → IsScalar (scalar_of Inch g)
inch_scalar g h = omega (arith, ints, h, size_mul g (pos 10))

mm_scalar : (g : ℤ) → unsigned_abs g ≤ 200000000 → IsScalar (scalar_of Mm g)
mm_scalar g h = omega (arith, ints, h, size_mul g (pos 100))

pub scalar_in : (units : Units) (g : ℤ) → unsigned_abs g ≤ 200000000 → IsScalar (scalar_of units g)
scalar_in Inch g h = inch_scalar g h
scalar_in Mm g h = mm_scalar g h

pub goto_scalars : (units : Units) (p : Position) → unsigned_abs p.xy.x ≤ 200000000 → unsigned_abs p.xy.y ≤ 200000000 → unsigned_abs p.z ≤ 200000000 → HasScalars (goto units p)
goto_scalars units p x y z = (scalar_in units p.xy.x x, (scalar_in units p.xy.y y, (scalar_in units p.z z, tt)))
