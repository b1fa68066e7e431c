-- A number of grid units in millionths is that number of grid units again.
use Rattle.std.proofs.Common.{◌≡◌, ◌≢◌, ℤ, pos, arith}
use Rattle.std.specs.Prelude.{◌*ℤ◌}
use Rattle.std.proofs.lemmas.Int.{ints}
use Rattle.apt_num.proofs.Nearest.{near_remainder}
use Rattle.apt_words.specs.declared.Units.{Units}
use Rattle.apt_words.specs.declared.Units.TheVariants.{Inch, Mm}
use Rattle.apt_scalar.specs.Scalars.{grid_units}
use Rattle.apt_pattern.specs.Patterns.{scalar_of}

ten : pos 10 ≢ pos 0
ten e = cc

hundred : pos 100 ≢ pos 0
hundred e = cc

pub grid_of_scalar : (units : Units) (g : ℤ) → grid_units units (scalar_of units g) ≡ g
grid_of_scalar Inch g =
    let r = near_remainder (g *ℤ pos 10) (pos 10) ten in
    omega (arith, ints, r.1, r.2)
grid_of_scalar Mm g =
    let r = near_remainder (g *ℤ pos 100) (pos 100) hundred in
    omega (arith, ints, r.1, r.2)
