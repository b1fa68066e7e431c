-- Numbers as bytes.
use Rattle.std.proofs.Common.{◌≡◌, ◌<◌, ◌^◌, arith}
use Rattle.std.specs.Prelude.{ℤ, pos, negsuc}
use Rattle.std.specs.Int.{w64, to_le_bytes, from_le_bytes, cast_signed, cast_unsigned}
use Rattle.std.specs.Int.RustNames.{FitsSigned}
use Rattle.std.proofs.lemmas.Int.{to_z-of_z}
use Rattle.std.proofs.lemmas.Nat.{from_le_bytes-to_le_bytes_8}

pub cast_fits : (v : ℤ) → FitsSigned w64 v → cast_unsigned w64 v < 2 ^ 64
cast_fits (pos n) fits = omega (arith, fits.sfits)
cast_fits (negsuc n) fits = omega arith

pub number_again : (v : ℤ) → FitsSigned w64 v → cast_signed w64 (from_le_bytes w64 (to_le_bytes w64 (cast_unsigned w64 v))) ≡ v
number_again v fits = rw (from_le_bytes-to_le_bytes_8 (cast_unsigned w64 v) (cast_fits v fits)) (to_z-of_z w64 v fits)
