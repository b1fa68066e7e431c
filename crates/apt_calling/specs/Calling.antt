-- What a caller of `apt` may conclude where a part was compiled.
use Rattle.std.specs.Prelude.{ℕ, List, [], ◌∷◌, Some}
use Rattle.apt_shelf.specs.Told.{Contents}
use Rattle.apt_core.specs.Words.{FourNames}
use Rattle.apt_core.specs.Inputs.{part_inputs, ReadsAll}
use Rattle.apt_core.specs.Outputs.{Output}
use Rattle.apt_core.specs.Promise.{IsCompiled}

-- PART and MACHINE held a part and a machine table; CL and TAPE hold a CL file and a tape that are right for them, and every other name what it held
pub record HasCompiled (n : FourNames) (before after : Contents) : Type 0 where
  pub text : List ℕ
  pub table : List ℕ
  pub reads : ReadsAll (Some before) (part_inputs n) (text ∷ table ∷ [])
  pub output : Output
  pub compiled : IsCompiled n text table output before after
