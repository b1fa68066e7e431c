-- What holds between the steps of a run: where it goes on, the common names with their values, and the open calls.
use Rattle.std.specs.Prelude.{ℕ, Bool, false, List, [], ◌∷◌}
use Rattle.apt_scalar.specs.Meanings.{Names, Parameters}

-- an open call: the number of the statement to which its macro returns, and what the macro's parameters stand for
pub record Call : Type 0 where
  pub back : ℕ
  pub bound : Parameters

-- calls stand innermost first
pub record Stage : Type 0 where
  pub at : ℕ
  pub ended : Bool
  pub names : Names
  pub calls : List Call

-- a program begins at its first statement, with no names
abbrev pub first_stage : Stage
first_stage = record { at = 0; ended = false; names = []; calls = [] }

-- the parameters of the running macro
abbrev pub parameters : List Call → Parameters
parameters [] = []
parameters (c ∷ more) = c.bound
