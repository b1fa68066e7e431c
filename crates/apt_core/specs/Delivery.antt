-- The writing of a CL file and of a tape.
use Rattle.std.specs.Prelude.{◌≡◌, ◌⊎◌, ℕ, ◌≤◌, List, length, take, Option, Some, None}
use Rattle.std.specs.FinMap.{insert}
use Rattle.apt_shelf.specs.Told.{Contents}
use Rattle.apt_core.specs.Outputs.{Output}

-- the contents with both files written
abbrev pub with_output : List ℕ → List ℕ → Output → Contents → Contents
with_output cl tape o m = insert (insert m cl o.cl) tape o.tape

-- a front part of the CL file is written, or all of it, and nothing of the tape; or all of the CL file and a front part of the tape, or all of it
abbrev pub IsBegun : List ℕ → List ℕ → Output → Contents → Contents → Type 0
IsBegun cl tape o m now =
    ((k : ℕ) × (k ≤ length o.cl) × (now ≡ insert m cl (take k o.cl)))
    ⊎ ((k : ℕ) × (k ≤ length o.tape) × (now ≡ insert (insert m cl o.cl) tape (take k o.tape)))

-- a front part of both, or nothing
abbrev pub WritesFront : List ℕ → List ℕ → Output → Option Contents → Option Contents → Type 0
WritesFront cl tape o None now = Unit {0}
WritesFront cl tape o (Some m) None = ⊥
WritesFront cl tape o (Some m) (Some now) = (now ≡ m) ⊎ IsBegun cl tape o m now
