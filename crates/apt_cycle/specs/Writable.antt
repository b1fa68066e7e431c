-- Acts that can be written on a machine with drill cycles, and how their blocks are read.
use Rattle.std.specs.Prelude.{◌≡◌, ℕ, Bool, true, List, [], ◌∷◌, Result, Ok, Err}
use Rattle.apt_block.specs.declared.block.BlockFault.{BlockFault}
use Rattle.apt_block.specs.declared.block.TapeWord.{TapeWord}
use Rattle.apt_control.specs.declared.held.Held.{Held}
use Rattle.apt_control.specs.Control.{Meaning}
use Rattle.apt_circular.specs.declared.ArcAct.{ArcAct}
use Rattle.apt_circular.specs.declared.ArcAct.TheVariants as arcs
use Rattle.apt_cycle.specs.declared.reading.CycleHeld.{CycleHeld}
use Rattle.apt_cycle.specs.CycleBlocks.{motion_behind, cycle_meaning}

-- an arc only where the machine cuts circles
abbrev pub IsTaken : Bool → ArcAct → Type 0
IsTaken circles (arcs.Plain act) = Unit {0}
IsTaken circles (arcs.Arc turn x y z cx cy feed) = circles ≡ true

abbrev pub AreTaken : Bool → List ArcAct → Type 0
AreTaken circles [] = Unit {0}
AreTaken circles (act ∷ more) = IsTaken circles act × AreTaken circles more

-- ---- what a control that holds what the writer holds makes of a block

-- a block means these acts, and behind it this holds, beside the depth and the clearance
abbrev pub IsMeant : Held → List ArcAct → Result (Meaning CycleHeld ArcAct) BlockFault → Type 0
IsMeant now done (Ok m) = (m.held.held ≡ now) × (m.acts ≡ done)
IsMeant now done (Err f) = ⊥

-- it is read as acts, whatever the depth and the clearance before, and no G80 is held behind it
pub record IsReadAs (circles : Bool) (held : Held) (words : List TapeWord) (now : Held) (done : List ArcAct) : Type 0 where
  pub means : (h : CycleHeld) → h.held ≡ held → h.circles ≡ circles → (letters : List ℕ) (at : ℕ) → IsMeant now done (cycle_meaning h letters at words)
  pub kept : motion_behind now.motion ≡ now.motion
