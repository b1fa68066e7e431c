-- What a block says to a control with drill cycles.
use Rattle.std.specs.Prelude.{◌≡◌, ◌<◌, ◌^◌, ℕ, unsigned_abs, true, false, List, Option, None, is_some, IfSome}
use Rattle.std.specs.Option.{option_map, option_or}
use Rattle.apt_block.specs.declared.block.BlockFault.{BlockFault}
use Rattle.apt_block.specs.declared.block.TapeWord.{TapeWord}
use Rattle.apt_block.specs.declared.block.TapeCause.TheVariants as causes
use Rattle.apt_block.specs.Block.{fault}
use Rattle.apt_control.specs.declared.held.Held.{Held}
use Rattle.apt_control.specs.declared.held.Said.{Said}
use Rattle.apt_control.specs.Control.{said_of, place_of}
use Rattle.apt_control.specs.Limits.{IsHeld}
use Rattle.apt_control.specs.Passing.{passing}
use Rattle.apt_circular.specs.Instructions.{IsInstruction}
use Rattle.apt_cycle.specs.declared.reading.CycleHeld.{CycleHeld}
use Rattle.apt_cycle.specs.declared.given.Given.{Given}
use Rattle.apt_cycle.specs.declared.block.CycleBlock.{CycleBlock}
use Rattle.apt_cycle.specs.CycleBlocks.{drills, is_foreign, cycle_fault}

-- coordinates, and the level above holes, of at most eight digits
pub record IsCycleHeld (h : CycleHeld) : Type 0 where
  pub held : IsHeld h.held
  pub clearance : IfSome h.clearance (λ v. unsigned_abs v < 10 ^ 8)

-- what words say of holes
pub record IsGiven (more : Said) (given : Given) : Type 0 where
  pub depth : given.depth ≡ more.z
  pub clearance : given.clearance ≡ more.r
  pub anew : given.anew ≡ is_some more.motion

-- a block that says this, where something holds, and behind which this motion code holds. Where G81 does not, it is an instruction to a control that cuts arcs, before
-- which the code holds already
pub record IsCycleBlock (held : Held) (motion : Option ℕ) (more : Said) (b : CycleBlock) : Type 0 where
  pub said : b.instruction.said ≡ passing more
  pub instruction : drills motion ≡ false → IsInstruction (record held { motion = motion }) (record more { motion = None }) b.instruction
  pub given : drills motion ≡ true → IsGiven more b.given

-- the first fault of a block: a foreign word at its letter, or else what is wrong at its end
abbrev pub block_fault : CycleHeld → CycleHeld → List ℕ → ℕ → List TapeWord → Option BlockFault
block_fault h now letters at words =
    option_or (option_map (λ place. fault place causes.Foreign) (place_of (is_foreign now.circles now.held.motion) letters words))
    (option_map (fault at) (cycle_fault h now (said_of words)))
