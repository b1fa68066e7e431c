-- What a block says, beside what holds before it and behind it.
use Rattle.std.specs.Prelude.{◌≡◌, ℕ, ℤ, ◌+ℤ◌, List, [], ◌∷◌, map, Option, if◌then◌else◌}
use Rattle.std.specs.Option.{option_map, option_or}
use Rattle.apt_plane.specs.declared.figures.Pt.{Pt}
use Rattle.apt_block.specs.declared.block.BlockFault.{BlockFault}
use Rattle.apt_block.specs.declared.block.TapeWord.{TapeWord}
use Rattle.apt_block.specs.declared.block.TapeCause.TheVariants as causes
use Rattle.apt_block.specs.Block.{fault}
use Rattle.apt_control.specs.declared.held.Held.{Held}
use Rattle.apt_control.specs.declared.held.Said.{Said}
use Rattle.apt_control.specs.Control.{said_of, with_said, place_of, or_zero, move_acts}
use Rattle.apt_control.specs.Passing.{passing}
use Rattle.apt_circular.specs.declared.instruction.Instruction.{Instruction}
use Rattle.apt_circular.specs.ArcBlocks.{act_of, arc_of, is_arc, is_foreign_round, round_fault}
use Rattle.apt_circular.specs.declared.ArcAct.{ArcAct}
use Rattle.apt_circular.specs.declared.ArcAct.TheVariants as arcs

-- of a block that says this, where something holds
pub record IsInstruction (held : Held) (more : Said) (b : Instruction) : Type 0 where
  pub before : b.before ≡ held
  pub behind : b.behind ≡ with_said held more
  pub said : b.said ≡ passing more
  pub i : b.way.i ≡ more.i
  pub j : b.way.j ≡ more.j

-- a centre, by the way to it from where something holds; a part that is left out is 0
abbrev pub centre_by : Held → Option ℤ → Option ℤ → Pt
centre_by held i j = record { x = or_zero held.x +ℤ or_zero i; y = or_zero held.y +ℤ or_zero j }

-- the acts of a block between those before and those behind: an arc, or a straight move, or none
abbrev pub motion_acts : Held → Held → Said → List ArcAct
motion_acts held now said = if is_arc now said then act_of (arc_of held now said) ∷ [] else map arcs.Plain (move_acts now said)

-- the first fault of a block: a foreign word at its letter, or else what is wrong at its end
abbrev pub block_fault : Held → List ℕ → ℕ → List TapeWord → Option BlockFault
block_fault held letters at words =
    option_or (option_map (λ place. fault place causes.Foreign) (place_of (is_foreign_round (with_said held (said_of words)).motion) letters words))
    (option_map (fault at) (round_fault held (with_said held (said_of words)) (said_of words)))
