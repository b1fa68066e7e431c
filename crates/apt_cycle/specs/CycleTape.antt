-- The tape of acts on a machine with drill cycles: a block for each hole and for each other act, from what the one before it left.
use Rattle.std.specs.Prelude.{ℕ, Bool, true, false, List, [], ◌∷◌, ◌++◌, map, Option, Some, None}
use Rattle.std.specs.List.{flat_map}
use Rattle.apt_tapecode.specs.Tapecode.{byte_of}
use Rattle.apt_machine.specs.declared.machine.Machine.{Machine}
use Rattle.apt_block.specs.declared.block.TapeWord.{TapeWord}
use Rattle.apt_block.specs.Block.{spelling}
use Rattle.apt_control.specs.declared.held.Held.{Held}
use Rattle.apt_control.specs.Control.{nothing_held}
use Rattle.apt_post.specs.Blocks.{g, text_of}
use Rattle.apt_post.specs.Posting.{Posting, next_number, behind_told}
use Rattle.apt_circular.specs.declared.ArcAct.{ArcAct}
use Rattle.apt_circular.specs.ArcTape.{written_at, behind_act}
use Rattle.apt_cycle.specs.declared.hole.Hole.{Hole}
use Rattle.apt_cycle.specs.CycleBlocks.{drills}
use Rattle.apt_cycle.specs.Holes.{as_hole, front_hole, hole_words, behind_hole}

-- ---- the blocks of acts

-- a block with some words, behind which this holds, and those of what comes later
abbrev pub block_then : Posting → List TapeWord → Held → (Posting → List (List TapeWord)) → List (List TapeWord)
block_then p words now later = (next_number p ++ words) ∷ later (behind_told p now)

-- where no motion code holds any longer
abbrev pub closed : Held → Held
closed held = record held { motion = None }

-- an act by itself
abbrev pub single : Posting → ArcAct → (Posting → List (List TapeWord)) → List (List TapeWord)
single p act later = block_then p (written_at p.machine p.held act) (behind_act p.machine.incremental p.held act) later

-- behind the last hole of a run stands G80
abbrev pub single_behind : Bool → Posting → ArcAct → (Posting → List (List TapeWord)) → List (List TapeWord)
single_behind false p act later = single p act later
single_behind true p act later = block_then p (g 80 ∷ []) (closed p.held) (λ now. single now act later)

-- a hole, or an act by itself
abbrev pub hole_or : Option Hole → Posting → ArcAct → (Posting → List (List TapeWord)) → (Posting → List (List TapeWord)) → List (List TapeWord)
hole_or (Some h) p act behind later = block_then p (hole_words p.held h) (behind_hole p.held h) behind
hole_or None p act behind later = single_behind (drills p.held.motion) p act later

-- the blocks of acts, where a writer stands
abbrev pub blocks_from : Posting → List ArcAct → List (List TapeWord)
blocks_from p [] = []
blocks_from p (a ∷ []) = hole_or None p a (λ now. []) (λ now. [])
blocks_from p (a ∷ b ∷ []) = hole_or None p a (λ now. []) (λ now. blocks_from now (b ∷ []))
blocks_from p (a ∷ b ∷ c ∷ more) = hole_or (as_hole a b c) p a (λ now. blocks_from now more) (λ now. blocks_from now (b ∷ c ∷ more))

-- ---- a tape

-- where a writer stands before the first block
abbrev pub at_start : Machine → Posting
at_start machine = record { machine = machine; steps = 0; held = nothing_held }

-- the characters of a tape
abbrev pub cycle_text : Machine → List ArcAct → List ℕ
cycle_text machine done = text_of machine.short (blocks_from (at_start machine) done)

-- its bytes
abbrev pub cycle_tape : Machine → List ArcAct → List ℕ
cycle_tape machine done = map (byte_of machine.code) (cycle_text machine done)

-- ---- a writer that makes one block after the other

-- for how many of the acts that are left the next block stands, its words, and what holds behind it
pub record Next : Type 0 where
  pub count : ℕ
  pub words : List TapeWord
  pub held : Held

abbrev pub next_by : Option Hole → Bool → Posting → ArcAct → Next
next_by (Some h) running p act = record { count = 3; words = hole_words p.held h; held = behind_hole p.held h }
next_by None true p act = record { count = 0; words = g 80 ∷ []; held = closed p.held }
next_by None false p act = record { count = 1; words = written_at p.machine p.held act; held = behind_act p.machine.incremental p.held act }

-- the next block of acts that are left, of which the first three decide it: a hole, the end of a run of holes, or an act by itself
abbrev pub next : Posting → List ArcAct → Next
next p [] = record { count = 0; words = []; held = p.held }
next p (a ∷ more) = next_by (front_hole (a ∷ more)) (drills p.held.motion) p a

abbrev pub next_block : Posting → List ArcAct → List TapeWord
next_block p acts = next_number p ++ (next p acts).words

-- where the writer stands then
abbrev pub behind_next : Posting → List ArcAct → Posting
behind_next p acts = behind_told p (next p acts).held

-- the bytes of the next block
abbrev pub next_bytes : Posting → List ArcAct → List ℕ
next_bytes p acts = map (byte_of p.machine.code) (spelling p.machine.short (next_block p acts))

-- the characters of the blocks of acts that are left, and their bytes
abbrev pub text_left : Posting → List ArcAct → List ℕ
text_left p acts = flat_map (spelling p.machine.short) (blocks_from p acts)

abbrev pub posted : Posting → List ArcAct → List ℕ
posted p acts = map (byte_of p.machine.code) (text_left p acts)
