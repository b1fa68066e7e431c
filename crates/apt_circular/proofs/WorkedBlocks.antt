-- Worked examples: the block of an arc, and what circular blocks mean.
use Rattle.std.proofs.Common.{refl, ◌≡◌, ℤ, pos, negsuc, Bool, List, [], ◌∷◌, Some, None, true, false}
use Rattle.std.specs.Prelude.{Result, Ok, Err}
use Rattle.apt_words.specs.declared.Command.TheVariants as commands
use Rattle.apt_words.specs.declared.Units.TheVariants.{Inch}
use Rattle.apt_words.specs.declared.Cool.TheVariants.{Flood}
use Rattle.apt_tapecode.specs.declared.Code.{Code}
use Rattle.apt_block.specs.declared.block.TapeWord.{TapeWord}
use Rattle.apt_block.specs.declared.block.BlockFault.{BlockFault}
use Rattle.apt_block.specs.declared.block.TapeCause.TheVariants as causes
use Rattle.apt_block.specs.Block.{fault, tape_word, letter_x, letter_y, letter_z, letter_i, letter_j, letter_r, letter_f, letter_s}
use Rattle.apt_control.specs.declared.Act.TheVariants as acts
use Rattle.apt_control.specs.declared.held.Held.{Held}
use Rattle.apt_machine.specs.declared.machine.Machine.{Machine}
use Rattle.apt_control.specs.Control.{Meaning}
use Rattle.apt_post.specs.Blocks.{g, m}
use Rattle.apt_circular.specs.declared.ArcAct.{ArcAct}
use Rattle.apt_circular.specs.declared.ArcAct.TheVariants.{Plain}
use Rattle.apt_circular.specs.declared.arc.Arc.{Arc}
use Rattle.apt_circular.specs.ArcBlocks.{act_of, arc_meaning, written_arc}

abbrev machine : Code → Bool → Bool → Bool → Machine
machine code changed incremental short = record { code = code; seq = 1; feedmax = 9999; spinmax = 9999; toolmax = 99; changed = changed; incremental = incremental; short = short; circles = true; cycles = false }

abbrev low : ℤ
low = negsuc 224999

abbrev held : Held
held = record { motion = Some 1; units = Some Inch; incremental = false; feed = Some (pos 100); x = Some (pos 0); y = Some (pos 225000); z = Some (pos 0) }

abbrev half : Arc
half = record { turn = negsuc 0; x = pos 0; y = low; z = pos 0; cx = pos 0; cy = pos 0; feed = pos 100 }

abbrev there : Held
there = record held { motion = Some 2; y = Some low }

row_whole : (code : Code) → written_arc (machine code false false false) held half
    ≡ g 2 ∷ tape_word letter_x (pos 0) ∷ tape_word letter_y low ∷ tape_word letter_z (pos 0) ∷ tape_word letter_i (pos 0) ∷ tape_word letter_j low ∷ tape_word letter_f (pos 100) ∷ []
row_whole code = refl

-- where only what changes is written, X, I and J stand all the same
row_changed : (code : Code) → written_arc (machine code true false false) held half
    ≡ g 2 ∷ tape_word letter_x (pos 0) ∷ tape_word letter_y low ∷ tape_word letter_i (pos 0) ∷ tape_word letter_j low ∷ []
row_changed code = refl

-- by ways
row_ways : (code : Code) → written_arc (machine code false true true) held half
    ≡ g 91 ∷ g 2 ∷ tape_word letter_x (pos 0) ∷ tape_word letter_y (negsuc 449999) ∷ tape_word letter_z (pos 0) ∷ tape_word letter_i (pos 0) ∷ tape_word letter_j low ∷ tape_word letter_f (pos 100) ∷ []
row_ways code = refl

-- a block whose words' letters are at places 10, 20, 30, .., its end at 90
abbrev means : Held → List TapeWord → Result (Meaning Held ArcAct) BlockFault
means held words = arc_meaning held (10 ∷ 20 ∷ 30 ∷ 40 ∷ 50 ∷ 60 ∷ []) 90 words

abbrev block : List TapeWord → List TapeWord
block more = g 2 ∷ tape_word letter_x (pos 0) ∷ tape_word letter_y low ∷ more

read_half : means held (block (tape_word letter_j low ∷ [])) ≡ Ok (record { held = there; acts = act_of half ∷ []; ends = false })
read_half = refl

no_centre : means held (block []) ≡ Err (fault 90 causes.BadArc)
no_centre = refl

-- the two radii need not be equal
off_centre : means held (block (tape_word letter_j (negsuc 223999) ∷ [])) ≡ Ok (record { held = there; acts = act_of (record half { cy = pos 1000 }) ∷ []; ends = false })
off_centre = refl

-- a way to a centre without an end is an arc to where the tool stands, which is none
no_end : means held (g 2 ∷ tape_word letter_j low ∷ []) ≡ Err (fault 90 causes.BadArc)
no_end = refl

code_alone : means held (g 2 ∷ []) ≡ Ok (record { held = record held { motion = Some 2 }; acts = []; ends = false })
code_alone = refl

-- the height may not change
rises : means held (block (tape_word letter_z (pos 1) ∷ tape_word letter_j low ∷ [])) ≡ Err (fault 90 causes.BadArc)
rises = refl

-- a limit comes before, and a speed before it
far : means held (g 2 ∷ tape_word letter_x (pos 50000001) ∷ []) ≡ Err (fault 90 causes.Limit)
far = refl

mixed : means held (g 2 ∷ tape_word letter_x (pos 50000001) ∷ tape_word letter_s (pos 100) ∷ []) ≡ Err (fault 90 causes.BadMix)
mixed = refl

-- a position that the block itself gives is no old one
no_position : means (record held { z = None }) (block (tape_word letter_z (pos 0) ∷ tape_word letter_j low ∷ [])) ≡ Err (fault 90 causes.NoPosition)
no_position = refl

no_feed : means (record held { feed = None }) (block (tape_word letter_j low ∷ [])) ≡ Err (fault 90 causes.NoFeed)
no_feed = refl

-- foreign words, before all other faults
centre_of_a_cut : means held (g 1 ∷ tape_word letter_x (pos 50000001) ∷ tape_word letter_i (pos 5) ∷ []) ≡ Err (fault 30 causes.Foreign)
centre_of_a_cut = refl

upper_level : means held (g 3 ∷ tape_word letter_i (pos 5) ∷ tape_word letter_r (pos 5) ∷ []) ≡ Err (fault 30 causes.Foreign)
upper_level = refl

drill : means held (g 81 ∷ []) ≡ Err (fault 10 causes.Foreign)
drill = refl

-- behind an arc a block without a coordinate is plain
coolant : means there (m 8 ∷ []) ≡ Ok (record { held = there; acts = Plain (acts.Do (commands.Coolant Flood)) ∷ []; ends = false })
coolant = refl

-- and one with a coordinate is an arc
still_round : means there (tape_word letter_y (pos 225000) ∷ tape_word letter_j (pos 225000) ∷ []) ≡ Ok (record { held = record there { y = Some (pos 225000) }; acts = act_of (record half { y = pos 225000 }) ∷ []; ends = false })
still_round = refl
