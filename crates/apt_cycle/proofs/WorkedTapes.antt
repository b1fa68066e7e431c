-- Tapes of acts with holes among them, which the checker writes.
use Rattle.std.specs.Prelude.{◌≡◌, ℕ, ℤ, pos, negsuc, true, false, List, [], ◌∷◌, ◌++◌, codes}
use Rattle.std.proofs.Common.{refl}
use Rattle.apt_words.specs.declared.Command.TheVariants as commands
use Rattle.apt_words.specs.declared.Units.TheVariants.{Inch}
use Rattle.apt_tapecode.specs.declared.Code.TheVariants.{Rs358}
use Rattle.apt_machine.specs.declared.machine.Machine.{Machine}
use Rattle.apt_control.specs.declared.Act.TheVariants as acts
use Rattle.apt_circular.specs.declared.ArcAct.{ArcAct}
use Rattle.apt_circular.specs.declared.ArcAct.TheVariants.{Plain}
use Rattle.apt_cycle.specs.Holes.{hole_of}
use Rattle.apt_cycle.specs.CycleTape.{cycle_text}

-- all digits and all words, or what changes alone, by ways, and without zeros in front
abbrev whole : Machine
whole = record { code = Rs358; seq = 1; feedmax = 9999; spinmax = 9999; toolmax = 99; changed = false; incremental = false; short = false; circles = false; cycles = true }

abbrev brief : Machine
brief = record whole { changed = true; incremental = true; short = true }

abbrev program : List ArcAct → List ArcAct
program more = Plain (acts.Units Inch) ∷ more ++ Plain acts.End ∷ []

-- a quarter of an inch down, from a tenth above and back to there
abbrev hole : ℕ → List ArcAct
hole x = hole_of (record { x = pos x; y = pos 0; bottom = negsuc 24999; top = pos 10000; feed = pos 50 })

abbrev four : List ArcAct
four = program (hole 0 ++ hole 100000 ++ hole 200000 ++ hole 300000)

-- a block for each hole, and G80 behind the last
four_holes : cycle_text whole four
    ≡ codes "%\nN0001G70G90G94\nN0002G81X+00000000Y+00000000Z-00025000R+00010000F0050\nN0003G81X+00100000Y+00000000Z-00025000R+00010000F0050\nN0004G81X+00200000Y+00000000Z-00025000R+00010000F0050\nN0005G81X+00300000Y+00000000Z-00025000R+00010000F0050\nN0006G80\nN0007M02\n"
four_holes = refl

-- all words of a hole are always there
four_brief : cycle_text brief four
    ≡ codes "%\nN1G70G90G94\nN2G81X+0Y+0Z-25000R+10000F50\nN3G81X+100000Y+0Z-25000R+10000F50\nN4G81X+200000Y+0Z-25000R+10000F50\nN5G81X+300000Y+0Z-25000R+10000F50\nN6G80\nN7M02\n"
four_brief = refl

-- a move
abbrev cut : ℕ → ℤ → ArcAct
cut x z = Plain (acts.Cut (pos x) (pos 0) z (pos 50))

-- between two holes, and behind them
moves_between : cycle_text whole (program (hole 100000 ++ cut 100000 (pos 110000) ∷ hole 200000 ++ cut 300000 (pos 0) ∷ []))
    ≡ codes "%\nN0001G70G90G94\nN0002G81X+00100000Y+00000000Z-00025000R+00010000F0050\nN0003G80\nN0004G01X+00100000Y+00000000Z+00110000F0050\nN0005G81X+00200000Y+00000000Z-00025000R+00010000F0050\nN0006G80\nN0007G01X+00300000Y+00000000Z+00000000F0050\nN0008M02\n"
moves_between = refl

-- where only what changes is written, a move behind a hole starts from where the tool stands
brief_between : cycle_text brief (program (hole 100000 ++ cut 100000 (pos 110000) ∷ hole 200000))
    ≡ codes "%\nN1G70G90G94\nN2G81X+100000Y+0Z-25000R+10000F50\nN3G80\nN4G91G01X+0Z+100000\nN5G90G81X+200000Y+0Z-25000R+10000F50\nN6G80\nN7M02\n"
brief_between = refl

-- a stop between two holes
stop_between : cycle_text brief (program (hole 0 ++ Plain (acts.Do commands.Stop) ∷ hole 100000))
    ≡ codes "%\nN1G70G90G94\nN2G81X+0Y+0Z-25000R+10000F50\nN3G80\nN4M00\nN5G81X+100000Y+0Z-25000R+10000F50\nN6G80\nN7M02\n"
stop_between = refl

-- three moves of this form are a hole, however they were programmed
abbrev by_hand : ℤ → List ArcAct
by_hand bottom = program (Plain (acts.Rapid (pos 100000) (pos 100000) (pos 100000)) ∷ Plain (acts.Cut (pos 100000) (pos 100000) bottom (pos 50)) ∷ Plain (acts.Rapid (pos 100000) (pos 100000) (pos 100000)) ∷ [])

made_by_hand : cycle_text whole (by_hand (negsuc 99999)) ≡ codes "%\nN0001G70G90G94\nN0002G81X+00100000Y+00100000Z-00100000R+00100000F0050\nN0003G80\nN0004M02\n"
made_by_hand = refl

-- no hole has its bottom where it begins
flat : cycle_text brief (by_hand (pos 100000)) ≡ codes "%\nN1G70G90G94\nN2G00X+100000Y+100000Z+100000\nN3G91G01X+0F50\nN4G00X+0\nN5M02\n"
flat = refl

-- nor are three moves one whose last is no way back
no_way_back : cycle_text brief (program (Plain (acts.Rapid (pos 1) (pos 0) (pos 5)) ∷ Plain (acts.Cut (pos 1) (pos 0) (pos 2) (pos 9)) ∷ Plain (acts.Rapid (pos 1) (pos 0) (pos 6)) ∷ []))
    ≡ codes "%\nN1G70G90G94\nN2G00X+1Y+0Z+5\nN3G91G01X+0Z-3F9\nN4G00X+0Z+4\nN5M02\n"
no_way_back = refl
