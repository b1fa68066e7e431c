-- Runs over small tapes of a control with drill cycles, which the checker computes.
use Rattle.std.specs.Prelude.{◌≡◌, ℕ, ℤ, pos, negsuc, Bool, true, false, List, [], ◌∷◌, ◌++◌, Ok, Err, Result, map, codes}
use Rattle.std.proofs.Common.{refl}
use Rattle.apt_words.specs.declared.Command.TheVariants as commands
use Rattle.apt_words.specs.declared.Units.TheVariants.{Inch}
use Rattle.apt_words.specs.declared.Turn.TheVariants.{Cw}
use Rattle.apt_words.specs.declared.Cool.TheVariants as coolants
use Rattle.apt_tapecode.specs.declared.Code.TheVariants.{Rs358}
use Rattle.apt_tapecode.specs.Tapecode.{byte_of}
use Rattle.apt_block.specs.declared.block.BlockFault.{BlockFault}
use Rattle.apt_block.specs.declared.block.TapeCause.TheVariants as causes
use Rattle.apt_block.specs.Block.{fault}
use Rattle.apt_control.specs.declared.Act.TheVariants as acts
use Rattle.apt_circular.specs.declared.ArcAct.{ArcAct}
use Rattle.apt_circular.specs.declared.ArcAct.TheVariants.{Plain, Arc}
use Rattle.apt_cycle.specs.Holes.{hole_of}
use Rattle.apt_cycle.specs.CycleBlocks.{cycle_run}

-- a tape of these blocks, between that of the units and the end
abbrev run_on : Bool → List ℕ → Result (List ArcAct) BlockFault
run_on circles text = cycle_run circles Rs358 (map (byte_of Rs358) (codes "%\nG70\n" ++ text ++ codes "M02\n"))

abbrev run_of : List ℕ → Result (List ArcAct) BlockFault
run_of text = run_on true text

abbrev to_the_end : List ArcAct → Result (List ArcAct) BlockFault
to_the_end more = Ok (Plain (acts.Units Inch) ∷ more ++ Plain acts.End ∷ [])

-- down to a depth, from 5 and back to there, at the feed 9
abbrev hole : ℕ → ℕ → ℤ → List ArcAct
hole x y bottom = hole_of (record { x = pos x; y = pos y; bottom = bottom; top = pos 5; feed = pos 9 })

abbrev five_down : ℤ
five_down = negsuc 4

-- G81 holds, and so do its Z and its R, but each may be given anew
three_holes : run_of (codes "G81X1Y2Z-5R5F9\nX3\nY4Z-6\nG80\n") ≡ to_the_end (hole 1 2 five_down ++ hole 3 2 five_down ++ hole 3 4 (negsuc 5))
three_holes = refl

-- another motion code ends it too; the tool stands at the R
then_a_cut : run_of (codes "G81X1Y2Z-5R5F9\nG01X7\n") ≡ to_the_end (hole 1 2 five_down ++ Plain (acts.Cut (pos 7) (pos 2) (pos 5) (pos 9)) ∷ [])
then_a_cut = refl

-- a block without X and Y is no hole
spindle_and_coolant : run_of (codes "G81X1Y2Z-5R5F9S5M03\nM08\nX9M09\n")
    ≡ to_the_end (Plain (acts.Do (commands.Spindle Cw (pos 5))) ∷ hole 1 2 five_down ++ Plain (acts.Do (commands.Coolant coolants.Flood)) ∷ hole 9 2 five_down ++ Plain (acts.Do (commands.Coolant coolants.Off)) ∷ [])
spindle_and_coolant = refl

-- a new G81 forgets Z and R
forgotten : run_of (codes "G81X1Y2Z-5R5F9\nG81X3\n") ≡ Err (fault 26 causes.BadCycle)
forgotten = refl

by_ways : run_of (codes "G81X1Y2Z-5R5F9\nG91X3\n") ≡ Err (fault 26 causes.BadCycle)
by_ways = refl

no_motion : run_of (codes "G81X1Y2Z-5R5F9\nG80X1\n") ≡ Err (fault 26 causes.NoMode)
no_motion = refl

no_old_position : run_of (codes "G81X1Z-5R5F9\n") ≡ Err (fault 18 causes.NoPosition)
no_old_position = refl

not_below : run_of (codes "G81X1Y2Z5R5F9\n") ≡ Err (fault 19 causes.BadCycle)
not_below = refl

no_feed : run_of (codes "G81X1Y2Z-5R5\n") ≡ Err (fault 18 causes.NoFeed)
no_feed = refl

no_upper_level : run_of (codes "G81X1Y2Z-5F9\n") ≡ Err (fault 18 causes.BadCycle)
no_upper_level = refl

-- the limit comes before what is wrong with the hole, and a mix before it
limit : run_of (codes "G00X50000000Y0Z0\nG91\nG81X1\n") ≡ Err (fault 32 causes.Limit)
limit = refl

mixed : run_of (codes "G81X1S5\n") ≡ Err (fault 13 causes.BadMix)
mixed = refl

-- a depth alone is wrong even before any units
depth_alone : cycle_run false Rs358 (map (byte_of Rs358) (codes "%\nG81Z-5\nM02\n")) ≡ Err (fault 8 causes.BadCycle)
depth_alone = refl

no_units : cycle_run false Rs358 (map (byte_of Rs358) (codes "%\nG81X1\nM02\n")) ≡ Err (fault 7 causes.NoUnits)
no_units = refl

-- ---- foreign words, at their letters

level_of_a_cut : run_of (codes "G01X1Y1Z1R1F1\n") ≡ Err (fault 15 causes.Foreign)
level_of_a_cut = refl

level_behind_a_cycle : run_of (codes "G81X1Y2Z-5R5F9\nG80R5\n") ≡ Err (fault 24 causes.Foreign)
level_behind_a_cycle = refl

centre_of_a_hole : run_of (codes "G81X1Y2Z-5I5R5F9\n") ≡ Err (fault 16 causes.Foreign)
centre_of_a_hole = refl

-- arcs, where the machine cuts circles and where it does not
an_arc : run_of (codes "G00X-1Y0Z0\nG02X1I1F9\n") ≡ to_the_end (Plain (acts.Rapid (negsuc 0) (pos 0) (pos 0)) ∷ Arc (negsuc 0) (pos 1) (pos 0) (pos 0) (pos 0) (pos 0) (pos 9) ∷ [])
an_arc = refl

no_arcs : run_on false (codes "G00X-1Y0Z0\nG02X1I1F9\n") ≡ Err (fault 17 causes.Foreign)
no_arcs = refl

no_centres : run_on false (codes "G01X1Y1Z1I1F9\n") ≡ Err (fault 15 causes.Foreign)
no_centres = refl
