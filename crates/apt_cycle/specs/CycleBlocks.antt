-- Blocks on a machine with drill cycles: what one means to its control.
use Rattle.std.specs.Prelude.{ℕ, ℤ, int_lt, ◌==◌, ◌&&◌, ◌||◌, not, Bool, false, List, [], ◌∷◌, ◌++◌, map, Option, Some, None, is_some, is_none, unwrap_or, Result, if◌then◌else◌}
use Rattle.std.specs.Option.{option_map, option_or}
use Rattle.apt_tapecode.specs.declared.Code.{Code}
use Rattle.apt_block.specs.declared.block.BlockFault.{BlockFault}
use Rattle.apt_block.specs.declared.block.TapeWord.{TapeWord}
use Rattle.apt_block.specs.declared.block.TapeCause.{TapeCause}
use Rattle.apt_block.specs.declared.block.TapeCause.TheVariants as causes
use Rattle.apt_block.specs.Block.{fault, is_letter, letter_i, letter_j, letter_r}
use Rattle.apt_control.specs.declared.Act.{Act}
use Rattle.apt_control.specs.declared.Act.TheVariants as acts
use Rattle.apt_control.specs.declared.held.Held.{Held}
use Rattle.apt_control.specs.declared.held.Said.{Said}
use Rattle.apt_control.specs.Control.{MeaningOf, said_of, with_said, place_of, is_mixed, is_far, or_zero, has_code, unit_acts, acts_before, acts_after, unless_fault, nothing_held, tape_run}
use Rattle.apt_post.specs.Blocks.{is_code_of}
use Rattle.apt_circular.specs.declared.ArcAct.{ArcAct}
use Rattle.apt_circular.specs.declared.ArcAct.TheVariants.{Plain}
use Rattle.apt_circular.specs.ArcBlocks.{turns_round, round_fault, round_acts, unless_foreign}
use Rattle.apt_cycle.specs.declared.reading.CycleHeld.{CycleHeld}

-- ---- the motion code

-- G81 holds
abbrev pub drills : Option ℕ → Bool
drills motion = unwrap_or (option_map (λ code. code == 81) motion) false

-- G80 leaves no motion code
abbrev pub motion_behind : Option ℕ → Option ℕ
motion_behind None = None
motion_behind (Some code) = if code == 80 then None else Some code

-- ---- words without a meaning, where a motion code holds behind a block

-- arcs where no circles are cut, the way to a centre beside arcs, and the upper level beside holes
abbrev pub is_foreign : Bool → Option ℕ → TapeWord → Bool
is_foreign circles motion w =
    (is_code_of (2 ∷ 3 ∷ []) w && not circles)
    || ((is_letter letter_i w || is_letter letter_j w) && not (circles && turns_round motion))
    || (is_letter letter_r w && not (drills motion))

-- ---- what holds behind a block

-- a block in which G81 holds is a hole where X or Y is there
abbrev pub is_hole : Said → Bool
is_hole said = is_some said.x || is_some said.y

-- a new G81 forgets the Z and the R before it
abbrev pub kept : Said → Option ℤ → Option ℤ
kept said value = if is_some said.motion then None else value

-- behind a block in which G81 holds: behind a hole the tool stands at its R
abbrev pub hole_behind : CycleHeld → Said → CycleHeld
hole_behind h said =
    let clearance = option_or said.r (kept said h.clearance) in
    record {
      held = record (with_said h.held said) { z = if is_hole said then clearance else h.held.z };
      depth = option_or said.z (kept said h.depth);
      clearance = clearance;
      circles = h.circles;
    }

-- behind a block in which none does
abbrev pub held_behind : Held → Said → Held
held_behind held said = record (with_said held said) { motion = motion_behind (with_said held said).motion }

-- behind any block
abbrev pub behind_block : CycleHeld → Said → CycleHeld
behind_block h said = if drills (with_said h.held said).motion then hole_behind h said else record h { held = held_behind h.held said }

-- ---- a block in which G81 holds

-- the bottom of a hole is below where it begins
abbrev pub is_below : Option ℤ → Option ℤ → Bool
is_below None r = false
is_below (Some z) None = false
is_below (Some z) (Some r) = int_lt z r

-- what is missing for a hole behind which this holds
abbrev pub hole_missing : CycleHeld → Option TapeCause
hole_missing now =
    if is_none now.held.units then Some causes.NoUnits
    else if is_none now.held.x || is_none now.held.y then Some causes.NoPosition
    else if is_far now.held.x || is_far now.held.y then Some causes.Limit
    else if now.held.incremental || not (is_below now.depth now.clearance) then Some causes.BadCycle
    else if is_none now.held.feed then Some causes.NoFeed
    else None

-- the first fault at the end of a block in which G81 holds
abbrev pub hole_fault : CycleHeld → Said → Option TapeCause
hole_fault now said =
    if is_mixed said then Some causes.BadMix
    else if is_hole said then hole_missing now
    else if is_some said.z || is_some said.r then Some causes.BadCycle
    else None

-- to the R above, down to the Z, and back to the R
abbrev pub hole_moves : ℤ → ℤ → CycleHeld → List Act
hole_moves x y now = acts.Rapid x y (or_zero now.clearance) ∷ acts.Cut x y (or_zero now.depth) (or_zero now.held.feed) ∷ acts.Rapid x y (or_zero now.clearance) ∷ []

-- the moves and the acts of a block in which G81 holds
abbrev pub moves_of : CycleHeld → Said → List Act
moves_of now said = if is_hole said then hole_moves (or_zero now.held.x) (or_zero now.held.y) now else []

abbrev pub hole_acts : CycleHeld → Said → List ArcAct
hole_acts now said = map Plain (unit_acts said ++ acts_before said ++ moves_of now said ++ acts_after said)

-- ---- the meaning of every block: where no G81 holds, that of a control that cuts arcs

abbrev pub cycle_fault : CycleHeld → CycleHeld → Said → Option TapeCause
cycle_fault h now said = if drills now.held.motion then hole_fault now said else round_fault h.held now.held said

abbrev pub cycle_acts : CycleHeld → CycleHeld → Said → List ArcAct
cycle_acts h now said = if drills now.held.motion then hole_acts now said else round_acts h.held now.held said

-- a foreign word is told at its letter, before all that is wrong at the end of the block
abbrev pub cycle_meaning : MeaningOf CycleHeld ArcAct
cycle_meaning h letters at words =
    let said = said_of words in
    let now = behind_block h said in
    unless_foreign (place_of (is_foreign now.circles now.held.motion) letters words)
    (unless_fault (option_map (fault at) (cycle_fault h now said)) (record { held = now; acts = cycle_acts h now said; ends = has_code (2 ∷ []) said }))

-- ---- the run of a tape

-- at the start new coordinates are given, and nothing else holds
abbrev pub nothing_drilled : Bool → CycleHeld
nothing_drilled circles = record { held = nothing_held; depth = None; clearance = None; circles = circles }

-- what a control with cycles does with a tape, which has circles or not
abbrev pub cycle_run : Bool → Code → List ℕ → Result (List ArcAct) BlockFault
cycle_run circles code tape = tape_run cycle_meaning (nothing_drilled circles) code tape
