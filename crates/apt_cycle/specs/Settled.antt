-- The faults of a block that a control with drill cycles finds: no bytes behind it mend them.
use Rattle.std.proofs.Common.{◌≡◌, ℕ, ◌||◌, not, true, false, Bool, List, Some, None, is_some, is_none, Err, cond, refl, subst}
use Rattle.std.specs.Option.{option_map}
use Rattle.apt_block.specs.declared.block.BlockFault.{BlockFault}
use Rattle.apt_block.specs.declared.block.TapeCause.TheVariants as causes
use Rattle.apt_block.specs.declared.block.TapeWord.{TapeWord}
use Rattle.apt_block.specs.Block.{fault}
use Rattle.apt_control.specs.declared.held.Said.{Said}
use Rattle.apt_control.specs.Control.{said_of, place_of, is_mixed, is_far, unless_fault}
use Rattle.apt_control.specs.Pieces.{more_may_mend}
use Rattle.apt_control.specs.Settled.{Settled, AllSettled, settled_unless}
use Rattle.apt_circular.specs.ArcBlocks.{round_fault}
use Rattle.apt_circular.specs.Settled.{settled_round, settled_at, settled_foreign}
use Rattle.apt_cycle.specs.declared.reading.CycleHeld.{CycleHeld}
use Rattle.apt_cycle.specs.CycleBlocks.{drills, is_foreign, behind_block, is_hole, is_below, hole_missing, hole_fault, cycle_fault, cycle_meaning}

settled_missing : (now : CycleHeld) → Settled (hole_missing now)
settled_missing now =
    go (is_none now.held.units) (is_none now.held.x || is_none now.held.y) (is_far now.held.x || is_far now.held.y) (now.held.incremental || not (is_below now.depth now.clearance)) (is_none now.held.feed)
  where
    go : (units position limit cycle feed : Bool)
        → Settled (cond units (Some causes.NoUnits) (cond position (Some causes.NoPosition) (cond limit (Some causes.Limit) (cond cycle (Some causes.BadCycle) (cond feed (Some causes.NoFeed) None)))))
    go true position limit cycle feed = refl
    go false true limit cycle feed = refl
    go false false true cycle feed = refl
    go false false false true feed = refl
    go false false false false true = refl
    go false false false false false = tt

settled_hole : (now : CycleHeld) (said : Said) → Settled (hole_fault now said)
settled_hole now said = go (is_mixed said) (is_hole said) (is_some said.z || is_some said.r)
  where
    go : (mixed hole given : Bool) → Settled (cond mixed (Some causes.BadMix) (cond hole (hole_missing now) (cond given (Some causes.BadCycle) None)))
    go true hole given = refl
    go false true given = settled_missing now
    go false false true = refl
    go false false false = tt

settled_cycle : (h now : CycleHeld) (said : Said) → Settled (cycle_fault h now said)
settled_cycle h now said = go (drills now.held.motion)
  where
    go : (t : Bool) → Settled (cond t (hole_fault now said) (round_fault h.held now.held said))
    go true = settled_hole now said
    go false = settled_round h.held now.held said

pub settled_cycles : (h : CycleHeld) (letters : List ℕ) (at : ℕ) (words : List TapeWord) (f : BlockFault) → cycle_meaning h letters at words ≡ Err f → more_may_mend f.cause ≡ false
settled_cycles h letters at words f e =
    let said = said_of words in
    let now = behind_block h said in
    subst AllSettled e
    (settled_foreign (place_of (is_foreign now.circles now.held.motion) letters words) (unless_fault (option_map (fault at) (cycle_fault h now said)) _)
    (settled_unless _ (option_map (fault at) (cycle_fault h now said)) (settled_at at (cycle_fault h now said) (settled_cycle h now said))))
