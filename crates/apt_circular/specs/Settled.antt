-- The faults of a block that a control that cuts arcs finds: no bytes behind it mend them.
use Rattle.std.proofs.Common.{◌≡◌, ℕ, not, true, false, Bool, List, Option, Some, None, is_none, Result, Err, cond, refl, subst}
use Rattle.std.specs.Option.{option_map}
use Rattle.apt_block.specs.declared.block.BlockFault.{BlockFault}
use Rattle.apt_block.specs.declared.block.TapeCause.{TapeCause}
use Rattle.apt_block.specs.declared.block.TapeCause.TheVariants as causes
use Rattle.apt_block.specs.declared.block.TapeWord.{TapeWord}
use Rattle.apt_block.specs.Block.{fault}
use Rattle.apt_control.specs.declared.held.Held.{Held}
use Rattle.apt_control.specs.declared.held.Said.{Said}
use Rattle.apt_control.specs.Control.{said_of, with_said, place_of, is_mixed, has_position, leaves_limit, end_fault}
use Rattle.apt_control.specs.Pieces.{more_may_mend}
use Rattle.apt_control.specs.Settled.{Settled, settled_end, SettledAt, AllSettled, settled_unless}
use Rattle.apt_circular.specs.ArcBlocks.{is_foreign_round, is_arc, is_no_arc, arc_fault, round_fault, round_meaning, unless_foreign, arc_meaning}

settled_arc : (held now : Held) (said : Said) → Settled (arc_fault held now said)
settled_arc held now said = go (is_mixed said) (is_none now.units) (not (has_position held)) (leaves_limit now) (is_none now.feed) (is_no_arc held now said)
  where
    go : (mixed units position limit feed arc : Bool)
        → Settled (cond mixed (Some causes.BadMix) (cond units (Some causes.NoUnits) (cond position (Some causes.NoPosition) (cond limit (Some causes.Limit) (cond feed (Some causes.NoFeed) (cond arc (Some causes.BadArc) None))))))
    go true units position limit feed arc = refl
    go false true position limit feed arc = refl
    go false false true limit feed arc = refl
    go false false false true feed arc = refl
    go false false false false true arc = refl
    go false false false false false true = refl
    go false false false false false false = tt

pub settled_round : (held now : Held) (said : Said) → Settled (round_fault held now said)
settled_round held now said = go (is_arc now said)
  where
    go : (arc : Bool) → Settled (cond arc (arc_fault held now said) (end_fault now said))
    go true = settled_arc held now said
    go false = settled_end now said

pub settled_at : (at : ℕ) (cause : Option TapeCause) → Settled cause → SettledAt (option_map (fault at) cause)
settled_at at None is = tt
settled_at at (Some cause) is = is

pub settled_foreign : {X : Type 0} (place : Option ℕ) (m : Result X BlockFault) → AllSettled m → AllSettled (unless_foreign place m)
settled_foreign None m is = is
settled_foreign (Some place) m is = refl

pub settled_arcs : (held : Held) (letters : List ℕ) (at : ℕ) (words : List TapeWord) (f : BlockFault) → arc_meaning held letters at words ≡ Err f → more_may_mend f.cause ≡ false
settled_arcs held letters at words f e =
    let said = said_of words in
    let now = with_said held said in
    subst AllSettled e
    (settled_foreign (place_of (is_foreign_round now.motion) letters words) (round_meaning held at said)
    (settled_unless _ (option_map (fault at) (round_fault held now said)) (settled_at at (round_fault held now said) (settled_round held now said))))
