-- Circular blocks: what one means to a control that cuts arcs, and the words in which an arc is written.
use Rattle.std.specs.Prelude.{ℕ, ℤ, pos, negsuc, ◌+ℤ◌, ◌-ℤ◌, ◌==◌, ◌&&◌, ◌||◌, not, Bool, false, List, [], ◌∷◌, ◌++◌, map, Option, Some, None, is_some, is_none, unwrap_or, Result, Err, if◌then◌else◌}
use Rattle.std.specs.Option.{option_map}
use Rattle.std.specs.List.{filter}
use Rattle.std.specs.Ordering.{int_eq}
use Rattle.apt_plane.specs.declared.figures.Pt.{Pt}
use Rattle.apt_tapecode.specs.declared.Code.{Code}
use Rattle.apt_machine.specs.declared.machine.Machine.{Machine}
use Rattle.apt_block.specs.declared.block.BlockFault.{BlockFault}
use Rattle.apt_block.specs.declared.block.TapeWord.{TapeWord}
use Rattle.apt_block.specs.declared.block.TapeCause.{TapeCause}
use Rattle.apt_block.specs.declared.block.TapeCause.TheVariants as causes
use Rattle.apt_block.specs.Block.{fault, tape_word, is_in, is_letter, letter_f, letter_i, letter_j, letter_r}
use Rattle.apt_control.specs.declared.held.Held.{Held}
use Rattle.apt_control.specs.declared.held.Said.{Said}
use Rattle.apt_control.specs.Control.{Meaning, MeaningOf, said_of, with_said, place_of, is_move, is_mixed, has_position, leaves_limit, or_zero, has_code, unit_acts, acts_before, acts_after, block_acts, end_fault, unless_fault, nothing_held, tape_run}
use Rattle.apt_post.specs.Blocks.{g, goes_by_ways, position, mode_words, behind_move, is_code_of, is_written, numbered}
use Rattle.apt_circular.specs.declared.ArcAct.{ArcAct}
use Rattle.apt_circular.specs.declared.ArcAct.TheVariants as arcs
use Rattle.apt_circular.specs.declared.arc.Arc.{Arc}

-- an arc as an act
abbrev pub act_of : Arc → ArcAct
act_of a = arcs.Arc a.turn a.x a.y a.z a.cx a.cy a.feed

-- ---- words without a meaning, where a motion code holds behind a block

-- the motion code is G02 or G03
abbrev pub turns_round : Option ℕ → Bool
turns_round motion = unwrap_or (option_map (is_in (2 ∷ 3 ∷ [])) motion) false

-- drill cycles have none in any block, and the way to a centre belongs to arcs alone
abbrev pub is_foreign_round : Option ℕ → TapeWord → Bool
is_foreign_round motion w =
    is_code_of (80 ∷ 81 ∷ []) w || is_letter letter_r w || ((is_letter letter_i w || is_letter letter_j w) && not (turns_round motion))

-- ---- an arc

-- a coordinate or a way to a centre is given where G02 or G03 holds
abbrev pub is_arc : Held → Said → Bool
is_arc now said = turns_round now.motion && (is_move said || is_some said.i || is_some said.j)

-- the position in x and y
abbrev pub xy_of : Held → Pt
xy_of held = record { x = or_zero held.x; y = or_zero held.y }

-- the centre, by the way to it from the old position; a part that is left out is 0
abbrev pub centre_of : Held → Said → Pt
centre_of held said = record { x = or_zero held.x +ℤ or_zero said.i; y = or_zero held.y +ℤ or_zero said.j }

-- two points are one
abbrev pub is_same : Pt → Pt → Bool
is_same p q = int_eq p.x q.x && int_eq p.y q.y

-- no way to a centre is given, or the two positions and the centre are not three points, or the height changes
abbrev pub is_no_arc : Held → Held → Said → Bool
is_no_arc held now said =
    (is_none said.i && is_none said.j) || is_same (xy_of held) (centre_of held said) || is_same (xy_of now) (centre_of held said) || is_same (xy_of held) (xy_of now)
    || not (int_eq (or_zero held.z) (or_zero now.z))

-- the first fault at the end of a block that is an arc, by what holds before it and behind it
abbrev pub arc_fault : Held → Held → Said → Option TapeCause
arc_fault held now said =
    if is_mixed said then Some causes.BadMix
    else if is_none now.units then Some causes.NoUnits
    else if not (has_position held) then Some causes.NoPosition
    else if leaves_limit now then Some causes.Limit
    else if is_none now.feed then Some causes.NoFeed
    else if is_no_arc held now said then Some causes.BadArc
    else None

-- G03 turns anticlockwise, G02 clockwise
abbrev pub turn_by : Option ℕ → ℤ
turn_by (Some code) = if code == 3 then pos 1 else negsuc 0
turn_by None = negsuc 0

-- the arc of a block: by its code, to the new position, about the centre, at the feed
abbrev pub arc_of : Held → Held → Said → Arc
arc_of held now said = record {
  turn = turn_by now.motion;
  x = or_zero now.x;
  y = or_zero now.y;
  z = or_zero now.z;
  cx = (centre_of held said).x;
  cy = (centre_of held said).y;
  feed = or_zero now.feed;
}

-- ---- the meaning of a block

-- the first fault at the end of a block
abbrev pub round_fault : Held → Held → Said → Option TapeCause
round_fault held now said = if is_arc now said then arc_fault held now said else end_fault now said

-- the acts of a block: those of a plain one, with the arc in place of a move
abbrev pub round_acts : Held → Held → Said → List ArcAct
round_acts held now said =
    if is_arc now said then map arcs.Plain (unit_acts said ++ acts_before said) ++ act_of (arc_of held now said) ∷ map arcs.Plain (acts_after said)
    else map arcs.Plain (block_acts now said)

-- the meaning of a block of which no word is foreign
abbrev pub round_meaning : Held → ℕ → Said → Result (Meaning Held ArcAct) BlockFault
round_meaning held at said =
    let now = with_said held said in
    unless_fault (option_map (fault at) (round_fault held now said)) (record { held = now; acts = round_acts held now said; ends = has_code (2 ∷ []) said })

-- a foreign word is told at its letter, before all that is wrong at the end of the block
abbrev pub unless_foreign : {A : Type 0} → Option ℕ → Result A BlockFault → Result A BlockFault
unless_foreign None m = m
unless_foreign (Some place) m = Err (fault place causes.Foreign)

-- the meaning of a block to a control that cuts arcs
abbrev pub arc_meaning : MeaningOf Held ArcAct
arc_meaning held letters at words =
    let said = said_of words in
    unless_foreign (place_of (is_foreign_round (with_said held said).motion) letters words) (round_meaning held at said)

-- what such a control does with a tape
abbrev pub arc_run : Code → List ℕ → Result (List ArcAct) BlockFault
arc_run code tape = tape_run arc_meaning nothing_held code tape

-- ---- the words in which an arc is written

-- anticlockwise by G03, clockwise by G02
abbrev pub arc_code : ℤ → ℕ
arc_code turn = if int_eq turn (pos 1) then 3 else 2

-- its position is written as a straight move's
abbrev pub arc_ways : Bool → Held → Arc → Bool
arc_ways incremental held a = goes_by_ways incremental held a.x a.y a.z

-- its words behind that of a mode: the motion code, the position, the way to the centre from the old position, and the feed
abbrev pub words_behind : Bool → Held → Arc → List TapeWord
words_behind ways held a =
    g (arc_code a.turn) ∷ position ways held a.x a.y a.z
    ++ tape_word letter_i (a.cx -ℤ or_zero held.x) ∷ tape_word letter_j (a.cy -ℤ or_zero held.y) ∷ tape_word letter_f a.feed ∷ []

-- all words of an arc
abbrev pub arc_words : Bool → Held → Arc → List TapeWord
arc_words incremental held a = mode_words held.incremental (arc_ways incremental held a) ++ words_behind (arc_ways incremental held a) held a

-- what holds behind an arc whose position is written by ways, or by new coordinates
abbrev pub held_behind : Bool → Held → Arc → Held
held_behind ways held a = record (behind_move ways held (arc_code a.turn) a.x a.y a.z) { feed = Some a.feed }

-- what holds behind an arc
abbrev pub behind_arc : Bool → Held → Arc → Held
behind_arc incremental held a = held_behind (arc_ways incremental held a) held a

-- the words that are written: where words that say what holds are left out, x and the way to the centre stand all the same
abbrev pub written_arc : Machine → Held → Arc → List TapeWord
written_arc machine held a = filter (is_written machine.changed held (behind_arc machine.incremental held a)) (arc_words machine.incremental held a)

-- the block of an arc that k blocks precede
abbrev pub arc_block : Machine → ℕ → Held → Arc → List TapeWord
arc_block machine k held a = numbered machine.seq k ++ written_arc machine held a
