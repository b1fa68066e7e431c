-- How many bytes a tape with arcs has: at most 67 a block; and that its acts are no more than the plain plan's.
use Rattle.std.proofs.Common.{◌≡◌, ℕ, ◌+◌, ◌*◌, ◌≤◌, ◌==◌, Bool, List, [], ◌∷◌, map, length, Option, Some, None, refl, subst, arith}
use Rattle.std.specs.Prelude.{◌%◌}
use Rattle.std.specs.List.{flat_map}
use Rattle.std.proofs.lemmas.List.{length-map, length-append}
use Rattle.apt_tapecode.specs.Tapecode.{byte_of}
use Rattle.apt_records.specs.declared.record.Position.{Position}
use Rattle.apt_records.specs.declared.record.Record.{Record}
use Rattle.apt_records.specs.declared.record.Record.TheVariants as records
use Rattle.apt_machine.specs.declared.machine.Machine.{Machine}
use Rattle.apt_block.specs.Block.{spelling, word_text, line_feed}
use Rattle.apt_control.specs.declared.held.Held.{Held}
use Rattle.apt_control.specs.Control.{nothing_held}
use Rattle.apt_post.specs.declared.planning.Pending.{Pending}
use Rattle.apt_post.specs.Blocks.{act_words, behind, is_written, mode_words, numbered}
use Rattle.apt_post.specs.Plan.{note_acts, point_acts, cut_to, record_acts, record_pending, acts_from, plan}
use Rattle.apt_post.proofs.Lengths.{all_longest, words_few, longest-append, mode_few, number_words_few, act_few, fewer_words}
use Rattle.apt_circular.specs.declared.ArcAct.{ArcAct}
use Rattle.apt_circular.specs.declared.ArcAct.TheVariants as arcs
use Rattle.apt_circular.specs.declared.arc.Arc.{Arc}
use Rattle.apt_circular.specs.declared.planning.Round.{Round}
use Rattle.apt_circular.specs.declared.planning.Coming.{Coming}
use Rattle.apt_circular.specs.ArcBlocks.{arc_ways, words_behind, arc_words, behind_arc}
use Rattle.apt_circular.specs.ArcTape.{written_at, behind_act, block_at, blocks_on, arc_text, arc_tape}
use Rattle.apt_circular.specs.ArcPlan.{nothing_coming, plain_cut, cut_acts, turning, record_arcs, coming_behind, arcs_from, plan_arcs}

-- ---- a tape

-- mode, motion, three coordinates, the way to the centre and the feed
arc_few : (incremental : Bool) (held : Held) (a : Arc) → all_longest (arc_words incremental held a) ≤ 61
arc_few incremental held a =
    let ways = arc_ways incremental held a in
    omega (arith, longest-append (mode_words held.incremental ways) (words_behind ways held a), mode_few held.incremental ways)

-- the words of an act that are written
pub written_few : (m : Machine) (held : Held) (act : ArcAct) → all_longest (written_at m held act) ≤ 61
written_few m held (arcs.Plain act) = omega (arith, fewer_words (is_written m.changed held (behind m.incremental held act)) (act_words m.incremental held act), act_few m.incremental held act)
written_few m held (arcs.Arc turn x y z cx cy feed) =
    let a : Arc = record { turn = turn; x = x; y = y; z = z; cx = cx; cy = cy; feed = feed } in
    omega (arith, fewer_words (is_written m.changed held (behind_arc m.incremental held a)) (arc_words m.incremental held a), arc_few m.incremental held a)

block_length : (m : Machine) (k : ℕ) (held : Held) (act : ArcAct) → length (spelling m.short (block_at m k held act)) ≤ 67
block_length m k held act =
    let block = block_at m k held act in
    omega (arith, length-append (flat_map (word_text m.short) block) (line_feed ∷ []), words_few m.short block, longest-append (numbered m.seq k) (written_at m held act), number_words_few (m.seq == 0) (1 + (k * m.seq) % 9999), written_few m held act)

text_length : (m : Machine) (k : ℕ) (held : Held) (done : List ArcAct) → length (flat_map (spelling m.short) (blocks_on m k held done)) ≤ 67 * length done
text_length m k held [] = omega arith
text_length m k held (act ∷ more) =
    let block = spelling m.short (block_at m k held act) in
    let now = behind_act m.incremental held act in
    omega (arith, length-append block (flat_map (spelling m.short) (blocks_on m (k + 1) now more)), block_length m k held act, text_length m (k + 1) now more)

pub arc_tape_length : (m : Machine) (done : List ArcAct) → length (arc_tape m done) ≤ 2 + 67 * length done
arc_tape_length m done = omega (arith, length-map (arc_text m done) (byte_of m.code), text_length m 0 nothing_held done)

-- ---- the acts of records

-- an arc stands in place of one cut at least
cuts_few : (p : Pending) (round : Option Round) (vs : List Position) → length (cut_acts p round vs) ≤ length (map (cut_to p) vs)
cuts_few p None vs = omega (arith, length-map vs (plain_cut p), length-map vs (cut_to p))
cuts_few p (Some r) [] = omega arith
cuts_few p (Some r) (v ∷ vs) = omega arith

record_fewer : (c : Coming) (r : Record) → length (record_arcs c r) ≤ length (record_acts c.pending r)
record_fewer c (records.Statement line step) = omega arith
record_fewer c (records.Note note) = omega (arith, length-map (note_acts c.pending note) arcs.Plain)
record_fewer c (records.Drive surface side sense) = omega arith
record_fewer c (records.Check surface how) = omega arith
record_fewer c (records.Point reach to) = omega (arith, length-map (point_acts c.pending reach to) arcs.Plain)
record_fewer c (records.Contour vertices) = cuts_few c.pending (turning c) vertices

-- the same is pending behind a record as in the plain plan
pending_same : (c : Coming) (r : Record) → (coming_behind c r).pending ≡ record_pending c.pending r
pending_same c (records.Statement line step) = refl
pending_same c (records.Note note) = refl
pending_same c (records.Drive surface side sense) = refl
pending_same c (records.Check surface how) = refl
pending_same c (records.Point reach to) = refl
pending_same c (records.Contour vertices) = refl

arcs_fewer : (c : Coming) (rs : List Record) → length (arcs_from c rs) ≤ length (acts_from c.pending rs)
arcs_fewer c [] = omega arith
arcs_fewer c (r ∷ rs) =
    let now = coming_behind c r in
    omega (
      arith,
      length-append (record_arcs c r) (arcs_from now rs),
      length-append (record_acts c.pending r) (acts_from (record_pending c.pending r) rs),
      record_fewer c r,
      subst (λ (p : Pending). length (arcs_from now rs) ≤ length (acts_from p rs)) (pending_same c r) (arcs_fewer now rs),
    )

pub fewer_acts : (rs : List Record) → length (plan_arcs rs) ≤ length (plan rs)
fewer_acts rs = omega (arith, arcs_fewer nothing_coming rs)
