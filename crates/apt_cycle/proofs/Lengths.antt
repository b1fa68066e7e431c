-- How many bytes a tape with holes has: at most 67 an act.
use Rattle.std.proofs.Common.{◌≡◌, ℕ, ◌+◌, ◌*◌, ◌≤◌, ◌==◌, Bool, true, false, List, [], ◌∷◌, ◌++◌, length, Option, Some, None, cond, refl, ap, arith}
use Rattle.std.specs.Prelude.{◌%◌}
use Rattle.std.specs.List.{flat_map}
use Rattle.std.proofs.lemmas.List.{length-map, length-append}
use Rattle.apt_tapecode.specs.Tapecode.{byte_of}
use Rattle.apt_machine.specs.declared.machine.Machine.{Machine}
use Rattle.apt_block.specs.declared.block.TapeWord.{TapeWord}
use Rattle.apt_block.specs.Block.{spelling, word_text, tape_word, line_feed, letter_x, letter_y, letter_z, letter_r, letter_f}
use Rattle.apt_control.specs.declared.held.Held.{Held}
use Rattle.apt_control.specs.Control.{nothing_held}
use Rattle.apt_post.specs.Blocks.{g, mode_words}
use Rattle.apt_post.specs.Posting.{Posting, next_number, behind_told}
use Rattle.apt_post.proofs.Lengths.{all_longest, words_few, longest-append, mode_few, number_words_few}
use Rattle.apt_circular.specs.declared.ArcAct.{ArcAct}
use Rattle.apt_circular.specs.ArcTape.{written_at, behind_act}
use Rattle.apt_circular.proofs.Lengths.{written_few}
use Rattle.apt_cycle.specs.declared.hole.Hole.{Hole}
use Rattle.apt_cycle.specs.CycleBlocks.{drills}
use Rattle.apt_cycle.specs.Holes.{as_hole, hole_words, behind_hole}
use Rattle.apt_cycle.specs.CycleTape.{block_then, closed, single, single_behind, hole_or, blocks_from, cycle_text, cycle_tape}
use Rattle.apt_cycle.proofs.Meaning.{motion_holds}

-- ---- a block

block_few : (p : Posting) (words : List TapeWord) → length (spelling p.machine.short (next_number p ++ words)) ≤ 6 + all_longest words
block_few p words =
    let block = next_number p ++ words in
    omega (arith, length-append (flat_map (word_text p.machine.short) block) (line_feed ∷ []), words_few p.machine.short block, longest-append (next_number p) words, number_words_few (p.machine.seq == 0) (1 + p.steps))

-- mode, motion, four coordinates and the feed
hole_few : (held : Held) (hole : Hole) → all_longest (hole_words held hole) ≤ 51
hole_few held hole =
    let behind = g 81 ∷ tape_word letter_x hole.x ∷ tape_word letter_y hole.y ∷ tape_word letter_z hole.bottom ∷ tape_word letter_r hole.top ∷ tape_word letter_f hole.feed ∷ [] in
    omega (arith, longest-append (mode_words held.incremental false) behind, mode_few held.incremental false)

-- ---- blocks

abbrev many : Bool → List (List TapeWord) → ℕ
many short lists = length (flat_map (spelling short) lists)

-- where G81 holds, a G80 is due
abbrev due : Held → ℕ
due held = cond (drills held.motion) 9 0

-- wherever a writer stands, later blocks have at most so many characters, and those of a G80 that is due
abbrev AreFew : Machine → (Posting → List (List TapeWord)) → ℕ → Type 0
AreFew machine later most = (steps : ℕ) (held : Held) → many machine.short (later (record { machine = machine; steps = steps; held = held })) ≤ most + due held

block_then_few : (machine : Machine) (words : List TapeWord) (now : Held) (later : Posting → List (List TapeWord)) (most : ℕ) → AreFew machine later most → (steps : ℕ) (held : Held)
    → many machine.short (block_then (record { machine = machine; steps = steps; held = held }) words now later) ≤ 6 + all_longest words + most + due now
block_then_few machine words now later most few steps held =
    let p : Posting = record { machine = machine; steps = steps; held = held } in
    omega (
      arith,
      length-append (spelling machine.short (next_number p ++ words)) (flat_map (spelling machine.short) (later (behind_told p now))),
      block_few p words,
      few ((steps + machine.seq) % 9999) now,
    )

none_due : (incremental : Bool) (held : Held) (act : ArcAct) → drills held.motion ≡ false → due (behind_act incremental held act) ≡ 0
none_due incremental held act off = ap (λ t. cond t 9 0) (motion_holds (λ motion. drills motion ≡ false) refl refl refl refl incremental held act off)

single_few : (machine : Machine) (act : ArcAct) (later : Posting → List (List TapeWord)) (most : ℕ) → AreFew machine later most → (steps : ℕ) (held : Held) → drills held.motion ≡ false
    → many machine.short (single (record { machine = machine; steps = steps; held = held }) act later) ≤ 67 + most
single_few machine act later most few steps held off =
    omega (arith, block_then_few machine (written_at machine held act) (behind_act machine.incremental held act) later most few steps held, written_few machine held act, none_due machine.incremental held act off)

one_few : (machine : Machine) (act : ArcAct) (later : Posting → List (List TapeWord)) (most : ℕ) → AreFew machine later most → AreFew machine (λ p. single_behind (drills p.held.motion) p act later) (67 + most)
one_few machine act later most few steps held = by (drills held.motion) refl
  where
    by : (t : Bool) → drills held.motion ≡ t → many machine.short (single_behind t (record { machine = machine; steps = steps; held = held }) act later) ≤ 67 + most + cond t 9 0
    by false off = omega (arith, single_few machine act later most few steps held off)
    by true on =
        let p : Posting = record { machine = machine; steps = steps; held = held } in
        omega (
          arith,
          length-append (spelling machine.short (next_number p ++ g 80 ∷ [])) (flat_map (spelling machine.short) (single (behind_told p (closed held)) act later)),
          block_few p (g 80 ∷ []),
          single_few machine act later most few ((steps + machine.seq) % 9999) (closed held) refl,
        )

bored_few : (machine : Machine) (hole : Hole) (later : Posting → List (List TapeWord)) (most : ℕ) → AreFew machine later most
    → AreFew machine (λ p. block_then p (hole_words p.held hole) (behind_hole p.held hole) later) (201 + most)
bored_few machine hole later most few steps held =
    omega (arith, block_then_few machine (hole_words held hole) (behind_hole held hole) later most few steps held, hole_few held hole)

blocks_few : (machine : Machine) (done : List ArcAct) → AreFew machine (λ p. blocks_from p done) (67 * length done)
blocks_few machine [] steps held = omega arith
blocks_few machine (a ∷ []) steps held = omega (arith, one_few machine a (λ now. []) 0 none steps held)
  where
    none : AreFew machine (λ now. []) 0
    none steps held = omega arith
blocks_few machine (a ∷ b ∷ []) steps held = omega (arith, one_few machine a (λ now. blocks_from now (b ∷ [])) 67 (blocks_few machine (b ∷ [])) steps held)
blocks_few machine (a ∷ b ∷ c ∷ more) steps held = by (as_hole a b c) (blocks_few machine more) (blocks_few machine (b ∷ c ∷ more))
  where
    by : (o : Option Hole) → AreFew machine (λ p. blocks_from p more) (67 * length more) → AreFew machine (λ p. blocks_from p (b ∷ c ∷ more)) (67 * length (b ∷ c ∷ more))
        → many machine.short (hole_or o (record { machine = machine; steps = steps; held = held }) a (λ now. blocks_from now more) (λ now. blocks_from now (b ∷ c ∷ more))) ≤ 67 * length (a ∷ b ∷ c ∷ more) + due held
    by (Some hole) behind later = omega (arith, bored_few machine hole (λ now. blocks_from now more) (67 * length more) behind steps held)
    by None behind later = omega (arith, one_few machine a (λ now. blocks_from now (b ∷ c ∷ more)) (67 * length (b ∷ c ∷ more)) later steps held)

-- ---- a tape

pub cycle_tape_length : (m : Machine) (done : List ArcAct) → length (cycle_tape m done) ≤ 2 + 67 * length done
cycle_tape_length m done = omega (arith, length-map (cycle_text m done) (byte_of m.code), blocks_few m done 0 nothing_held)
