-- A control with drill cycles runs the tape of acts to just these acts, holes among them.
use Rattle.std.proofs.Common.{◌≡◌, ◌∙◌, ◌<◌, ℕ, ◌+◌, ℤ, Bool, true, false, List, [], ◌∷◌, ◌++◌, map, Option, Some, None, IsSome, Ok, int_lt, refl, sym, ap, subst, arith}
use Rattle.std.specs.Prelude.{◌%◌}
use Rattle.std.specs.List.{flat_map}
use Rattle.apt_words.specs.declared.Units.{Units}
use Rattle.apt_tapecode.specs.Tapecode.{byte_of, end_of_block, rewind_stop}
use Rattle.apt_machine.specs.declared.machine.Machine.{Machine}
use Rattle.apt_block.specs.declared.block.TapeWord.{TapeWord}
use Rattle.apt_block.specs.Block.{spelling, IsBlock}
use Rattle.apt_control.specs.declared.Act.TheVariants as acts
use Rattle.apt_control.specs.declared.held.Held.{Held}
use Rattle.apt_control.specs.Control.{nothing_held}
use Rattle.apt_control.specs.Spoken.{Spoken, AreSpoken, acts_of, characters_of}
use Rattle.apt_control.proofs.Runs.{spoken_runs}
use Rattle.apt_post.specs.Blocks.{g, behind}
use Rattle.apt_post.specs.Posting.{Posting, next_number, behind_told}
use Rattle.apt_post.proofs.Meaning.{units_behind}
use Rattle.apt_post.proofs.Standing.{next_number_of, next_number-IsNumber, next_number-words}
use Rattle.apt_circular.specs.declared.ArcAct.{ArcAct}
use Rattle.apt_circular.specs.declared.ArcAct.TheVariants as arcs
use Rattle.apt_circular.specs.ArcTape.{behind_act, ends_it, CanAct, ArcsToTheEnd, IsArcProgram}
use Rattle.apt_circular.specs.ArcPosting as by_act
use Rattle.apt_circular.proofs.Meaning.{next_IsBlock}
use Rattle.apt_cycle.specs.declared.hole.Hole.{Hole}
use Rattle.apt_cycle.specs.declared.reading.CycleHeld.{CycleHeld}
use Rattle.apt_cycle.specs.CycleBlocks.{drills, motion_behind, cycle_meaning, nothing_drilled, cycle_run}
use Rattle.apt_cycle.specs.Holes.{as_hole, hole_of, hole_words, behind_hole}
use Rattle.apt_cycle.specs.CycleTape.{block_then, closed, single, single_behind, hole_or, blocks_from, at_start, cycle_tape}
use Rattle.apt_cycle.specs.Writable.{IsTaken, AreTaken}
use Rattle.apt_cycle.proofs.Holes.{CanBore, bored}
use Rattle.apt_cycle.proofs.Places.{IsSamePlace, same_can, same_behind, same_hole}
use Rattle.apt_cycle.proofs.Meaning.{hole_means, close_means, quiet_behind, act_means, units_means}
use Rattle.apt_cycle.proofs.Standing.{hole-IsBlock, close-IsBlock}

-- ---- lists of words that a control understands, as these acts, up to the end

pub record AreRead (h : CycleHeld) (short : Bool) (lists : List (List TapeWord)) (done : List ArcAct) : Type 0 where
  pub blocks : List (Spoken CycleHeld ArcAct)
  pub characters : characters_of short blocks ≡ flat_map (spelling short) lists
  pub acts : acts_of blocks ≡ done
  pub spoken : AreSpoken cycle_meaning h blocks

-- words that mean acts, and behind which this holds
abbrev MeanActs : CycleHeld → Bool → CycleHeld → List TapeWord → List ArcAct → Type 0
MeanActs h ends now words done = IsBlock words × ((letters : List ℕ) (at : ℕ) → cycle_meaning h letters at words ≡ Ok (record { held = now; acts = done; ends = ends }))

spoken_then : (h now : CycleHeld) (words : List TapeWord) (own : List ArcAct) (blocks : List (Spoken CycleHeld ArcAct)) → MeanActs h false now words own → AreSpoken cycle_meaning now blocks
    → AreSpoken cycle_meaning h (record { words = words; acts = own; behind = now } ∷ blocks)
spoken_then h now words own [] is rest = absurd rest
spoken_then h now words own (b ∷ blocks) is rest = (record { is = is.0; means_it = is.1 }, rest)

read_then : (h now : CycleHeld) (short : Bool) (words : List TapeWord) (own : List ArcAct) (lists : List (List TapeWord)) (done : List ArcAct) → MeanActs h false now words own → AreRead now short lists done
    → AreRead h short (words ∷ lists) (own ++ done)
read_then h now short words own lists done is rest = record {
  blocks = record { words = words; acts = own; behind = now } ∷ rest.blocks;
  characters = ap (λ chs. spelling short words ++ chs) rest.characters;
  acts = ap (λ done. own ++ done) rest.acts;
  spoken = spoken_then h now words own rest.blocks is rest.spoken;
}

read_last : (h now : CycleHeld) (short : Bool) (words : List TapeWord) (act : ArcAct) → MeanActs h true now words (act ∷ []) → AreRead h short (words ∷ []) (act ∷ [])
read_last h now short words act is = record { blocks = record { words = words; acts = act ∷ []; behind = now } ∷ []; characters = refl; acts = refl; spoken = record { is = is.0; means_it = is.1 } }

-- ---- where a writer and a control stand

abbrev pub standing : Machine → ℕ → Held → Posting
standing machine steps held = record { machine = machine; steps = steps; held = held }

abbrev pub control : Bool → Held → Option ℤ → Option ℤ → CycleHeld
control circles held depth clearance = record { held = held; depth = depth; clearance = clearance; circles = circles }

-- the number of the next block has a word, the units are known, and no G80 is held
pub record IsGoing (steps : ℕ) (held : Held) : Type 0 where
  pub few : steps < 9999
  pub known : IsSome held.units
  pub kept : motion_behind held.motion ≡ held.motion

-- wherever the writer stands at this place, and the control holds what it holds, later blocks are read as these acts
abbrev pub Comes : Bool → Machine → Held → (Posting → List (List TapeWord)) → List ArcAct → Type 0
Comes circles machine from later done = (steps : ℕ) (held : Held) (depth clearance : Option ℤ) → IsGoing steps held → IsSamePlace from held
    → AreRead (control circles held depth clearance) machine.short (later (standing machine steps held)) done

few_more : (steps seq : ℕ) → (steps + seq) % 9999 < 9999
few_more steps seq = omega arith

known_behind : (incremental : Bool) (held : Held) (act : ArcAct) → IsSome held.units → IsSome (behind_act incremental held act).units
known_behind incremental held (arcs.Plain act) known = units_behind incremental held act known
known_behind incremental held (arcs.Arc turn x y z cx cy feed) known = known

-- ---- G80, and an act by itself

closing : (circles : Bool) (machine : Machine) (steps : ℕ) (held : Held) (depth clearance : Option ℤ) → IsGoing steps held
    → MeanActs (control circles held depth clearance) false (control circles (closed held) depth clearance) (next_number (standing machine steps held) ++ g 80 ∷ []) []
closing circles machine steps held depth clearance is =
    let p = standing machine steps held in
    let h = control circles held depth clearance in
    let n = next_number_of p in
    let number = sym (next_number-words p) in (
      subst (λ ns. IsBlock (ns ++ g 80 ∷ [])) number (close-IsBlock n (next_number-IsNumber p is.few)),
      λ letters at. ap (λ ns. cycle_meaning h letters at (ns ++ g 80 ∷ [])) (next_number-words p) ∙ close_means h n letters at,
    )

acting : (circles : Bool) (machine : Machine) (steps : ℕ) (held : Held) (depth clearance : Option ℤ) (act : ArcAct) → IsGoing steps held → drills held.motion ≡ false → CanAct held act → IsTaken circles act
    → MeanActs (control circles held depth clearance) (ends_it act) (control circles (behind_act machine.incremental held act) depth clearance) (by_act.next_block (standing machine steps held) act) (act ∷ [])
acting circles machine steps held depth clearance act is off can taken =
    let p = standing machine steps held in
    (next_IsBlock p act is.few can, act_means (control circles held depth clearance) p act refl is.few is.known can taken (record { drills = off; kept = is.kept }))

-- where G81 holds, G80 comes first
behind_close : (circles : Bool) (machine : Machine) (from : Held) (act : ArcAct) (later : Posting → List (List TapeWord)) (done : List ArcAct)
    → ((steps : ℕ) (held : Held) (depth clearance : Option ℤ) → IsGoing steps held → IsSamePlace from held → drills held.motion ≡ false → AreRead (control circles held depth clearance) machine.short (single (standing machine steps held) act later) done)
    → Comes circles machine from (λ p. single_behind (drills p.held.motion) p act later) done
behind_close circles machine from act later done alone steps held depth clearance is same = by (drills held.motion) refl
  where
    by : (t : Bool) → drills held.motion ≡ t → AreRead (control circles held depth clearance) machine.short (single_behind t (standing machine steps held) act later) done
    by false off = alone steps held depth clearance is same off
    by true on =
        let steps_then = (steps + machine.seq) % 9999 in
        read_then (control circles held depth clearance) (control circles (closed held) depth clearance) machine.short (next_number (standing machine steps held) ++ g 80 ∷ []) [] _ done
        (closing circles machine steps held depth clearance is)
        (alone steps_then (closed held) depth clearance (record { few = few_more steps machine.seq; known = is.known; kept = refl }) (record { x = same.x; y = same.y; z = same.z }) refl)

one_comes : (circles : Bool) (machine : Machine) (from : Held) (act : ArcAct) (later : Posting → List (List TapeWord)) (done : List ArcAct) → IsTaken circles act → CanAct from act → ends_it act ≡ false
    → Comes circles machine (behind_act machine.incremental from act) later done → Comes circles machine from (λ p. single_behind (drills p.held.motion) p act later) (act ∷ done)
one_comes circles machine from act later done taken can goes rest = behind_close circles machine from act later (act ∷ done) alone
  where
    alone : (steps : ℕ) (held : Held) (depth clearance : Option ℤ) → IsGoing steps held → IsSamePlace from held → drills held.motion ≡ false
        → AreRead (control circles held depth clearance) machine.short (single (standing machine steps held) act later) (act ∷ done)
    alone steps held depth clearance is same off =
        let now = behind_act machine.incremental held act in
        let quiet = quiet_behind machine.incremental held act (record { drills = off; kept = is.kept }) in
        let means = acting circles machine steps held depth clearance act is off (same_can from held act same can) taken in
        read_then (control circles held depth clearance) (control circles now depth clearance) machine.short (by_act.next_block (standing machine steps held) act) (act ∷ []) (later (by_act.next (standing machine steps held) act)) done
        (subst (λ ends. MeanActs (control circles held depth clearance) ends (control circles now depth clearance) (by_act.next_block (standing machine steps held) act) (act ∷ [])) goes means)
        (rest ((steps + machine.seq) % 9999) now depth clearance
        (record { few = few_more steps machine.seq; known = known_behind machine.incremental held act is.known; kept = quiet.kept }) (same_behind machine.incremental from held act same))

last_comes : (circles : Bool) (machine : Machine) (from : Held) → Comes circles machine from (λ p. single_behind (drills p.held.motion) p (arcs.Plain acts.End) (λ now. [])) (arcs.Plain acts.End ∷ [])
last_comes circles machine from = behind_close circles machine from (arcs.Plain acts.End) (λ now. []) (arcs.Plain acts.End ∷ []) alone
  where
    alone : (steps : ℕ) (held : Held) (depth clearance : Option ℤ) → IsGoing steps held → IsSamePlace from held → drills held.motion ≡ false
        → AreRead (control circles held depth clearance) machine.short (single (standing machine steps held) (arcs.Plain acts.End) (λ now. [])) (arcs.Plain acts.End ∷ [])
    alone steps held depth clearance is same off =
        read_last (control circles held depth clearance) (control circles held depth clearance) machine.short (by_act.next_block (standing machine steps held) (arcs.Plain acts.End)) (arcs.Plain acts.End)
        (acting circles machine steps held depth clearance (arcs.Plain acts.End) is off tt tt)

-- ---- a hole

boring : (circles : Bool) (machine : Machine) (steps : ℕ) (held : Held) (depth clearance : Option ℤ) (hole : Hole) → IsGoing steps held → CanBore hole
    → MeanActs (control circles held depth clearance) false (control circles (behind_hole held hole) (Some hole.bottom) (Some hole.top)) (next_number (standing machine steps held) ++ hole_words held hole) (hole_of hole)
boring circles machine steps held depth clearance hole is can =
    let p = standing machine steps held in
    let h = control circles held depth clearance in
    let n = next_number_of p in (
      subst (λ ns. IsBlock (ns ++ hole_words held hole)) (sym (next_number-words p)) (hole-IsBlock n held hole (next_number-IsNumber p is.few) can),
      λ letters at. ap (λ ns. cycle_meaning h letters at (ns ++ hole_words held hole)) (next_number-words p) ∙ hole_means h n hole letters at is.known can,
    )

-- where a hole's three acts leave the tool
abbrev behind_three : Bool → Held → Hole → Held
behind_three incremental from hole =
    behind_act incremental (behind_act incremental (behind_act incremental from (arcs.Plain (acts.Rapid hole.x hole.y hole.top))) (arcs.Plain (acts.Cut hole.x hole.y hole.bottom hole.feed))) (arcs.Plain (acts.Rapid hole.x hole.y hole.top))

three_first : (incremental : Bool) (from : Held) (hole : Hole) (more : List ArcAct) → int_lt hole.bottom hole.top ≡ true → ArcsToTheEnd incremental from (hole_of hole ++ more)
    → CanBore hole × ArcsToTheEnd incremental (behind_three incremental from hole) more
three_first incremental from hole [] below to_end = absurd (no_end to_end.2.2)
  where
    no_end : arcs.Plain (acts.Rapid hole.x hole.y hole.top) ≡ arcs.Plain acts.End → ⊥
    no_end e = cc
three_first incremental from hole (act ∷ more) below to_end = (
  record { x = to_end.0.0; y = to_end.0.1; top = to_end.0.2; bottom = to_end.2.0.0.2; feed = to_end.2.0.1; below = below },
  to_end.2.2.2,
)

hole_comes : (circles : Bool) (machine : Machine) (from : Held) (hole : Hole) (later : Posting → List (List TapeWord)) (done : List ArcAct) → CanBore hole → Comes circles machine (behind_three machine.incremental from hole) later done
    → Comes circles machine from (λ p. block_then p (hole_words p.held hole) (behind_hole p.held hole) later) (hole_of hole ++ done)
hole_comes circles machine from hole later done can rest steps held depth clearance is same =
    let now = behind_hole held hole in
    read_then (control circles held depth clearance) (control circles now (Some hole.bottom) (Some hole.top)) machine.short (next_number (standing machine steps held) ++ hole_words held hole) (hole_of hole) (later (behind_told (standing machine steps held) now)) done
    (boring circles machine steps held depth clearance hole is can)
    (rest ((steps + machine.seq) % 9999) now (Some hole.bottom) (Some hole.top) (record { few = few_more steps machine.seq; known = is.known; kept = refl }) (same_hole machine.incremental from held hole))

-- ---- all acts

pub acts_come : (circles : Bool) (machine : Machine) (from : Held) (done : List ArcAct) → AreTaken circles done → ArcsToTheEnd machine.incremental from done → Comes circles machine from (λ p. blocks_from p done) done
acts_come circles machine from [] taken to_end = absurd to_end
acts_come circles machine from (a ∷ []) taken to_end =
    subst (λ (a : ArcAct). Comes circles machine from (λ p. single_behind (drills p.held.motion) p a (λ now. [])) (a ∷ [])) (sym to_end) (last_comes circles machine from)
acts_come circles machine from (a ∷ b ∷ []) taken to_end =
    one_comes circles machine from a (λ now. blocks_from now (b ∷ [])) (b ∷ []) taken.0 to_end.0 to_end.1 (acts_come circles machine (behind_act machine.incremental from a) (b ∷ []) taken.1 to_end.2)
acts_come circles machine from (a ∷ b ∷ d ∷ more) taken to_end =
    by (as_hole a b d) refl (λ at is. acts_come circles machine at more taken.1.1.1 is) (acts_come circles machine (behind_act machine.incremental from a) (b ∷ d ∷ more) taken.1 to_end.2)
  where
    by : (o : Option Hole) → as_hole a b d ≡ o → ((at : Held) → ArcsToTheEnd machine.incremental at more → Comes circles machine at (λ p. blocks_from p more) more)
        → Comes circles machine (behind_act machine.incremental from a) (λ p. blocks_from p (b ∷ d ∷ more)) (b ∷ d ∷ more)
        → Comes circles machine from (λ p. hole_or o p a (λ now. blocks_from now more) (λ now. blocks_from now (b ∷ d ∷ more))) (a ∷ b ∷ d ∷ more)
    by None is behind rest = one_comes circles machine from a (λ now. blocks_from now (b ∷ d ∷ more)) (b ∷ d ∷ more) taken.0 to_end.0 to_end.1 rest
    by (Some hole) is behind rest =
        let own = bored a b d hole is in
        let three = three_first machine.incremental from hole more own.below (subst (λ (xs : List ArcAct). ArcsToTheEnd machine.incremental from (xs ++ more)) (sym own.acts) to_end) in
        subst (λ (xs : List ArcAct). Comes circles machine from (λ p. block_then p (hole_words p.held hole) (behind_hole p.held hole) (λ now. blocks_from now more)) (xs ++ more)) own.acts
        (hole_comes circles machine from hole (λ now. blocks_from now more) more three.0 (behind (behind_three machine.incremental from hole) three.1))

-- ---- a tape

-- the units stand in front, by themselves
units_first : (p : Posting) (u : Units) (more : List ArcAct) → p.held ≡ nothing_held → blocks_from p (arcs.Plain (acts.Units u) ∷ more) ≡ by_act.next_block p (arcs.Plain (acts.Units u)) ∷ blocks_from (by_act.next p (arcs.Plain (acts.Units u))) more
units_first p u [] none = rw none refl
units_first p u (b ∷ []) none = rw none refl
units_first p u (b ∷ c ∷ more) none = rw none refl

units_read : (circles : Bool) (machine : Machine) (u : Units) (more : List ArcAct) → AreTaken circles more → ArcsToTheEnd machine.incremental (behind machine.incremental nothing_held (acts.Units u)) more
    → AreRead (nothing_drilled circles) machine.short (blocks_from (at_start machine) (arcs.Plain (acts.Units u) ∷ more)) (arcs.Plain (acts.Units u) ∷ more)
units_read circles machine u more taken to_end =
    let p = at_start machine in
    let units = arcs.Plain (acts.Units u) in
    let now = behind machine.incremental nothing_held (acts.Units u) in
    let none : 0 < 9999 = omega arith in
    subst (λ lists. AreRead (nothing_drilled circles) machine.short lists (units ∷ more)) (sym (units_first p u more refl))
    (read_then (nothing_drilled circles) (control circles now None None) machine.short (by_act.next_block p units) (units ∷ []) (blocks_from (by_act.next p units) more) more
    (next_IsBlock p units none tt, units_means (nothing_drilled circles) p u refl none (record { drills = refl; kept = refl }))
    (acts_come circles machine now more taken to_end ((0 + machine.seq) % 9999) now None None (record { few = few_more 0 machine.seq; known = refl; kept = refl }) (record { x = refl; y = refl; z = refl })))

read_runs : (circles : Bool) (machine : Machine) (done : List ArcAct) → AreRead (nothing_drilled circles) machine.short (blocks_from (at_start machine) done) done → cycle_run circles machine.code (cycle_tape machine done) ≡ Ok done
read_runs circles machine done is =
    ap (λ chs. cycle_run circles machine.code (map (byte_of machine.code) (rewind_stop ∷ end_of_block ∷ chs))) (sym is.characters)
    ∙ spoken_runs cycle_meaning (nothing_drilled circles) machine.code machine.short is.blocks (λ at. refl) is.spoken
    ∙ ap Ok is.acts

-- a control runs the tape of a program to just its acts
pub cycle_tape_runs : (circles : Bool) (machine : Machine) (done : List ArcAct) → AreTaken circles done → IsArcProgram machine.incremental done → cycle_run circles machine.code (cycle_tape machine done) ≡ Ok done
cycle_tape_runs circles machine done taken is =
    subst (λ (done : List ArcAct). cycle_run circles machine.code (cycle_tape machine done) ≡ Ok done) (sym is.is)
    (read_runs circles machine (arcs.Plain (acts.Units is.units) ∷ is.more) (units_read circles machine is.units is.more (subst (AreTaken circles) is.is taken).1 is.to_the_end))
