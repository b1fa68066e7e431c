-- A control that cuts arcs runs the tape of acts to just these acts.
use Rattle.std.specs.Prelude.{◌≡◌, ℕ, ◌+◌, Bool, true, false, List, [], ◌∷◌, ◌++◌, map, Ok, IsSome}
use Rattle.std.specs.List.{flat_map}
use Rattle.std.proofs.Common.{ap, sym, subst, ◌∙◌, refl}
use Rattle.apt_words.specs.declared.Units.{Units}
use Rattle.apt_tapecode.specs.Tapecode.{byte_of, end_of_block, rewind_stop}
use Rattle.apt_machine.specs.declared.machine.Machine.{Machine}
use Rattle.apt_block.specs.Block.{spelling}
use Rattle.apt_control.specs.declared.Act.TheVariants as acts
use Rattle.apt_control.specs.declared.held.Held.{Held}
use Rattle.apt_control.specs.Control.{nothing_held}
use Rattle.apt_control.specs.Spoken.{Spoken, Means, AreSpoken, acts_of, characters_of}
use Rattle.apt_control.proofs.Runs.{spoken_runs}
use Rattle.apt_post.specs.Blocks.{behind}
use Rattle.apt_post.proofs.Meaning.{units_behind}
use Rattle.apt_circular.specs.declared.ArcAct.{ArcAct}
use Rattle.apt_circular.specs.declared.ArcAct.TheVariants as arcs
use Rattle.apt_circular.specs.ArcBlocks.{arc_meaning, arc_run}
use Rattle.apt_circular.specs.ArcTape.{block_at, behind_act, ends_it, blocks_on, arc_tape, ArcsToTheEnd, IsArcProgram, IsReadAs}
use Rattle.apt_circular.proofs.Meaning.{reads_back, units_read}

-- ---- the blocks of acts, as a control understands them

abbrev spoken : Machine → ℕ → Held → ArcAct → Spoken Held ArcAct
spoken machine k held act = record { words = block_at machine k held act; acts = act ∷ []; behind = behind_act machine.incremental held act }

abbrev spoken_on : Machine → ℕ → Held → List ArcAct → List (Spoken Held ArcAct)
spoken_on machine k held [] = []
spoken_on machine k held (act ∷ more) = spoken machine k held act ∷ spoken_on machine (k + 1) (behind_act machine.incremental held act) more

their_characters : (machine : Machine) (k : ℕ) (held : Held) (done : List ArcAct) → characters_of machine.short (spoken_on machine k held done) ≡ flat_map (spelling machine.short) (blocks_on machine k held done)
their_characters machine k held [] = refl
their_characters machine k held (act ∷ more) = ap (λ chs. spelling machine.short (block_at machine k held act) ++ chs) (their_characters machine (k + 1) (behind_act machine.incremental held act) more)

their_acts : (machine : Machine) (k : ℕ) (held : Held) (done : List ArcAct) → acts_of (spoken_on machine k held done) ≡ done
their_acts machine k held [] = refl
their_acts machine k held (act ∷ more) = ap (λ done. act ∷ done) (their_acts machine (k + 1) (behind_act machine.incremental held act) more)

-- a block that is read as its act
one_means : (machine : Machine) (k : ℕ) (held : Held) (act : ArcAct) (ends : Bool) → IsReadAs held (block_at machine k held act) (behind_act machine.incremental held act) act → ends_it act ≡ ends
    → Means arc_meaning held ends (spoken machine k held act)
one_means machine k held act ends reads is =
    record {
      is = reads.is;
      means_it = λ letters at. reads.means letters at ∙ ap (λ ends. Ok (record { held = behind_act machine.incremental held act; acts = act ∷ []; ends = ends })) is;
    }

known_behind : (incremental : Bool) (held : Held) (act : ArcAct) → IsSome held.units → IsSome (behind_act incremental held act).units
known_behind incremental held (arcs.Plain act) known = units_behind incremental held act known
known_behind incremental held (arcs.Arc turn x y z cx cy feed) known = known

last_means : (machine : Machine) (k : ℕ) (held : Held) → IsSome held.units → Means arc_meaning held true (spoken machine k held (arcs.Plain acts.End))
last_means machine k held known = one_means machine k held (arcs.Plain acts.End) true (reads_back machine k held (arcs.Plain acts.End) known tt) refl

-- acts to the end, where the units are known
are_spoken : (machine : Machine) (k : ℕ) (held : Held) (done : List ArcAct) → IsSome held.units → ArcsToTheEnd machine.incremental held done → AreSpoken arc_meaning held (spoken_on machine k held done)
are_spoken machine k held [] known is = absurd is
are_spoken machine k held (act ∷ []) known is = subst (λ (act : ArcAct). Means arc_meaning held true (spoken machine k held act)) (sym is) (last_means machine k held known)
are_spoken machine k held (act ∷ next ∷ more) known is = (
  one_means machine k held act false (reads_back machine k held act known is.0) is.1,
  are_spoken machine (k + 1) (behind_act machine.incremental held act) (next ∷ more) (known_behind machine.incremental held act known) is.2,
)

-- one that isn't the end, and those behind it
goes_on : (machine : Machine) (k : ℕ) (held : Held) (act : ArcAct) (more : List ArcAct) → Means arc_meaning held false (spoken machine k held act) → ArcsToTheEnd machine.incremental (behind_act machine.incremental held act) more
    → AreSpoken arc_meaning (behind_act machine.incremental held act) (spoken_on machine (k + 1) (behind_act machine.incremental held act) more) → AreSpoken arc_meaning held (spoken_on machine k held (act ∷ more))
goes_on machine k held act [] first is rest = absurd is
goes_on machine k held act (next ∷ more) first is rest = (first, rest)

-- ---- the run

units-run : (machine : Machine) (u : Units) (more : List ArcAct) → ArcsToTheEnd machine.incremental (behind machine.incremental nothing_held (acts.Units u)) more
    → arc_run machine.code (arc_tape machine (arcs.Plain (acts.Units u) ∷ more)) ≡ Ok (arcs.Plain (acts.Units u) ∷ more)
units-run machine u more is =
    let units = arcs.Plain (acts.Units u) in
    let all = units ∷ more in
    let now = behind machine.incremental nothing_held (acts.Units u) in
    let first = one_means machine 0 nothing_held units false (units_read machine u) refl in
    ap (λ chs. arc_run machine.code (map (byte_of machine.code) (rewind_stop ∷ end_of_block ∷ chs))) (sym (their_characters machine 0 nothing_held all))
    ∙ spoken_runs arc_meaning nothing_held machine.code machine.short (spoken_on machine 0 nothing_held all) (λ at. refl)
    (goes_on machine 0 nothing_held units more first is (are_spoken machine 1 now more refl is))
    ∙ ap Ok (their_acts machine 0 nothing_held all)

-- a control that cuts arcs runs the tape of a program to just its acts
pub arc_tape_runs : (machine : Machine) (done : List ArcAct) → IsArcProgram machine.incremental done → arc_run machine.code (arc_tape machine done) ≡ Ok done
arc_tape_runs machine done is =
    subst (λ (done : List ArcAct). arc_run machine.code (arc_tape machine done) ≡ Ok done) (sym is.is) (units-run machine is.units is.more is.to_the_end)
