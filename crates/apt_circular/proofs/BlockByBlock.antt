-- What is left of a tape with arcs: the blocks that a writer makes of the acts that are left.
use Rattle.std.proofs.Common.{◌≡◌, ◌∙◌, ℕ, ◌<◌, Bool, List, [], ◌∷◌, ◌++◌, length, None, Ok, refl, ap, sym, subst, arith, append-nil, append_assoc}
use Rattle.std.specs.List.{flat_map}
use Rattle.std.proofs.lemmas.List.{length-map, length-append}
use Rattle.apt_tapecode.specs.Tapecode.{byte_of}
use Rattle.apt_machine.specs.declared.machine.Machine.{Machine}
use Rattle.apt_block.specs.Block.{spelling, word_text, line_feed}
use Rattle.apt_control.specs.declared.Act.TheVariants as acts
use Rattle.apt_control.specs.declared.held.Held.{Held}
use Rattle.apt_control.specs.Control.{nothing_held}
use Rattle.apt_post.specs.Posting.{Posting}
use Rattle.apt_circular.specs.declared.ArcAct.{ArcAct}
use Rattle.apt_circular.specs.declared.ArcAct.TheVariants as arcs
use Rattle.apt_circular.specs.ArcTape.{behind_act, CanActs, CanAct, arc_tape, ArcsToTheEnd, IsArcProgram}
use Rattle.apt_circular.specs.ArcPosting.{posting_behind, StandsFor, next_block, next, block_bytes, posted}
use Rattle.apt_circular.specs.ArcBlocks.{arc_run}
use Rattle.apt_circular.specs.Fits.{IsFitting}
use Rattle.apt_circular.specs.Writable.{ArcsCan}
use Rattle.apt_circular.proofs.Posting.{stands_next, bytes_next}
use Rattle.apt_circular.proofs.Able.{are_program}
use Rattle.apt_circular.proofs.Running.{arc_tape_runs}

-- the tape of acts goes on with the blocks of those behind
goes_on : (p : Posting) (before behind : List ArcAct) → StandsFor p before → arc_tape p.machine (before ++ behind) ≡ arc_tape p.machine before ++ posted p behind
goes_on p before [] is = ap (arc_tape p.machine) (append-nil before) ∙ sym (append-nil (arc_tape p.machine before))
goes_on p before (act ∷ more) is =
    let bytes = block_bytes p act in
    ap (arc_tape p.machine) (sym (append_assoc before (act ∷ []) more))
    ∙ goes_on (next p act) (before ++ act ∷ []) more (stands_next p act before is)
    ∙ ap (λ done. done ++ posted (next p act) more) (bytes_next p act bytes refl before is)
    ∙ append_assoc (arc_tape p.machine before) bytes (posted (next p act) more)

-- before the first block all of it is left
pub all_left : (m : Machine) (acts : List ArcAct) → arc_tape m [] ++ posted (posting_behind m []) acts ≡ arc_tape m acts
all_left m acts = sym (goes_on (posting_behind m []) [] acts refl)

-- a block has bytes: it ends with its line feed
pub some_bytes : (p : Posting) (act : ArcAct) (done : List ℕ) → length done < length (done ++ block_bytes p act)
some_bytes p act done =
    let block = next_block p act in
    omega (arith, length-append done (block_bytes p act), length-map (spelling p.machine.short block) (byte_of p.machine.code), length-append (flat_map (word_text p.machine.short) block) (line_feed ∷ []))

-- ---- each act of a program can be written where those before it leave what holds

end_can : (incremental : Bool) (held : Held) (act : ArcAct) → act ≡ arcs.Plain acts.End → CanAct held act
end_can incremental held act is = subst (CanAct held) (sym is) tt

to_the_end_acts : (incremental : Bool) (held : Held) (done : List ArcAct) → ArcsToTheEnd incremental held done → CanActs incremental held done
to_the_end_acts incremental held [] is = tt
to_the_end_acts incremental held (act ∷ []) is = (end_can incremental held act is, tt)
to_the_end_acts incremental held (act ∷ next ∷ more) is = (is.0, to_the_end_acts incremental (behind_act incremental held act) (next ∷ more) is.2)

program_acts : (incremental : Bool) (done : List ArcAct) → IsArcProgram incremental done → CanActs incremental nothing_held done
program_acts incremental done is =
    let units = arcs.Plain (acts.Units is.units) in
    subst (CanActs incremental nothing_held) (sym is.is) (tt, to_the_end_acts incremental (behind_act incremental nothing_held units) is.more is.to_the_end)

-- acts that fit, and whose arcs can go from where the tool stands
pub plan_acts : (m : Machine) (done : List ArcAct) → IsFitting done → ArcsCan None done → CanActs m.incremental nothing_held done
plan_acts m done fit can = program_acts m.incremental done (are_program m.incremental done fit can)

pub plan_runs : (m : Machine) (done : List ArcAct) → IsFitting done → ArcsCan None done → arc_run m.code (arc_tape m done) ≡ Ok done
plan_runs m done fit can = arc_tape_runs m done (are_program m.incremental done fit can)
