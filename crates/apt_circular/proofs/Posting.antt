-- A writer of blocks with arcs stands for the acts whose blocks it has made.
use Rattle.std.proofs.Common.{◌≡◌, ◌∙◌, Bool, ℕ, ◌+◌, ◌*◌, ◌%◌, ◌-ℤ◌, List, [], ◌∷◌, ◌++◌, length, map, refl, ap, sym, subst, arith}
use Rattle.std.specs.List.{flat_map}
use Rattle.std.proofs.lemmas.List.{map-append, length-append}
use Rattle.apt_tapecode.specs.Tapecode.{byte_of, end_of_block, rewind_stop}
use Rattle.apt_machine.specs.declared.machine.Machine.{Machine}
use Rattle.apt_block.specs.Block.{spelling}
use Rattle.apt_control.specs.declared.held.Held.{Held}
use Rattle.apt_control.specs.Control.{nothing_held, or_zero}
use Rattle.apt_post.specs.Blocks.{IsCoordinate}
use Rattle.apt_post.specs.Posting.{Posting}
use Rattle.apt_post.proofs.Posting.{more_steps, spelled-append}
use Rattle.apt_circular.specs.declared.ArcAct.{ArcAct}
use Rattle.apt_circular.specs.declared.arc.Arc.{Arc}
use Rattle.apt_circular.specs.Writable.{CanArc}
use Rattle.apt_circular.specs.ArcTape.{behind_act, behind_acts, block_at, blocks_on, arc_text, arc_tape}
use Rattle.apt_circular.specs.ArcPosting.{posting_behind, StandsFor, next_block, next}

-- ---- one act more

behind_acts-append : (ways : Bool) (held : Held) (before : List ArcAct) (act : ArcAct) → behind_acts ways held (before ++ act ∷ []) ≡ behind_act ways (behind_acts ways held before) act
behind_acts-append ways held [] act = refl
behind_acts-append ways held (a ∷ before) act = behind_acts-append ways (behind_act ways held a) before act

blocks_on-append : (machine : Machine) (k : ℕ) (held : Held) (before : List ArcAct) (act : ArcAct)
    → blocks_on machine k held (before ++ act ∷ []) ≡ blocks_on machine k held before ++ block_at machine (k + length before) (behind_acts machine.incremental held before) act ∷ []
blocks_on-append machine k held [] act = ap (λ n. block_at machine n held act ∷ []) (none_more k)
  where
    none_more : (k : ℕ) → k ≡ k + 0
    none_more k = omega arith
blocks_on-append machine k held (a ∷ before) act =
    let ways = machine.incremental in
    let next = behind_act ways held a in
    let place : k + 1 + length before ≡ k + length (a ∷ before) = omega arith in
    ap (λ bs. block_at machine k held a ∷ bs) (blocks_on-append machine (k + 1) next before act)
    ∙ ap (λ n. block_at machine k held a ∷ (blocks_on machine (k + 1) next before ++ block_at machine n (behind_acts ways next before) act ∷ [])) place

-- ---- a writer that stands for acts

one_longer : (before : List ArcAct) (act : ArcAct) → length before + 1 ≡ length (before ++ act ∷ [])
one_longer before act = omega (arith, length-append before (act ∷ []))

behind_next : (machine : Machine) (before : List ArcAct) (act : ArcAct) → next (posting_behind machine before) act ≡ posting_behind machine (before ++ act ∷ [])
behind_next machine before act =
    let steps = more_steps (length before) machine.seq ∙ ap (λ n. (n * machine.seq) % 9999) (one_longer before act) in
    let held = sym (behind_acts-append machine.incremental nothing_held before act) in
    λ i. record { machine = machine; steps = steps i; held = held i }

pub stands_next : (p : Posting) (act : ArcAct) (before : List ArcAct) → StandsFor p before → StandsFor (next p act) (before ++ act ∷ [])
stands_next p act before is = ap (λ q. next q act) is ∙ behind_next p.machine before act

block_next : (p : Posting) (act : ArcAct) (before : List ArcAct) → StandsFor p before
    → blocks_on p.machine 0 nothing_held (before ++ act ∷ []) ≡ blocks_on p.machine 0 nothing_held before ++ next_block p act ∷ []
block_next p act before is =
    let blocks = blocks_on p.machine 0 nothing_held before in
    blocks_on-append p.machine 0 nothing_held before act
    ∙ ap (λ k. blocks ++ block_at p.machine k (behind_acts p.machine.incremental nothing_held before) act ∷ []) (from_zero (length before))
    ∙ ap (λ q. blocks ++ next_block q act ∷ []) (sym is)
  where
    from_zero : (n : ℕ) → 0 + n ≡ n
    from_zero n = omega arith

-- the characters of the tape go on with those of the next block
text_more : (p : Posting) (act : ArcAct) (before : List ArcAct) → StandsFor p before → arc_text p.machine (before ++ act ∷ []) ≡ arc_text p.machine before ++ spelling p.machine.short (next_block p act)
text_more p act before is =
    ap (λ t. rewind_stop ∷ end_of_block ∷ t)
    (ap (flat_map (spelling p.machine.short)) (block_next p act before is) ∙ spelled-append p.machine.short (blocks_on p.machine 0 nothing_held before) (next_block p act))

pub text_next : (p : Posting) (act : ArcAct) (text : List ℕ) → text ≡ spelling p.machine.short (next_block p act)
    → (before : List ArcAct) → StandsFor p before → arc_text p.machine (before ++ act ∷ []) ≡ arc_text p.machine before ++ text
text_next p act text is before stands = text_more p act before stands ∙ ap (λ t. arc_text p.machine before ++ t) (sym is)

-- and its bytes with theirs
pub bytes_next : (p : Posting) (act : ArcAct) (bytes : List ℕ) → bytes ≡ map (byte_of p.machine.code) (spelling p.machine.short (next_block p act))
    → (before : List ArcAct) → StandsFor p before → arc_tape p.machine (before ++ act ∷ []) ≡ arc_tape p.machine before ++ bytes
bytes_next p act bytes is before stands =
    ap (map (byte_of p.machine.code)) (text_more p act before stands)
    ∙ map-append (byte_of p.machine.code) (arc_text p.machine before) (spelling p.machine.short (next_block p act))
    ∙ ap (λ t. arc_tape p.machine before ++ t) (sym is)

-- ---- the words of an arc

-- the ways to the centre have words
pub centre_near : (held : Held) (a : Arc) → CanArc held a → IsCoordinate (a.cx -ℤ or_zero held.x) × IsCoordinate (a.cy -ℤ or_zero held.y)
centre_near held a can = (
  subst (λ v. IsCoordinate (a.cx -ℤ v)) (sym (ap or_zero can.holds.0)) can.goes.way_x,
  subst (λ v. IsCoordinate (a.cy -ℤ v)) (sym (ap or_zero can.holds.1)) can.goes.way_y,
)
