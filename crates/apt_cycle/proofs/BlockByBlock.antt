-- What is left of a tape with holes: the blocks that a writer makes of the acts that are left.
use Rattle.std.proofs.Common.{◌≡◌, ◌∙◌, ℕ, ◌<◌, ◌≤◌, inl, inr, Bool, true, false, List, [], ◌∷◌, ◌++◌, length, map, drop, Option, Some, None, Ok, refl, ap, sym, subst, arith, append-nil, append_assoc}
use Rattle.std.specs.List.{flat_map}
use Rattle.std.proofs.Math.Seq.{drop-append_seam}
use Rattle.std.proofs.lemmas.List.{length-map, length-append, map-append}
use Rattle.apt_tapecode.specs.Tapecode.{byte_of}
use Rattle.apt_machine.specs.declared.machine.Machine.{Machine}
use Rattle.apt_block.specs.Block.{spelling, word_text, line_feed, IsBlock}
use Rattle.apt_control.specs.declared.held.Held.{Held}
use Rattle.apt_post.specs.Posting.{Posting, next_number, behind_told}
use Rattle.apt_post.specs.Blocks.{g}
use Rattle.apt_post.proofs.Standing.{next_number_of, next_number-IsNumber, next_number-words}
use Rattle.apt_circular.specs.declared.ArcAct.{ArcAct}
use Rattle.apt_circular.specs.ArcTape.{behind_act, CanAct, CanActs}
use Rattle.apt_circular.specs.Fits.{IsFitting}
use Rattle.apt_circular.specs.Writable.{ArcsCan}
use Rattle.apt_circular.proofs.Able.{are_program}
use Rattle.apt_circular.proofs.Meaning.{next_IsBlock}
use Rattle.apt_cycle.specs.declared.hole.Hole.{Hole}
use Rattle.apt_cycle.specs.CycleBlocks.{drills, cycle_run}
use Rattle.apt_cycle.specs.Holes.{as_hole, hole_words}
use Rattle.apt_cycle.specs.CycleTape.{closed, at_start, cycle_tape, Next, next_by, next, next_block, behind_next, next_bytes, text_left, posted}
use Rattle.apt_cycle.specs.Windows.{IsFront}
use Rattle.apt_cycle.specs.Writable.{AreTaken}
use Rattle.apt_cycle.proofs.Holes.{bored}
use Rattle.apt_cycle.proofs.Next.{blocks_next}
use Rattle.apt_cycle.proofs.Standing.{hole-IsBlock, close-IsBlock}
use Rattle.apt_cycle.proofs.Places.{same_acts, can_bore, left_can}
use Rattle.apt_cycle.proofs.Running.{cycle_tape_runs}

-- the characters of acts that are left go on with those of the next block, and so do their bytes
pub text_next : (p : Posting) (acts : List ArcAct) → 0 < length acts → text_left p acts ≡ spelling p.machine.short (next_block p acts) ++ text_left (behind_next p acts) (drop (next p acts).count acts)
text_next p [] some = absurd (omega (arith, some))
text_next p (a ∷ more) some = ap (flat_map (spelling p.machine.short)) (blocks_next p a more)

posted_next : (p : Posting) (a : ArcAct) (more : List ArcAct) → posted p (a ∷ more) ≡ next_bytes p (a ∷ more) ++ posted (behind_next p (a ∷ more)) (drop (next p (a ∷ more)).count (a ∷ more))
posted_next p a more =
    let acts = a ∷ more in
    ap (map (byte_of p.machine.code)) (ap (flat_map (spelling p.machine.short)) (blocks_next p a more))
    ∙ map-append (byte_of p.machine.code) (spelling p.machine.short (next_block p acts)) (text_left (behind_next p acts) (drop (next p acts).count acts))

-- the front of acts that are left decides the next block
front_decides : (p : Posting) (front left : List ArcAct) → length front ≤ 3 → IsFront front left → next p front ≡ next p (front ++ left)
front_decides p front left few (inr none) = ap (next p) (sym (append-nil front) ∙ ap (λ l. front ++ l) (sym none))
front_decides p [] left few (inl three) = absurd (omega (arith, three))
front_decides p (a ∷ []) left few (inl three) = absurd (omega (arith, three))
front_decides p (a ∷ b ∷ []) left few (inl three) = absurd (omega (arith, three))
front_decides p (a ∷ b ∷ c ∷ []) left few (inl three) = refl
front_decides p (a ∷ b ∷ c ∷ d ∷ more) left few (inl three) = absurd (omega (arith, few))

pub posted_on : (p : Posting) (front left : List ArcAct) → length front ≤ 3 → IsFront front left → 0 < length front
    → posted p (front ++ left) ≡ next_bytes p front ++ posted (behind_next p front) (drop (next p front).count (front ++ left))
posted_on p [] left few is some = absurd (omega (arith, some))
posted_on p (a ∷ more) left few is some =
    posted_next p a (more ++ left)
    ∙ ap (λ n. map (byte_of p.machine.code) (spelling p.machine.short (next_number p ++ n.words)) ++ posted (behind_told p n.held) (drop n.count ((a ∷ more) ++ left))) (sym (front_decides p (a ∷ more) left few is))

-- bytes that were taken, and those that are left
pub taken_on : (p q : Posting) (done text : List ℕ) (front left rest : List ArcAct) (count : ℕ) → length front ≤ 3 → IsFront front left → 0 < length front
    → text ≡ done ++ next_bytes p front → q ≡ behind_next p front → count ≡ (next p front).count → rest ≡ drop count (front ++ left) → done ++ posted p (front ++ left) ≡ text ++ posted q rest
taken_on p q done text front left rest count few is some is_text is_q is_count is_rest =
    ap (λ bytes. done ++ bytes) (posted_on p front left few is some)
    ∙ sym (append_assoc done (next_bytes p front) (posted (behind_next p front) (drop (next p front).count (front ++ left))))
    ∙ λ i. sym is_text i ++ posted (sym is_q i) (sym (is_rest ∙ ap (λ n. drop n (front ++ left)) is_count) i)

-- all acts at the front are passed at once
pub all_passed : (front left : List ArcAct) (count : ℕ) → count ≡ length front → left ≡ drop count (front ++ left)
all_passed front left count e = sym (ap (λ n. drop n (front ++ left)) e ∙ drop-append_seam front left)

-- where no act is at the front none is left
pub none_posted : (p : Posting) (front left : List ArcAct) → IsFront front left → length front ≡ 0 → posted p (front ++ left) ≡ []
none_posted p [] left (inl three) none = absurd (omega (arith, three))
none_posted p [] left (inr end) none = ap (posted p) end
none_posted p (a ∷ front) left is none = absurd (omega (arith, none))

-- before the first block all of it is left
pub all_left : (m : Machine) (acts : List ArcAct) → cycle_tape m [] ++ posted (at_start m) acts ≡ cycle_tape m acts
all_left m acts = refl

-- a block has bytes: it ends with its line feed
pub some_bytes : (p : Posting) (front : List ArcAct) (done : List ℕ) → length done < length (done ++ next_bytes p front)
some_bytes p front done =
    let block = next_block p front in
    omega (arith, length-append done (next_bytes p front), length-map (spelling p.machine.short block) (byte_of p.machine.code), length-append (flat_map (word_text p.machine.short) block) (line_feed ∷ []))

-- ---- what is left can be written where the next block leaves what holds

abbrev CanBehind : Posting → List ArcAct → Type 0
CanBehind p acts = CanActs p.machine.incremental (behind_next p acts).held (drop (next p acts).count acts)

pub next_can : (p : Posting) (acts : List ArcAct) → CanActs p.machine.incremental p.held acts → CanBehind p acts
next_can p [] can = tt
next_can p (a ∷ []) can = by (drills p.held.motion)
  where
    by : (t : Bool) → CanActs p.machine.incremental (next_by None t p a).held (drop (next_by None t p a).count (a ∷ []))
    by true = same_acts p.machine.incremental p.held (closed p.held) (a ∷ []) (record { x = refl; y = refl; z = refl }) can
    by false = tt
next_can p (a ∷ b ∷ []) can = by (drills p.held.motion)
  where
    by : (t : Bool) → CanActs p.machine.incremental (next_by None t p a).held (drop (next_by None t p a).count (a ∷ b ∷ []))
    by true = same_acts p.machine.incremental p.held (closed p.held) (a ∷ b ∷ []) (record { x = refl; y = refl; z = refl }) can
    by false = can.1
next_can p (a ∷ b ∷ c ∷ more) can = by (as_hole a b c) refl (drills p.held.motion)
  where
    by : (o : Option Hole) → as_hole a b c ≡ o → (t : Bool) → CanActs p.machine.incremental (next_by o t p a).held (drop (next_by o t p a).count (a ∷ b ∷ c ∷ more))
    by (Some hole) is t = left_can p.machine.incremental p.held hole a b c more (bored a b c hole is) can
    by None is true = same_acts p.machine.incremental p.held (closed p.held) (a ∷ b ∷ c ∷ more) (record { x = refl; y = refl; z = refl }) can
    by None is false = can.1

pub front_then_can : (p q : Posting) (front left rest : List ArcAct) (count : ℕ) → length front ≤ 3 → IsFront front left → CanActs p.machine.incremental p.held (front ++ left)
    → q ≡ behind_next p front → count ≡ (next p front).count → rest ≡ drop count (front ++ left) → CanActs q.machine.incremental q.held rest
front_then_can p q front left rest count few is can is_q is_count is_rest =
    let behind : CanActs p.machine.incremental (behind_next p front).held (drop (next p front).count (front ++ left)) =
    subst (λ (n : Next). CanActs p.machine.incremental n.held (drop n.count (front ++ left))) (sym (front_decides p front left few is)) (next_can p (front ++ left) can) in
    subst (λ (q : Posting). CanActs q.machine.incremental q.held rest) (sym is_q)
    (subst (CanActs p.machine.incremental (behind_next p front).held) (sym (is_rest ∙ ap (λ n. drop n (front ++ left)) is_count)) behind)

-- in front of others too
pub front_can : (incremental : Bool) (held : Held) (front left : List ArcAct) → CanActs incremental held (front ++ left) → CanActs incremental held front
front_can incremental held [] left can = tt
front_can incremental held (a ∷ front) left can = (can.0, front_can incremental (behind_act incremental held a) front left can.1)

single_stands : (p : Posting) (act : ArcAct) (t : Bool) → p.steps < 9999 → CanAct p.held act → IsBlock (next_number p ++ (next_by None t p act).words)
single_stands p act true few can = subst (λ ns. IsBlock (ns ++ g 80 ∷ [])) (sym (next_number-words p)) (close-IsBlock (next_number_of p) (next_number-IsNumber p few))
single_stands p act false few can = next_IsBlock p act few can

-- the next block of acts that can be written is a block
pub next_stands : (p : Posting) (acts : List ArcAct) → p.steps < 9999 → 0 < length acts → CanActs p.machine.incremental p.held acts → IsBlock (next_block p acts)
next_stands p [] few some can = absurd (omega (arith, some))
next_stands p (a ∷ []) few some can = single_stands p a (drills p.held.motion) few can.0
next_stands p (a ∷ b ∷ []) few some can = single_stands p a (drills p.held.motion) few can.0
next_stands p (a ∷ b ∷ c ∷ more) few some can = by (as_hole a b c) refl
  where
    by : (o : Option Hole) → as_hole a b c ≡ o → IsBlock (next_number p ++ (next_by o (drills p.held.motion) p a).words)
    by (Some hole) is =
        subst (λ ns. IsBlock (ns ++ hole_words p.held hole)) (sym (next_number-words p))
        (hole-IsBlock (next_number_of p) p.held hole (next_number-IsNumber p few) (can_bore p.machine.incremental p.held hole a b c more (bored a b c hole is) can))
    by None is = single_stands p a (drills p.held.motion) few can.0

-- ---- a plan

-- acts that fit, and whose arcs can go from where the tool stands
pub plan_runs : (circles : Bool) (m : Machine) (done : List ArcAct) → AreTaken circles done → IsFitting done → ArcsCan None done → cycle_run circles m.code (cycle_tape m done) ≡ Ok done
plan_runs circles m done taken fit can = cycle_tape_runs circles m done taken (are_program m.incremental done fit can)
