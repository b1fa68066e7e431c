-- What the words of a block say to a control that cuts arcs.
use Rattle.std.proofs.Common.{refl, ◌≡◌, ◌∙◌, ℕ, ◌==◌, ◌&&◌, ◌||◌, not, is_none, Bool, true, false, List, [], ◌∷◌, ◌++◌, map, Option, Some, None, Err, cond, sym, ap, subst, unsigned_abs, arith, append_assoc}
use Rattle.std.specs.Option.{option_map, option_or}
use Rattle.std.specs.Ordering.{int_eq}
use Rattle.std.proofs.lemmas.List.{map-append}
use Rattle.std.specs.List.{list_any}
use Rattle.std.proofs.lemmas.Bool.Decides.{nat_tests}
use Rattle.apt_block.specs.declared.block.TapeWord.{TapeWord}
use Rattle.apt_block.specs.Block.{is_in, is_letter, motions, units, distances, letter_g, letter_x, letter_y, letter_z, letter_i, letter_j, letter_r, letter_f, letter_s, letter_t, letter_m}
use Rattle.apt_block.specs.declared.block.BlockFault.{BlockFault}
use Rattle.apt_block.specs.declared.block.TapeCause.{TapeCause}
use Rattle.apt_block.specs.declared.block.TapeCause.TheVariants as causes
use Rattle.apt_block.specs.Block.{fault}
use Rattle.apt_control.specs.declared.Act.{Act}
use Rattle.apt_control.specs.declared.held.Held.{Held}
use Rattle.apt_control.specs.Limits.{IsHeld}
use Rattle.apt_control.specs.declared.held.Said.{Said}
use Rattle.apt_control.specs.declared.held.Passing.{Passing}
use Rattle.apt_control.specs.Control.{units_of, with_code, is_foreign, with_value, said_of, with_said, place_of, is_mixed, has_position, leaves_limit, or_zero, has_code, unit_acts, acts_before, move_acts, acts_after, block_acts, end_fault, unless_fault}
use Rattle.apt_control.specs.Passing.{passing}
use Rattle.apt_control.proofs.Saying.{foreign_said, no_place}
use Rattle.apt_control.proofs.Kept.{within_limit, fine_held, none_behind}
use Rattle.apt_circular.specs.declared.ArcAct.{ArcAct}
use Rattle.apt_circular.specs.declared.ArcAct.TheVariants as arcs
use Rattle.apt_circular.specs.declared.instruction.Instruction.{Instruction}
use Rattle.apt_circular.specs.ArcBlocks.{act_of, is_foreign_round, is_arc, xy_of, is_same, is_no_arc, arc_fault, turn_by, arc_of, round_fault, round_acts, unless_foreign, arc_meaning}
use Rattle.apt_circular.specs.Instructions.{IsInstruction, centre_by, motion_acts, block_fault}

neither : (s t : Bool) → (s || t) ≡ false → (s ≡ false) × (t ≡ false)
neither true t e = absurd cc
neither false t e = (refl, e)

-- ---- the way to a centre

-- a G code gives none
code_i : (code : ℕ) (more : Said) → (with_code code more).i ≡ more.i
code_i code more = go (is_in motions code) (is_in units code) (is_in distances code)
  where
    go : (a b c : Bool)
        → (cond a (record more { motion = Some code }) (cond b (record more { units = Some (units_of code) }) (cond c (record more { incremental = Some (code == 91) }) more))).i ≡ more.i
    go true b c = refl
    go false true c = refl
    go false false true = refl
    go false false false = refl

code_j : (code : ℕ) (more : Said) → (with_code code more).j ≡ more.j
code_j code more = go (is_in motions code) (is_in units code) (is_in distances code)
  where
    go : (a b c : Bool)
        → (cond a (record more { motion = Some code }) (cond b (record more { units = Some (units_of code) }) (cond c (record more { incremental = Some (code == 91) }) more))).j ≡ more.j
    go true b c = refl
    go false true c = refl
    go false false true = refl
    go false false false = refl

-- nor does a word of another letter
value_i : (w : TapeWord) (more : Said) → is_letter letter_i w ≡ false → (with_value w more).i ≡ more.i
value_i w more other =
    go (is_letter letter_g w) (is_letter letter_x w) (is_letter letter_y w) (is_letter letter_z w) (is_letter letter_i w) (is_letter letter_j w) (is_letter letter_r w) (is_letter letter_f w) (is_letter letter_s w) (is_letter letter_t w) (is_letter letter_m w) other
  where
    go : (g x y z i j r f s t m : Bool) → i ≡ false
        → (cond g (with_code (unsigned_abs w.value) more) (cond x (record more { x = Some w.value }) (cond y (record more { y = Some w.value }) (cond z (record more { z = Some w.value })
        (cond i (record more { i = Some w.value }) (cond j (record more { j = Some w.value }) (cond r (record more { r = Some w.value }) (cond f (record more { feed = Some w.value })
        (cond s (record more { speed = Some w.value }) (cond t (record more { tool = Some w.value }) (cond m (record more { code = Some (unsigned_abs w.value) }) more))))))))))).i ≡ more.i
    go true x y z i j r f s t m e = code_i (unsigned_abs w.value) more
    go false true y z i j r f s t m e = refl
    go false false true z i j r f s t m e = refl
    go false false false true i j r f s t m e = refl
    go false false false false true j r f s t m e = absurd cc
    go false false false false false true r f s t m e = refl
    go false false false false false false true f s t m e = refl
    go false false false false false false false true s t m e = refl
    go false false false false false false false false true t m e = refl
    go false false false false false false false false false true m e = refl
    go false false false false false false false false false false true e = refl
    go false false false false false false false false false false false e = refl

value_j : (w : TapeWord) (more : Said) → is_letter letter_j w ≡ false → (with_value w more).j ≡ more.j
value_j w more other =
    go (is_letter letter_g w) (is_letter letter_x w) (is_letter letter_y w) (is_letter letter_z w) (is_letter letter_i w) (is_letter letter_j w) (is_letter letter_r w) (is_letter letter_f w) (is_letter letter_s w) (is_letter letter_t w) (is_letter letter_m w) other
  where
    go : (g x y z i j r f s t m : Bool) → j ≡ false
        → (cond g (with_code (unsigned_abs w.value) more) (cond x (record more { x = Some w.value }) (cond y (record more { y = Some w.value }) (cond z (record more { z = Some w.value })
        (cond i (record more { i = Some w.value }) (cond j (record more { j = Some w.value }) (cond r (record more { r = Some w.value }) (cond f (record more { feed = Some w.value })
        (cond s (record more { speed = Some w.value }) (cond t (record more { tool = Some w.value }) (cond m (record more { code = Some (unsigned_abs w.value) }) more))))))))))).j ≡ more.j
    go true x y z i j r f s t m e = code_j (unsigned_abs w.value) more
    go false true y z i j r f s t m e = refl
    go false false true z i j r f s t m e = refl
    go false false false true i j r f s t m e = refl
    go false false false false true j r f s t m e = refl
    go false false false false false true r f s t m e = absurd cc
    go false false false false false false true f s t m e = refl
    go false false false false false false false true s t m e = refl
    go false false false false false false false false true t m e = refl
    go false false false false false false false false false true m e = refl
    go false false false false false false false false false false true e = refl
    go false false false false false false false false false false false e = refl

-- a word that belongs to plain blocks too has another letter
plain_letters : (w : TapeWord) → is_foreign w ≡ false → (is_letter letter_i w ≡ false) × (is_letter letter_j w ≡ false)
plain_letters w known = grind (arith, nat_tests)

-- words that belong to plain blocks give no way to a centre
plain_ways : (words : List TapeWord) → list_any is_foreign words ≡ false → ((said_of words).i ≡ None) × ((said_of words).j ≡ None)
plain_ways [] known = (refl, refl)
plain_ways (w ∷ words) known =
    let parts = neither (is_foreign w) (list_any is_foreign words) known in
    let other = plain_letters w parts.0 in
    let later = plain_ways words parts.1 in
    (value_i w (said_of words) other.0 ∙ later.0, value_j w (said_of words) other.1 ∙ later.1)

pub none_known : (said : Passing) (words : List TapeWord) → said ≡ passing (said_of words) → said.foreign ≡ false → list_any is_foreign words ≡ false
none_known said words is none = sym (ap (λ (s : Passing). s.foreign) is ∙ foreign_said words) ∙ none

-- nor does a block without a word that is foreign to plain ones
pub no_way_i : (said : Passing) (words : List TapeWord) → said ≡ passing (said_of words) → said.foreign ≡ false → None ≡ (said_of words).i
no_way_i said words is none = sym (plain_ways words (none_known said words is none)).0

pub no_way_j : (said : Passing) (words : List TapeWord) → said ≡ passing (said_of words) → said.foreign ≡ false → None ≡ (said_of words).j
no_way_j said words is none = sym (plain_ways words (none_known said words is none)).1

-- ---- foreign words

-- words of which one test holds for none, where another holds for no more
pub all_known : (few more : TapeWord → Bool) (words : List TapeWord) → ((w : TapeWord) → more w ≡ false → few w ≡ false) → list_any more words ≡ false → list_any few words ≡ false
all_known few more [] known none = refl
all_known few more (w ∷ words) known none =
    let parts = neither (more w) (list_any more words) none in
    ap (λ t. t || list_any few words) (known w parts.0) ∙ all_known few more words known parts.1

-- what has a meaning in plain blocks has one in all
known_still : (motion : Option ℕ) (w : TapeWord) → is_foreign w ≡ false → is_foreign_round motion w ≡ false
known_still motion w known = grind (arith, nat_tests)

pub none_foreign : (motion : Option ℕ) (said : Passing) (letters : List ℕ) (words : List TapeWord) → said ≡ passing (said_of words) → said.foreign ≡ false
    → place_of (is_foreign_round motion) letters words ≡ None
none_foreign motion said letters words is none =
    no_place (is_foreign_round motion) letters words (all_known (is_foreign_round motion) is_foreign words (known_still motion) (none_known said words is none))

-- ---- an arc

no_arc_parts : (a b c d e : Bool) → (a || (b || c || d) || e) ≡ (a || b || c || d || e)
no_arc_parts true b c d e = refl
no_arc_parts false true c d e = refl
no_arc_parts false false true d e = refl
no_arc_parts false false false d e = refl

-- whether an instruction is no arc
pub no_arc_is : (held : Held) (more : Said) (b : Instruction) → IsInstruction held more b
    → ((is_none b.way.i && is_none b.way.j)
    || (is_same (xy_of b.before) (centre_by b.before b.way.i b.way.j) || is_same (xy_of b.behind) (centre_by b.before b.way.i b.way.j) || is_same (xy_of b.before) (xy_of b.behind))
    || not (int_eq (or_zero b.before.z) (or_zero b.behind.z))) ≡ is_no_arc held (with_said held more) more
no_arc_is held more b is =
    no_arc_parts (is_none b.way.i && is_none b.way.j) (is_same (xy_of b.before) (centre_by b.before b.way.i b.way.j)) (is_same (xy_of b.behind) (centre_by b.before b.way.i b.way.j)) (is_same (xy_of b.before) (xy_of b.behind)) (not (int_eq (or_zero b.before.z) (or_zero b.behind.z)))
    ∙ λ n. is_no_arc (is.before n) (is.behind n) (record more { i = is.i n; j = is.j n })

-- the arc of an instruction
pub arc_is : (held : Held) (more : Said) (b : Instruction) → IsInstruction held more b
    → arcs.Arc (turn_by b.behind.motion) (xy_of b.behind).x (xy_of b.behind).y (or_zero b.behind.z) (centre_by b.before b.way.i b.way.j).x (centre_by b.before b.way.i b.way.j).y (or_zero b.behind.feed)
    ≡ act_of (arc_of held (with_said held more) more)
arc_is held more b is = λ n. act_of (arc_of (is.before n) (is.behind n) (record more { i = is.i n; j = is.j n }))

-- ---- the acts of a block

in_plain : (before : List ArcAct) (xs ys : List Act) → (before ++ map arcs.Plain xs) ++ map arcs.Plain ys ≡ before ++ map arcs.Plain (xs ++ ys)
in_plain before xs ys = append_assoc before (map arcs.Plain xs) (map arcs.Plain ys) ∙ ap (λ (l : List ArcAct). before ++ l) (sym (map-append arcs.Plain xs ys))

-- the acts of a block, one part behind the other
pub acts_are : (before : List ArcAct) (held now : Held) (said : Said)
    → (((before ++ map arcs.Plain (unit_acts said)) ++ map arcs.Plain (acts_before said)) ++ motion_acts held now said) ++ map arcs.Plain (acts_after said) ≡ before ++ round_acts held now said
acts_are before held now said = go (is_arc now said)
  where
    go : (t : Bool)
        → (((before ++ map arcs.Plain (unit_acts said)) ++ map arcs.Plain (acts_before said)) ++ cond t (act_of (arc_of held now said) ∷ []) (map arcs.Plain (move_acts now said))) ++ map arcs.Plain (acts_after said)
        ≡ before ++ cond t (map arcs.Plain (unit_acts said ++ acts_before said) ++ act_of (arc_of held now said) ∷ map arcs.Plain (acts_after said)) (map arcs.Plain (block_acts now said))
    go true =
        ap (λ (l : List ArcAct). (l ++ act_of (arc_of held now said) ∷ []) ++ map arcs.Plain (acts_after said)) (in_plain before (unit_acts said) (acts_before said))
        ∙ append_assoc (before ++ map arcs.Plain (unit_acts said ++ acts_before said)) (act_of (arc_of held now said) ∷ []) (map arcs.Plain (acts_after said))
        ∙ append_assoc before (map arcs.Plain (unit_acts said ++ acts_before said)) (act_of (arc_of held now said) ∷ map arcs.Plain (acts_after said))
    go false =
        ap (λ (l : List ArcAct). (l ++ map arcs.Plain (move_acts now said)) ++ map arcs.Plain (acts_after said)) (in_plain before (unit_acts said) (acts_before said))
        ∙ ap (λ (l : List ArcAct). l ++ map arcs.Plain (acts_after said)) (in_plain before (unit_acts said ++ acts_before said) (move_acts now said))
        ∙ in_plain before (unit_acts said ++ acts_before said ++ move_acts now said) (acts_after said)

-- ---- what holds behind a block

arc_limit : (a b c d e f : Bool) → cond a (Some causes.BadMix) (cond b (Some causes.NoUnits) (cond c (Some causes.NoPosition) (cond d (Some causes.Limit) (cond e (Some causes.NoFeed) (cond f (Some causes.BadArc) None))))) ≡ None → d ≡ false
arc_limit true b c d e f g = absurd cc
arc_limit false true c d e f g = absurd cc
arc_limit false false true d e f g = absurd cc
arc_limit false false false true e f g = absurd cc
arc_limit false false false false e f g = refl

arc_held : (held now : Held) (said : Said) → arc_fault held now said ≡ None → IsHeld now
arc_held held now said fine =
    within_limit now (arc_limit (is_mixed said) (is_none now.units) (not (has_position held)) (leaves_limit now) (is_none now.feed) (is_no_arc held now said) fine)

pub round_held : (held : Held) (said : Said) → IsHeld held → round_fault held (with_said held said) said ≡ None → IsHeld (with_said held said)
round_held held said is fine = go (is_arc (with_said held said) said) fine
  where
    go : (arc : Bool) → cond arc (arc_fault held (with_said held said) said) (end_fault (with_said held said) said) ≡ None → IsHeld (with_said held said)
    go true fine = arc_held held (with_said held said) said fine
    go false fine = fine_held held said is fine

-- what holds behind a block that has no fault
pub kept : (held now : Held) (letters : List ℕ) (at : ℕ) (words : List TapeWord) (o : Option BlockFault) → IsHeld held → now ≡ with_said held (said_of words)
    → o ≡ block_fault held letters at words → o ≡ None → IsHeld now
kept held now letters at words o is holds same none =
    let fine = none_behind (option_map (λ place. fault place causes.Foreign) (place_of (is_foreign_round (with_said held (said_of words)).motion) letters words)) at (round_fault held (with_said held (said_of words)) (said_of words)) (sym same ∙ none) in
    subst IsHeld (sym holds) (round_held held (said_of words) is fine)

-- ---- the meaning of a block

pub by_foreign : {A : Type 0} (place : Option ℕ) (at : ℕ) (cause : Option TapeCause) (x : A)
    → unless_fault (option_or (option_map (λ p. fault p causes.Foreign) place) (option_map (fault at) cause)) x ≡ unless_foreign place (unless_fault (option_map (fault at) cause) x)
by_foreign None at cause x = refl
by_foreign (Some p) at cause x = refl

-- a block means its acts unless it has a fault
pub means_unless : (held : Held) (letters : List ℕ) (at : ℕ) (words : List TapeWord) (o : Option BlockFault) → o ≡ block_fault held letters at words
    → arc_meaning held letters at words
    ≡ unless_fault o (record { held = with_said held (said_of words); acts = round_acts held (with_said held (said_of words)) (said_of words); ends = has_code (2 ∷ []) (said_of words) })
means_unless held letters at words o same =
    sym (by_foreign (place_of (is_foreign_round (with_said held (said_of words)).motion) letters words) at (round_fault held (with_said held (said_of words)) (said_of words)) _)
    ∙ ap (λ o. unless_fault o (record { held = with_said held (said_of words); acts = round_acts held (with_said held (said_of words)) (said_of words); ends = has_code (2 ∷ []) (said_of words) })) (sym same)

-- the first fault of a block is what it means
pub means_fault : (held : Held) (letters : List ℕ) (at : ℕ) (words : List TapeWord) (f : BlockFault) → Some f ≡ block_fault held letters at words → arc_meaning held letters at words ≡ Err f
means_fault held letters at words f same = means_unless held letters at words (Some f) same
