-- What the words of a block say to a control with drill cycles, and what holds behind it.
use Rattle.std.proofs.Common.{refl, ◌≡◌, ◌∙◌, ◌<◌, ◌^◌, ◌==◌, ◌||◌, not, ℕ, ℤ, Bool, true, false, List, [], ◌∷◌, ◌++◌, map, Option, Some, None, is_some, is_none, unwrap_or, IfSome, Result, cond, sym, ap, subst, unsigned_abs, arith, append_assoc}
use Rattle.std.specs.Option.{option_map}
use Rattle.std.proofs.lemmas.List.{map-append}
use Rattle.std.proofs.lemmas.Bool.Decides.{nat_tests}
use Rattle.apt_block.specs.declared.block.BlockFault.{BlockFault}
use Rattle.apt_block.specs.declared.block.TapeCause.TheVariants as causes
use Rattle.apt_block.specs.declared.block.TapeWord.{TapeWord}
use Rattle.apt_block.specs.Block.{fault}
use Rattle.apt_control.specs.declared.Act.{Act}
use Rattle.apt_control.specs.declared.held.Said.{Said}
use Rattle.apt_control.specs.declared.held.Passing.{Passing}
use Rattle.apt_control.specs.Control as plain
use Rattle.apt_control.specs.Control.{Meaning, said_of, with_said, place_of, coordinate, is_mixed, is_far, has_code, unit_acts, acts_before, acts_after, unless_fault}
use Rattle.apt_control.specs.Limits.{IsHeld}
use Rattle.apt_control.specs.Passing.{passing}
use Rattle.apt_control.proofs.Saying.{no_place}
use Rattle.apt_control.proofs.Kept.{none_behind}
use Rattle.apt_words.proofs.Bools.{neither}
use Rattle.apt_circular.specs.declared.ArcAct.{ArcAct}
use Rattle.apt_circular.specs.declared.ArcAct.TheVariants as arcs
use Rattle.apt_circular.specs.ArcBlocks.{round_fault, unless_foreign}
use Rattle.apt_circular.proofs.Instructions.{none_known, all_known, round_held, by_foreign}
use Rattle.apt_cycle.specs.declared.reading.CycleHeld.{CycleHeld}
use Rattle.apt_cycle.specs.Blocks.{IsCycleHeld, block_fault}
use Rattle.apt_cycle.specs.CycleBlocks.{drills, motion_behind, is_foreign, is_hole, hole_behind, held_behind, behind_block, is_below, hole_missing, hole_fault, moves_of, hole_acts, cycle_fault, cycle_acts, cycle_meaning}

-- ---- foreign words

-- what has a meaning in plain blocks has one in all
pub known_still : (circles : Bool) (motion : Option ℕ) (w : TapeWord) → plain.is_foreign w ≡ false → is_foreign circles motion w ≡ false
known_still circles motion w known = grind (arith, nat_tests)

pub none_foreign : (circles : Bool) (motion : Option ℕ) (said : Passing) (letters : List ℕ) (words : List TapeWord) → said ≡ passing (said_of words) → said.foreign ≡ false
    → place_of (is_foreign circles motion) letters words ≡ None
none_foreign circles motion said letters words is none =
    no_place (is_foreign circles motion) letters words (all_known (is_foreign circles motion) plain.is_foreign words (known_still circles motion) (none_known said words is none))

-- ---- the acts of a hole

in_plain : (before : List ArcAct) (xs ys : List Act) → (before ++ map arcs.Plain xs) ++ map arcs.Plain ys ≡ before ++ map arcs.Plain (xs ++ ys)
in_plain before xs ys = append_assoc before (map arcs.Plain xs) (map arcs.Plain ys) ∙ ap (λ (l : List ArcAct). before ++ l) (sym (map-append arcs.Plain xs ys))

-- one part behind the other
pub acts_are : (before : List ArcAct) (now : CycleHeld) (said : Said)
    → (((before ++ map arcs.Plain (unit_acts said)) ++ map arcs.Plain (acts_before said)) ++ map arcs.Plain (moves_of now said)) ++ map arcs.Plain (acts_after said) ≡ before ++ hole_acts now said
acts_are before now said =
    ap (λ (l : List ArcAct). (l ++ map arcs.Plain (moves_of now said)) ++ map arcs.Plain (acts_after said)) (in_plain before (unit_acts said) (acts_before said))
    ∙ ap (λ (l : List ArcAct). l ++ map arcs.Plain (acts_after said)) (in_plain before (unit_acts said ++ acts_before said) (moves_of now said))
    ∙ in_plain before (unit_acts said ++ acts_before said ++ moves_of now said) (acts_after said)

-- three acts more, which are these
pub three_behind : (done one two all : List ArcAct) (a b c x y z : ArcAct) → a ≡ x → b ≡ y → c ≡ z → one ≡ done ++ a ∷ [] → two ≡ one ++ b ∷ [] → all ≡ two ++ c ∷ [] → all ≡ done ++ x ∷ y ∷ z ∷ []
three_behind done one two all a b c x y z is_x is_y is_z p q r =
    r ∙ ap (λ l. l ++ c ∷ []) (q ∙ ap (λ l. l ++ b ∷ []) p) ∙ append_assoc (done ++ a ∷ []) (b ∷ []) (c ∷ []) ∙ append_assoc done (a ∷ []) (b ∷ c ∷ [])
    ∙ λ i. done ++ is_x i ∷ is_y i ∷ is_z i ∷ []

-- ---- what holds behind a block

low_if : (o : Option ℤ) → is_far o ≡ false → IfSome o (λ v. unsigned_abs v < 10 ^ 8)
low_if None e = tt
low_if (Some v) e = grind (arith, nat_tests)

same_if_none : (given : Option ℤ) (t : Bool) (held : Option ℤ) → is_some given ≡ false → coordinate given t held ≡ held
same_if_none None t held e = refl
same_if_none (Some v) t held e = absurd cc

limit_of : (a b c d e : Bool) → cond a (Some causes.NoUnits) (cond b (Some causes.NoPosition) (cond c (Some causes.Limit) (cond d (Some causes.BadCycle) (cond e (Some causes.NoFeed) None)))) ≡ None → c ≡ false
limit_of true b c d e f = absurd cc
limit_of false true c d e f = absurd cc
limit_of false false true d e f = absurd cc
limit_of false false false d e f = refl

bored : (now : CycleHeld) → hole_missing now ≡ None → (is_far now.held.x ≡ false) × (is_far now.held.y ≡ false)
bored now fine =
    neither (is_far now.held.x) (is_far now.held.y)
    (limit_of (is_none now.held.units) (is_none now.held.x || is_none now.held.y) (is_far now.held.x || is_far now.held.y) (now.held.incremental || not (is_below now.depth now.clearance)) (is_none now.held.feed) fine)

abbrev Short : Option ℤ → Type 0
Short o = IfSome o (λ v. unsigned_abs v < 10 ^ 8)

hole_held : (h : CycleHeld) (said : Said) → IsCycleHeld h → Short (hole_behind h said).clearance → hole_fault (hole_behind h said) said ≡ None → IsCycleHeld (hole_behind h said)
hole_held h said is short fine = record { held = by (is_mixed said) (is_hole said) refl fine; clearance = short }
  where
    now : CycleHeld
    now = hole_behind h said

    z_is : (t : Bool) → Short (cond t now.clearance h.held.z)
    z_is true = short
    z_is false = is.held.z

    by : (mixed hole : Bool) → is_hole said ≡ hole → cond mixed (Some causes.BadMix) (cond hole (hole_missing now) (cond (is_some said.z || is_some said.r) (Some causes.BadCycle) None)) ≡ None → IsHeld now.held
    by true hole e fine = absurd cc
    by false true e fine = let far = bored now fine in record { x = low_if now.held.x far.0; y = low_if now.held.y far.1; z = z_is (is_hole said) }
    by false false e fine =
        let none = neither (is_some said.x) (is_some said.y) e in
        let t = unwrap_or said.incremental h.held.incremental in
        record {
          x = subst Short (sym (same_if_none said.x t h.held.x none.0)) is.held.x;
          y = subst Short (sym (same_if_none said.y t h.held.y none.1)) is.held.y;
          z = z_is (is_hole said);
        }

beside_held : (h : CycleHeld) (said : Said) → IsCycleHeld h → round_fault h.held (held_behind h.held said) said ≡ None → IsCycleHeld (record h { held = held_behind h.held said })
beside_held h said is fine =
    let motion = motion_behind (with_said h.held said).motion in
    record { held = round_held (record h.held { motion = motion }) (record said { motion = None }) (record { x = is.held.x; y = is.held.y; z = is.held.z }) fine; clearance = is.clearance }

-- behind G80 no code is held, and G81 is none
not_drilled : (motion : Option ℕ) → drills motion ≡ false → drills (motion_behind motion) ≡ false
not_drilled None e = refl
not_drilled (Some code) e = go (code == 80) e
  where
    go : (t : Bool) → (code == 81) ≡ false → drills (cond t None (Some code)) ≡ false
    go true e = refl
    go false e = e

-- a block in which no G81 holds is one of a control that cuts arcs, where the motion code holds already
pub beside_behind : (h now : CycleHeld) (more : Said) → now ≡ behind_block h more → drills now.held.motion ≡ false → now.held ≡ with_said (record h.held { motion = now.held.motion }) (record more { motion = None })
beside_behind h now more holds off = by (drills (with_said h.held more).motion) refl holds
  where
    by : (t : Bool) → drills (with_said h.held more).motion ≡ t → now ≡ cond t (hole_behind h more) (record h { held = held_behind h.held more })
        → now.held ≡ with_said (record h.held { motion = now.held.motion }) (record more { motion = None })
    by true on is = absurd (both (sym on ∙ ap (λ (n : CycleHeld). drills n.held.motion) (sym is) ∙ off))
      where
        both : true ≡ false → ⊥
        both e = cc
    by false off is =
        ap (λ (n : CycleHeld). n.held) is ∙ ap (λ motion. record (with_said h.held more) { motion = motion }) (sym (ap (λ (n : CycleHeld). n.held.motion) is))

behind_held : (h : CycleHeld) (said : Said) → IsCycleHeld h → Short (behind_block h said).clearance → cycle_fault h (behind_block h said) said ≡ None → IsCycleHeld (behind_block h said)
behind_held h said is short fine = by (drills (with_said h.held said).motion) refl short fine
  where
    by : (t : Bool) → drills (with_said h.held said).motion ≡ t → Short (cond t (hole_behind h said) (record h { held = held_behind h.held said })).clearance
        → cycle_fault h (cond t (hole_behind h said) (record h { held = held_behind h.held said })) said ≡ None → IsCycleHeld (cond t (hole_behind h said) (record h { held = held_behind h.held said }))
    by true e short fine = hole_held h said is short (sym (ap (λ t. cond t (hole_fault (hole_behind h said) said) (round_fault h.held (hole_behind h said).held said)) e) ∙ fine)
    by false e short fine =
        let now : CycleHeld = record h { held = held_behind h.held said } in
        beside_held h said is (sym (ap (λ t. cond t (hole_fault now said) (round_fault h.held now.held said)) (not_drilled (with_said h.held said).motion e)) ∙ fine)

-- what holds behind a block that has no fault
pub kept : (h now : CycleHeld) (letters : List ℕ) (at : ℕ) (words : List TapeWord) (o : Option BlockFault) → IsCycleHeld h → Short now.clearance → now ≡ behind_block h (said_of words)
    → o ≡ block_fault h now letters at words → o ≡ None → IsCycleHeld now
kept h now letters at words o is short holds same none =
    let fine = none_behind (option_map (λ place. fault place causes.Foreign) (place_of (is_foreign now.circles now.held.motion) letters words)) at (cycle_fault h now (said_of words)) (sym same ∙ none) in
    subst IsCycleHeld (sym holds) (behind_held h (said_of words) is (subst (λ (n : CycleHeld). Short n.clearance) holds short) (sym (ap (λ n. cycle_fault h n (said_of words)) holds) ∙ fine))

-- ---- the meaning of a block

-- a block means its acts unless it has a fault
pub means_unless : (h now : CycleHeld) (letters : List ℕ) (at : ℕ) (words : List TapeWord) (o : Option BlockFault) → now ≡ behind_block h (said_of words) → o ≡ block_fault h now letters at words
    → cycle_meaning h letters at words ≡ unless_fault o (record { held = now; acts = cycle_acts h now (said_of words); ends = has_code (2 ∷ []) (said_of words) })
means_unless h now letters at words o holds same =
    let said = said_of words in
    let comes : (now : CycleHeld) → Result (Meaning CycleHeld ArcAct) BlockFault = λ now.
    unless_foreign (place_of (is_foreign now.circles now.held.motion) letters words)
    (unless_fault (option_map (fault at) (cycle_fault h now said)) (record { held = now; acts = cycle_acts h now said; ends = has_code (2 ∷ []) said })) in
    ap comes (sym holds)
    ∙ sym (by_foreign (place_of (is_foreign now.circles now.held.motion) letters words) at (cycle_fault h now said) _)
    ∙ ap (λ o. unless_fault o (record { held = now; acts = cycle_acts h now said; ends = has_code (2 ∷ []) said })) (sym same)
