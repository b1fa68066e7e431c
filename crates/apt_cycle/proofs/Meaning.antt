-- What the blocks of a tape with holes mean to a control that holds what the writer holds.
use Rattle.std.proofs.Common.{◌≡◌, ◌∙◌, ◌<◌, ◌≤◌, ℕ, ℤ, pos, Bool, true, false, List, [], ◌∷◌, ◌++◌, Option, Some, None, IsSome, Result, Ok, unsigned_abs, cond, refl, sym, ap, arith}
use Rattle.std.specs.Prelude.{nat_lt}
use Rattle.std.specs.List.{list_any}
use Rattle.std.specs.Ordering.{int_eq}
use Rattle.std.specs.Option.{option_map}
use Rattle.std.proofs.lemmas.Bool.Decides.{nat_tests}
use Rattle.apt_words.specs.declared.Units.{Units}
use Rattle.apt_block.specs.declared.block.BlockFault.{BlockFault}
use Rattle.apt_block.specs.declared.block.TapeWord.{TapeWord}
use Rattle.apt_block.specs.declared.block.TapeCause.{TapeCause}
use Rattle.apt_block.specs.Block.{fault}
use Rattle.apt_control.specs.declared.Act.{Act}
use Rattle.apt_control.specs.declared.Act.TheVariants as acts
use Rattle.apt_control.specs.declared.held.Held.{Held}
use Rattle.apt_control.specs.declared.held.Said.{Said}
use Rattle.apt_control.specs.Control as plain
use Rattle.apt_control.specs.Control.{Meaning, nothing_said, said_of, coordinate, with_said, place_of, has_code, unless_fault}
use Rattle.apt_control.proofs.Saying.{no_place}
use Rattle.apt_post.specs.Blocks.{g, behind, written_words, is_end, CanWrite}
use Rattle.apt_post.specs.Posting.{Posting}
use Rattle.apt_post.proofs.Meaning.{MeansAct, written-means, units-mean, some_units, mode_said, mode_is}
use Rattle.apt_post.proofs.Numbers.{number_words, IsNumber}
use Rattle.apt_post.proofs.Standing.{next_number_of, next_number-IsNumber, next_number-words}
use Rattle.apt_circular.specs.declared.ArcAct.{ArcAct}
use Rattle.apt_circular.specs.declared.ArcAct.TheVariants as arcs
use Rattle.apt_circular.specs.ArcBlocks.{is_foreign_round, round_fault, round_acts, unless_foreign, arc_meaning}
use Rattle.apt_circular.specs.ArcTape.{CanAct, written_at, behind_act, ends_it, IsReadAs}
use Rattle.apt_circular.specs.ArcPosting as single
use Rattle.apt_circular.proofs.Meaning.{no_fault, neither as no_part, fewer_places, plain_reads, written_reads}
use Rattle.apt_cycle.specs.declared.hole.Hole.{Hole}
use Rattle.apt_cycle.specs.declared.reading.CycleHeld.{CycleHeld}
use Rattle.apt_cycle.specs.CycleBlocks.{drills, motion_behind, is_foreign, hole_behind, held_behind, behind_block, hole_fault, hole_acts, cycle_fault, cycle_acts, cycle_meaning}
use Rattle.apt_cycle.specs.Holes.{hole_words, behind_hole, hole_of}
use Rattle.apt_cycle.specs.CycleTape.{closed}
use Rattle.apt_cycle.specs.Writable.{IsTaken}
use Rattle.apt_cycle.proofs.Holes.{CanBore}
use Rattle.apt_cycle.proofs.Saying.{known_still}

-- a block by what its words say
by_said : (h now : CycleHeld) (said : Said) (letters : List ℕ) (at : ℕ) (words : List TapeWord) (done : List ArcAct) (ends : Bool)
    → said_of words ≡ said → behind_block h said ≡ now → place_of (is_foreign now.circles now.held.motion) letters words ≡ None → cycle_fault h now said ≡ None → cycle_acts h now said ≡ done → has_code (2 ∷ []) said ≡ ends
    → cycle_meaning h letters at words ≡ Ok (record { held = now; acts = done; ends = ends })
by_said h now said letters at words done ends says holds known fine does last =
    let comes : (now : CycleHeld) (said : Said) → Result (Meaning CycleHeld ArcAct) BlockFault = λ now said.
    unless_foreign (place_of (is_foreign now.circles now.held.motion) letters words)
    (unless_fault (option_map (fault at) (cycle_fault h now said)) (record { held = now; acts = cycle_acts h now said; ends = has_code (2 ∷ []) said })) in
    let same : behind_block h (said_of words) ≡ now = ap (behind_block h) says ∙ holds in
    (λ i. comes (same i) (says i))
    ∙ λ i. unless_foreign (known i) (unless_fault (option_map (fault at) (fine i)) (record { held = now; acts = does i; ends = last i }))

-- ---- a hole

-- what a control holds behind a hole
abbrev pub drilled : CycleHeld → Hole → CycleHeld
drilled h hole = record { held = behind_hole h.held hole; depth = Some hole.bottom; clearance = Some hole.top; circles = h.circles }

not_far : (v : ℤ) → unsigned_abs v ≤ 50000000 → nat_lt 50000000 (unsigned_abs v) ≡ false
not_far v h = grind (arith, nat_tests)

hole_known : (circles : Bool) (n : Option ℕ) (held : Held) (hole : Hole) → list_any (is_foreign circles (Some 81)) (number_words n ++ hole_words held hole) ≡ false
hole_known circles n held hole = by n held.incremental
  where
    by : (n : Option ℕ) (incremental : Bool) → list_any (is_foreign circles (Some 81)) (number_words n ++ hole_words (record held { incremental = incremental }) hole) ≡ false
    by None true = refl
    by None false = refl
    by (Some n) true = refl
    by (Some n) false = refl

abbrev hole_said : Bool → Hole → Said
hole_said before hole = record nothing_said {
  motion = Some 81;
  incremental = mode_said before false;
  x = Some hole.x;
  y = Some hole.y;
  z = Some hole.bottom;
  r = Some hole.top;
  feed = Some hole.feed;
  foreign = true;
}

said_is : (n : Option ℕ) (held : Held) (hole : Hole) → said_of (number_words n ++ hole_words held hole) ≡ hole_said held.incremental hole
said_is n held hole = by n held.incremental
  where
    by : (n : Option ℕ) (incremental : Bool) → said_of (number_words n ++ hole_words (record held { incremental = incremental }) hole) ≡ hole_said incremental hole
    by None true = refl
    by None false = refl
    by (Some n) true = refl
    by (Some n) false = refl

drilled_is : (h : CycleHeld) (hole : Hole) → behind_block h (hole_said h.held.incremental hole) ≡ drilled h hole
drilled_is h hole =
    ap (λ t. record (drilled h hole) { held = record (behind_hole h.held hole) { incremental = t; x = coordinate (Some hole.x) t h.held.x; y = coordinate (Some hole.y) t h.held.y } })
    (mode_is h.held.incremental false)

pub hole_means : (h : CycleHeld) (n : Option ℕ) (hole : Hole) (letters : List ℕ) (at : ℕ) → IsSome h.held.units → CanBore hole
    → cycle_meaning h letters at (number_words n ++ hole_words h.held hole) ≡ Ok (record { held = drilled h hole; acts = hole_of hole; ends = false })
hole_means h n hole letters at known can =
    let words = number_words n ++ hole_words h.held hole in
    let said = hole_said h.held.incremental hole in
    let u = some_units h.held.units known in
    let fine : hole_fault (drilled h hole) said ≡ None = rw (u.1, not_far hole.x can.x, not_far hole.y can.y, can.below) refl in
    by_said h (drilled h hole) said letters at words (hole_of hole) false (said_is n h.held hole) (drilled_is h hole)
    (no_place (is_foreign h.circles (Some 81)) letters words (hole_known h.circles n h.held hole)) fine refl refl

-- ---- G80

close_known : (circles : Bool) (n : Option ℕ) → list_any (is_foreign circles None) (number_words n ++ g 80 ∷ []) ≡ false
close_known circles None = refl
close_known circles (Some n) = refl

close_said : (n : Option ℕ) → said_of (number_words n ++ g 80 ∷ []) ≡ record nothing_said { motion = Some 80; foreign = true }
close_said None = refl
close_said (Some n) = refl

pub close_means : (h : CycleHeld) (n : Option ℕ) (letters : List ℕ) (at : ℕ)
    → cycle_meaning h letters at (number_words n ++ g 80 ∷ []) ≡ Ok (record { held = record h { held = closed h.held }; acts = []; ends = false })
close_means h n letters at =
    by_said h (record h { held = closed h.held }) (record nothing_said { motion = Some 80; foreign = true }) letters at (number_words n ++ g 80 ∷ []) [] false (close_said n) refl
    (no_place (is_foreign h.circles None) letters (number_words n ++ g 80 ∷ []) (close_known h.circles n)) refl refl refl

-- ---- a block that a control that cuts arcs understands, and in which no G81 holds

-- a motion code behind which no G81 holds, and which is not G80
pub record IsQuiet (motion : Option ℕ) : Type 0 where
  pub drills : drills motion ≡ false
  pub kept : motion_behind motion ≡ motion

no_foreign : {A : Type 0} (place : Option ℕ) (x : Result A BlockFault) (m : A) → unless_foreign place x ≡ Ok m → (place ≡ None) × (x ≡ Ok m)
no_foreign None x m e = (refl, e)
no_foreign (Some place) x m e = absurd cc

no_cause : (at : ℕ) (o : Option TapeCause) → option_map (fault at) o ≡ None → o ≡ None
no_cause at None e = refl
no_cause at (Some cause) e = absurd cc

beside_means : (h : CycleHeld) (letters : List ℕ) (at : ℕ) (words : List TapeWord) (m : Meaning Held ArcAct) → arc_meaning h.held letters at words ≡ Ok m → IsQuiet m.held.motion
    → place_of (is_foreign h.circles m.held.motion) letters words ≡ None → cycle_meaning h letters at words ≡ Ok (record { held = record h { held = m.held }; acts = m.acts; ends = m.ends })
beside_means h letters at words m means quiet known =
    let said = said_of words in
    let now = with_said h.held said in
    let whole = no_foreign (place_of (is_foreign_round now.motion) letters words) _ m means in
    let parts = no_fault _ (record { held = now; acts = round_acts h.held now said; ends = has_code (2 ∷ []) said }) m whole.1 in
    let fine = no_cause at (round_fault h.held now said) parts.0 in
    let now_is : now ≡ m.held = ap (λ (m : Meaning Held ArcAct). m.held) parts.1 in
    let off : drills now.motion ≡ false = ap (λ (h : Held). drills h.motion) now_is ∙ quiet.drills in
    let stays : motion_behind now.motion ≡ now.motion = ap (λ (h : Held). motion_behind h.motion) now_is ∙ quiet.kept ∙ ap (λ (h : Held). h.motion) (sym now_is) in
    let after : CycleHeld = record h { held = now } in
    let holds : behind_block h said ≡ after =
    ap (λ t. cond t (hole_behind h said) (record h { held = held_behind h.held said })) off ∙ ap (λ motion. record h { held = record now { motion = motion } }) stays in
    by_said h after said letters at words (round_acts h.held now said) (has_code (2 ∷ []) said) refl holds (ap (λ (held : Held). place_of (is_foreign h.circles held.motion) letters words) now_is ∙ known)
    (ap (λ t. cond t (hole_fault after said) (round_fault h.held now said)) off ∙ fine) (ap (λ t. cond t (hole_acts after said) (round_acts h.held now said)) off) refl
    ∙ λ i. Ok (record { held = record h { held = (parts.1 i).held }; acts = (parts.1 i).acts; ends = (parts.1 i).ends })

-- ---- foreign words

-- a plain block has none
plain_known : (held : Held) (letters : List ℕ) (at : ℕ) (words : List TapeWord) (m : Meaning Held Act) → plain.meaning held letters at words ≡ Ok m → place_of plain.is_foreign letters words ≡ None
plain_known held letters at words m means =
    (no_part (place_of plain.is_foreign letters words) (plain.end_fault (with_said held (said_of words)) (said_of words)) at (no_fault _ (plain.meaning_of held (said_of words)) m means).0).0

-- what a control that cuts arcs knows, a control with cycles and circles knows
arcs_known : (motion : Option ℕ) (w : TapeWord) → is_foreign_round motion w ≡ false → is_foreign true motion w ≡ false
arcs_known motion w known = grind (arith, nat_tests)

arc_known : (held : Held) (letters : List ℕ) (at : ℕ) (words : List TapeWord) (m : Meaning Held ArcAct) → arc_meaning held letters at words ≡ Ok m → place_of (is_foreign true m.held.motion) letters words ≡ None
arc_known held letters at words m means =
    let said = said_of words in
    let now = with_said held said in
    let whole = no_foreign (place_of (is_foreign_round now.motion) letters words) _ m means in
    let parts = no_fault _ (record { held = now; acts = round_acts held now said; ends = has_code (2 ∷ []) said }) m whole.1 in
    ap (λ (m : Meaning Held ArcAct). place_of (is_foreign true m.held.motion) letters words) (sym parts.1)
    ∙ fewer_places (is_foreign true now.motion) (is_foreign_round now.motion) letters words (arcs_known now.motion) whole.0

-- ---- the block of an act by itself

-- what holds of the motion codes of moves holds behind an act of the one that is held
pub motion_holds : (P : Option ℕ → Type 0) → P (Some 0) → P (Some 1) → P (Some 2) → P (Some 3) → (incremental : Bool) (held : Held) (act : ArcAct) → P held.motion → P (behind_act incremental held act).motion
motion_holds P rapid cut right left incremental held (arcs.Plain (acts.Units u)) is = is
motion_holds P rapid cut right left incremental held (arcs.Plain (acts.Rapid x y z)) is = rapid
motion_holds P rapid cut right left incremental held (arcs.Plain (acts.Cut x y z feed)) is = cut
motion_holds P rapid cut right left incremental held (arcs.Plain (acts.Do command)) is = is
motion_holds P rapid cut right left incremental held (arcs.Plain acts.End) is = is
motion_holds P rapid cut right left incremental held (arcs.Arc turn x y z cx cy feed) is = by (int_eq turn (pos 1))
  where
    by : (t : Bool) → P (Some (cond t 3 2))
    by true = left
    by false = right

pub quiet_behind : (incremental : Bool) (held : Held) (act : ArcAct) → IsQuiet held.motion → IsQuiet (behind_act incremental held act).motion
quiet_behind incremental held act is =
    motion_holds IsQuiet (record { drills = refl; kept = refl }) (record { drills = refl; kept = refl }) (record { drills = refl; kept = refl }) (record { drills = refl; kept = refl }) incremental held act is

-- the words of an act mean it, where the units are known, or by a block of units
abbrev Reads : Posting → Option ℕ → ArcAct → Type 0
Reads p n act = IsReadAs p.held (number_words n ++ written_at p.machine p.held act) (behind_act p.machine.incremental p.held act) act

words_mean : (h : CycleHeld) (p : Posting) (n : Option ℕ) (act : ArcAct) → h.held ≡ p.held → Reads p n act
    → (letters : List ℕ) (at : ℕ) → place_of (is_foreign h.circles (behind_act p.machine.incremental p.held act).motion) letters (number_words n ++ written_at p.machine p.held act) ≡ None → IsQuiet p.held.motion
    → cycle_meaning h letters at (number_words n ++ written_at p.machine p.held act) ≡ Ok (record { held = record h { held = behind_act p.machine.incremental p.held act }; acts = act ∷ []; ends = ends_it act })
words_mean h p n act same reads letters at known quiet =
    beside_means h letters at (number_words n ++ written_at p.machine p.held act) (record { held = behind_act p.machine.incremental p.held act; acts = act ∷ []; ends = ends_it act })
    (ap (λ held. arc_meaning held letters at (number_words n ++ written_at p.machine p.held act)) same ∙ reads.means letters at) (quiet_behind p.machine.incremental p.held act quiet) known

-- a plain act: none of its words is foreign to any control
plain_act_means : (h : CycleHeld) (p : Posting) (n : Option ℕ) (act : Act) → h.held ≡ p.held → IsNumber n → CanWrite act → MeansAct p.machine.incremental p.held (number_words n ++ written_words p.machine p.held act) act → IsQuiet p.held.motion
    → (letters : List ℕ) (at : ℕ)
    → cycle_meaning h letters at (number_words n ++ written_words p.machine p.held act) ≡ Ok (record { held = record h { held = behind p.machine.incremental p.held act }; acts = arcs.Plain act ∷ []; ends = is_end act })
plain_act_means h p n act same small can means quiet letters at =
    let words = number_words n ++ written_words p.machine p.held act in
    let motion = (behind p.machine.incremental p.held act).motion in
    let known = fewer_places (is_foreign h.circles motion) plain.is_foreign letters words (known_still h.circles motion) (plain_known p.held letters at words _ (means letters at)) in
    words_mean h p n (arcs.Plain act) same (plain_reads n p.machine p.held act small can means) letters at known quiet

arc_act_means : (h : CycleHeld) (p : Posting) (n : Option ℕ) (act : ArcAct) → h.held ≡ p.held → h.circles ≡ true → Reads p n act → IsQuiet p.held.motion
    → (letters : List ℕ) (at : ℕ)
    → cycle_meaning h letters at (number_words n ++ written_at p.machine p.held act) ≡ Ok (record { held = record h { held = behind_act p.machine.incremental p.held act }; acts = act ∷ []; ends = ends_it act })
arc_act_means h p n act same circles reads quiet letters at =
    let words = number_words n ++ written_at p.machine p.held act in
    let motion = (behind_act p.machine.incremental p.held act).motion in
    words_mean h p n act same reads letters at (ap (λ t. place_of (is_foreign t motion) letters words) circles ∙ arc_known p.held letters at words _ (reads.means letters at)) quiet

act_means_behind : (h : CycleHeld) (p : Posting) (n : Option ℕ) (act : ArcAct) → h.held ≡ p.held → IsNumber n → IsSome p.held.units → CanAct p.held act → IsTaken h.circles act → IsQuiet p.held.motion
    → (letters : List ℕ) (at : ℕ)
    → cycle_meaning h letters at (number_words n ++ written_at p.machine p.held act) ≡ Ok (record { held = record h { held = behind_act p.machine.incremental p.held act }; acts = act ∷ []; ends = ends_it act })
act_means_behind h p n (arcs.Plain act) same small known can taken quiet letters at = plain_act_means h p n act same small can (written-means n p.machine p.held act known can) quiet letters at
act_means_behind h p n (arcs.Arc turn x y z cx cy feed) same small known can taken quiet letters at =
    arc_act_means h p n (arcs.Arc turn x y z cx cy feed) same taken (written_reads n p.machine p.held (arcs.Arc turn x y z cx cy feed) small known can) quiet letters at

-- the next block of a writer, behind its number
abbrev Means : CycleHeld → Posting → ArcAct → Type 0
Means h p act = (letters : List ℕ) (at : ℕ)
    → cycle_meaning h letters at (single.next_block p act) ≡ Ok (record { held = record h { held = (single.next p act).held }; acts = act ∷ []; ends = ends_it act })

numbered_means : (h : CycleHeld) (p : Posting) (act : ArcAct)
    → ((letters : List ℕ) (at : ℕ) → cycle_meaning h letters at (number_words (next_number_of p) ++ written_at p.machine p.held act) ≡ Ok (record { held = record h { held = behind_act p.machine.incremental p.held act }; acts = act ∷ []; ends = ends_it act }))
    → Means h p act
numbered_means h p act means letters at = ap (λ ns. cycle_meaning h letters at (ns ++ written_at p.machine p.held act)) (next_number-words p) ∙ means letters at

pub act_means : (h : CycleHeld) (p : Posting) (act : ArcAct) → h.held ≡ p.held → p.steps < 9999 → IsSome p.held.units → CanAct p.held act → IsTaken h.circles act → IsQuiet p.held.motion → Means h p act
act_means h p act same few known can taken quiet = numbered_means h p act (act_means_behind h p (next_number_of p) act same (next_number-IsNumber p few) known can taken quiet)

-- the units, whatever is known
pub units_means : (h : CycleHeld) (p : Posting) (u : Units) → h.held ≡ p.held → p.steps < 9999 → IsQuiet p.held.motion → Means h p (arcs.Plain (acts.Units u))
units_means h p u same few quiet =
    let n = next_number_of p in
    numbered_means h p (arcs.Plain (acts.Units u)) (plain_act_means h p n (acts.Units u) same (next_number-IsNumber p few) tt (units-mean n p.machine p.held u) quiet)
