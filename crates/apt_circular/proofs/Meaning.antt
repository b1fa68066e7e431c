-- The block of an arc, or of a plain act, means it to a control that holds what the writer holds.
use Rattle.std.specs.Prelude.{◌≡◌, ℕ, ◌<◌, ℤ, ◌-ℤ◌, ◌&&◌, ◌||◌, Bool, true, false, List, [], ◌∷◌, ◌++◌, map, find, Option, Some, None, IsSome, Result, Ok, cond}
use Rattle.std.specs.List.{list_any, zip}
use Rattle.std.specs.Option.{option_map, option_or}
use Rattle.std.proofs.Common.{refl, sym, ap, subst, ◌∙◌, arith}
use Rattle.std.proofs.lemmas.Bool.Decides.{nat_tests}
use Rattle.apt_words.specs.declared.Command.TheVariants as commands
use Rattle.apt_words.specs.declared.Units.{Units}
use Rattle.apt_words.specs.declared.Units.TheVariants.{Inch, Mm}
use Rattle.apt_words.specs.declared.Turn.TheVariants as turns
use Rattle.apt_words.specs.declared.Cool.TheVariants as coolants
use Rattle.apt_machine.specs.declared.machine.Machine.{Machine}
use Rattle.apt_block.specs.declared.block.BlockFault.{BlockFault}
use Rattle.apt_block.specs.declared.block.TapeWord.{TapeWord}
use Rattle.apt_block.specs.declared.block.TapeCause.{TapeCause}
use Rattle.apt_block.specs.declared.block.TapeCause.TheVariants as causes
use Rattle.apt_block.specs.Block.{fault, tape_word, letter_x, letter_y, letter_z, IsBlock}
use Rattle.apt_control.specs.declared.Act.{Act}
use Rattle.apt_control.specs.declared.Act.TheVariants as acts
use Rattle.apt_control.specs.declared.held.Held.{Held}
use Rattle.apt_control.specs.declared.held.Said.{Said}
use Rattle.apt_control.specs.Control.{Meaning, said_of, with_said, place_of, is_foreign, has_code, unit_acts, acts_before, acts_after, block_acts, end_fault, unless_fault, meaning_of, meaning, nothing_held, or_zero}
use Rattle.apt_post.specs.Blocks.{g, mode_words, behind, written_words, CanWrite, IsCoordinate}
use Rattle.apt_post.proofs.Numbers.{number_words, number_of, IsNumber, numbered-words, number_of-IsNumber}
use Rattle.apt_post.specs.Posting.{Posting}
use Rattle.apt_post.proofs.Meaning.{MeansAct, written-means, units-mean, near, number-says, some_units}
use Rattle.apt_post.proofs.Standing.{told, dimension-IsCoordinate, written-IsBlock, next_number_of, next_number-IsNumber, next_number-words}
use Rattle.apt_circular.specs.declared.ArcAct.{ArcAct}
use Rattle.apt_circular.specs.declared.ArcAct.TheVariants as arcs
use Rattle.apt_circular.specs.declared.arc.Arc.{Arc}
use Rattle.apt_circular.specs.ArcBlocks.{act_of, is_foreign_round, is_arc, arc_fault, arc_of, round_fault, round_acts, unless_foreign, arc_meaning, arc_ways, behind_arc, written_arc}
use Rattle.apt_circular.specs.Writable.{CanArc}
use Rattle.apt_circular.specs.ArcTape.{written_at, behind_act, block_at, CanAct, IsReadAs, IsReadBack}
use Rattle.apt_circular.specs.ArcPosting.{next_block, next}
use Rattle.apt_circular.proofs.Standing.{round_code, centre_told, behind_x, round_words, round-IsBlock}
use Rattle.apt_circular.proofs.Saying.{SaysArc, IsTold, arc_words-told, arc-says}

-- ---- foreign words

no_place : (test : TapeWord → Bool) (letters : List ℕ) (words : List TapeWord) → list_any test words ≡ false → place_of test letters words ≡ None
no_place test letters words none = ap (option_map (λ (p : ℕ × TapeWord). p.0)) (go letters words none)
  where
    later : (t : Bool) (more : Bool) (at : ℕ) (w : TapeWord) (o : Option (ℕ × TapeWord)) → (t || more) ≡ false → (more ≡ false → o ≡ None) → cond t (Some (at, w)) o ≡ None
    later true more at w o e same = absurd cc
    later false more at w o e same = same e

    go : (letters : List ℕ) (words : List TapeWord) → list_any test words ≡ false → find (λ (p : ℕ × TapeWord). test p.1) (zip letters words) ≡ None
    go [] words none = refl
    go (at ∷ letters) [] none = refl
    go (at ∷ letters) (w ∷ words) none = later (test w) (list_any test words) at w _ none (go letters words)

told_none : (test : TapeWord → Bool) (t : Bool) (w : TapeWord) (ws : List TapeWord) → test w ≡ false → list_any test ws ≡ false → list_any test (told t w ws) ≡ false
told_none test true w ws e f = ap (λ s. s || list_any test ws) e ∙ f
told_none test false w ws e f = f

mode_none : (test : TapeWord → Bool) (before ways : Bool) (ws : List TapeWord) → test (g 90) ≡ false → test (g 91) ≡ false → list_any test ws ≡ false → list_any test (mode_words before ways ++ ws) ≡ false
mode_none test true true ws e f h = h
mode_none test true false ws e f h = ap (λ s. s || list_any test ws) e ∙ h
mode_none test false true ws e f h = ap (λ s. s || list_any test ws) f ∙ h
mode_none test false false ws e f h = h

-- words of which none is foreign where an arc's code holds
pub record AreKnown (test : TapeWord → Bool) (code : ℕ) : Type 0 where
  pub mode_90 : test (g 90) ≡ false
  pub mode_91 : test (g 91) ≡ false
  pub motion : test (g code) ≡ false
  pub word_x : (x : ℤ) → test (tape_word letter_x x) ≡ false
  pub word_y : (y : ℤ) → test (tape_word letter_y y) ≡ false
  pub word_z : (z : ℤ) → test (tape_word letter_z z) ≡ false
  pub centre : (d : Bool) (i j feed : ℤ) → list_any test (centre_told d i j feed) ≡ false

known_words : (left : Bool) → AreKnown (is_foreign_round (Some (round_code left))) (round_code left)
known_words true = record { mode_90 = refl; mode_91 = refl; motion = refl; word_x = λ x. refl; word_y = λ y. refl; word_z = λ z. refl; centre = centre }
  where
    centre : (d : Bool) (i j feed : ℤ) → list_any (is_foreign_round (Some 3)) (centre_told d i j feed) ≡ false
    centre true i j feed = refl
    centre false i j feed = refl
known_words false = record { mode_90 = refl; mode_91 = refl; motion = refl; word_x = λ x. refl; word_y = λ y. refl; word_z = λ z. refl; centre = centre }
  where
    centre : (d : Bool) (i j feed : ℤ) → list_any (is_foreign_round (Some 2)) (centre_told d i j feed) ≡ false
    centre true i j feed = refl
    centre false i j feed = refl

round_none : (test : TapeWord → Bool) (code : ℕ) → AreKnown test code → (before ways a b c d : Bool) (x y z i j feed : ℤ) → list_any test (round_words before ways code a b c d x y z i j feed) ≡ false
round_none test code are before ways a b c d x y z i j feed =
    let zs = told_none test c (tape_word letter_z z) (centre_told d i j feed) (are.word_z z) (are.centre d i j feed) in
    let ys = told_none test b (tape_word letter_y y) _ (are.word_y y) zs in
    let xs = ap (λ s. s || list_any test (behind_x b c d y z i j feed)) (are.word_x x) ∙ ys in
    mode_none test before ways _ are.mode_90 are.mode_91 (told_none test a (g code) (tape_word letter_x x ∷ behind_x b c d y z i j feed) are.motion xs)

number_none : (motion : Option ℕ) (n : Option ℕ) (ws : List TapeWord) → list_any (is_foreign_round motion) ws ≡ false → list_any (is_foreign_round motion) (number_words n ++ ws) ≡ false
number_none motion None ws e = e
number_none motion (Some n) ws e = e

-- ---- the block of an arc

-- a block by what its words say
by_said : (held now : Held) (said : Said) (letters : List ℕ) (at : ℕ) (words : List TapeWord) (done : List ArcAct) (ends : Bool)
    → said_of words ≡ said → with_said held said ≡ now → place_of (is_foreign_round now.motion) letters words ≡ None → round_fault held now said ≡ None → round_acts held now said ≡ done → has_code (2 ∷ []) said ≡ ends
    → arc_meaning held letters at words ≡ Ok (record { held = now; acts = done; ends = ends })
by_said held now said letters at words done ends says holds plain fine does last =
    let comes : (now : Held) (said : Said) → Result (Meaning Held ArcAct) BlockFault = λ now said.
    unless_foreign (place_of (is_foreign_round now.motion) letters words)
    (unless_fault (option_map (fault at) (round_fault held now said)) (record { held = now; acts = round_acts held now said; ends = has_code (2 ∷ []) said })) in
    let same : with_said held (said_of words) ≡ now = ap (with_said held) says ∙ holds in
    (λ i. comes (same i) (says i))
    ∙ λ i. unless_foreign (plain i) (unless_fault (option_map (fault at) (fine i)) (record { held = now; acts = does i; ends = last i }))

arc_acts : (held now : Held) (said : Said) (a : Arc) → is_arc now said ≡ true → arc_of held now said ≡ a → said.units ≡ None → said.code ≡ None → round_acts held now said ≡ act_of a ∷ []
arc_acts held now said a is act units code =
    let before : unit_acts said ++ acts_before said ≡ [] = rw (units, code) refl in
    let after : acts_after said ≡ [] = rw code refl in
    ap (λ t. cond t (map arcs.Plain (unit_acts said ++ acts_before said) ++ act_of (arc_of held now said) ∷ map arcs.Plain (acts_after said)) (map arcs.Plain (block_acts now said))) is
    ∙ λ i. map arcs.Plain (before i) ++ act_of (act i) ∷ map arcs.Plain (after i)

-- a number, or none, and the words of an arc
arc_means : (machine : Machine) (held : Held) (a : Arc) (n : Option ℕ) → SaysArc machine.incremental held a (said_of (written_arc machine held a)) → IsTold machine held a → (letters : List ℕ) (at : ℕ)
    → arc_meaning held letters at (number_words n ++ written_arc machine held a) ≡ Ok (record { held = behind_arc machine.incremental held a; acts = act_of a ∷ []; ends = false })
arc_means machine held a n reads is letters at =
    let words = written_arc machine held a in
    let said = said_of words in
    let now = behind_arc machine.incremental held a in
    let known = known_words is.left in
    let none : list_any (is_foreign_round now.motion) (number_words n ++ words) ≡ false =
    number_none now.motion n words ((λ i. list_any (is_foreign_round (is.code i)) (is.is i)) ∙ round_none _ _ known _ _ _ _ _ _ _ _ _ _ _ _) in
    let fine : round_fault held now said ≡ None = ap (λ t. cond t (arc_fault held now said) (end_fault now said)) reads.arc ∙ reads.fine in
    let last : has_code (2 ∷ []) said ≡ false = ap (λ (code : Option ℕ). has_code (2 ∷ []) (record said { code = code })) reads.no_code in
    by_said held now said letters at (number_words n ++ words) (act_of a ∷ []) false (number-says n words) reads.holds (no_place (is_foreign_round now.motion) letters (number_words n ++ words) none) fine
    (arc_acts held now said a reads.arc reads.act reads.no_units reads.no_code) last

arc_is_block : (machine : Machine) (held : Held) (a : Arc) (n : Option ℕ) → IsTold machine held a → CanArc held a → IsNumber n → IsBlock (number_words n ++ written_arc machine held a)
arc_is_block machine held a n is can small =
    let ways = arc_ways machine.incremental held a in
    let goes = near machine.incremental held a.x a.y a.z in
    let end = can.fits.0 in
    let way_x : IsCoordinate (a.cx -ℤ or_zero held.x) = subst (λ v. IsCoordinate (a.cx -ℤ v)) (sym (ap or_zero can.holds.0)) can.goes.way_x in
    let way_y : IsCoordinate (a.cy -ℤ or_zero held.y) = subst (λ v. IsCoordinate (a.cy -ℤ v)) (sym (ap or_zero can.holds.1)) can.goes.way_y in
    subst (λ ws. IsBlock (number_words n ++ ws)) (sym is.is)
    (round-IsBlock n held.incremental ways is.left _ _ _ _ _ _ _ _ _ a.feed small
    (dimension-IsCoordinate ways held.x a.x goes.near_x end.0) (dimension-IsCoordinate ways held.y a.y goes.near_y end.1) (dimension-IsCoordinate ways held.z a.z goes.near_z end.2)
    way_x way_y can.fits.1)

arc_reads : (n : Option ℕ) (machine : Machine) (held : Held) (a : Arc) → IsNumber n → IsSome held.units → CanArc held a → IsReadAs held (number_words n ++ written_arc machine held a) (behind_arc machine.incremental held a) (act_of a)
arc_reads n machine held a small known can =
    let u = some_units held.units known in
    let is = arc_words-told machine held a can.goes.sense in
    record { is = arc_is_block machine held a n is can small; means = arc_means machine held a n (arc-says machine held u.0 a u.1 can) is }

-- ---- the block of a plain act

pub no_fault : {A : Type 0} (o : Option BlockFault) (x y : A) → unless_fault o x ≡ Ok y → (o ≡ None) × (x ≡ y)
no_fault {A = A} None x y e = (refl, ok_is e)
  where
    ok_is : Path (Result A BlockFault) (Ok x) (Ok y) → x ≡ y
    ok_is e = cc
no_fault (Some f) x y e = absurd cc

pub neither : (p : Option ℕ) (o : Option TapeCause) (at : ℕ) → option_or (option_map (λ (place : ℕ). fault place causes.Foreign) p) (option_map (fault at) o) ≡ None → (p ≡ None) × (o ≡ None)
neither None None at e = (refl, refl)
neither None (Some c) at e = absurd cc
neither (Some p) o at e = absurd cc

-- what is foreign to a control that cuts arcs is so to a plain one
fewer_foreign : (motion : Option ℕ) (w : TapeWord) → is_foreign w ≡ false → is_foreign_round motion w ≡ false
fewer_foreign motion w e = grind (arith, nat_tests)

-- where no word is of one test, none is of another that holds for no more
pub fewer_places : (few more : TapeWord → Bool) (letters : List ℕ) (words : List TapeWord) → ((w : TapeWord) → more w ≡ false → few w ≡ false) → place_of more letters words ≡ None → place_of few letters words ≡ None
fewer_places few more letters words fewer none = ap (option_map (λ (p : ℕ × TapeWord). p.0)) (go (zip letters words) (found _ none))
  where
    found : (o : Option (ℕ × TapeWord)) → option_map (λ (p : ℕ × TapeWord). p.0) o ≡ None → o ≡ None
    found None e = refl
    found (Some p) e = absurd cc

    later : (t s : Bool) (p : ℕ × TapeWord) (o r : Option (ℕ × TapeWord)) → (t ≡ false → s ≡ false) → cond t (Some p) o ≡ None → (o ≡ None → r ≡ None) → cond s (Some p) r ≡ None
    later true s p o r none e same = absurd cc
    later false true p o r none e same = absurd (no_true (none refl))
      where
        no_true : true ≡ false → ⊥
        no_true e = cc
    later false false p o r none e same = same e

    go : (ps : List (ℕ × TapeWord)) → find (λ (p : ℕ × TapeWord). more p.1) ps ≡ None → find (λ (p : ℕ × TapeWord). few p.1) ps ≡ None
    go [] e = refl
    go (p ∷ ps) e = later (more p.1) (few p.1) p _ _ (fewer p.1) e (go ps)

-- a plain meaning is one of a control that cuts arcs too, where the block is no arc
plain_means : (held : Held) (letters : List ℕ) (at : ℕ) (words : List TapeWord) (m : Meaning Held Act) → meaning held letters at words ≡ Ok m → is_arc m.held (said_of words) ≡ false
    → arc_meaning held letters at words ≡ Ok (record { held = m.held; acts = map arcs.Plain m.acts; ends = m.ends })
plain_means held letters at words m means no_arc =
    let said = said_of words in
    let now = with_said held said in
    let parts = no_fault _ (meaning_of held said) m means in
    let none = neither (place_of is_foreign letters words) (end_fault now said) at parts.0 in
    let now_is : now ≡ m.held = ap (λ (m : Meaning Held Act). m.held) parts.1 in
    let plain : is_arc now said ≡ false = ap (λ (h : Held). is_arc h said) now_is ∙ no_arc in
    let fine : round_fault held now said ≡ None = ap (λ t. cond t (arc_fault held now said) (end_fault now said)) plain ∙ none.1 in
    let does : round_acts held now said ≡ map arcs.Plain (block_acts now said) =
    ap (λ t. cond t (map arcs.Plain (unit_acts said ++ acts_before said) ++ act_of (arc_of held now said) ∷ map arcs.Plain (acts_after said)) (map arcs.Plain (block_acts now said))) plain in
    by_said held now said letters at words (map arcs.Plain (block_acts now said)) (has_code (2 ∷ []) said) refl refl (fewer_places (is_foreign_round now.motion) is_foreign letters words (fewer_foreign now.motion) none.0) fine does refl
    ∙ λ i. Ok (record { held = (parts.1 i).held; acts = map arcs.Plain (parts.1 i).acts; ends = (parts.1 i).ends })

and_false : (t : Bool) → (t && false) ≡ false
and_false true = refl
and_false false = refl

no_arc_words : (machine : Machine) (held : Held) (act : Act) → is_arc (behind machine.incremental held act) (said_of (written_words machine held act)) ≡ false
no_arc_words machine held (acts.Units Inch) = and_false _
no_arc_words machine held (acts.Units Mm) = and_false _
no_arc_words machine held (acts.Rapid x y z) = refl
no_arc_words machine held (acts.Cut x y z feed) = refl
no_arc_words machine held (acts.Do (commands.Spindle turns.Cw n)) = and_false _
no_arc_words machine held (acts.Do (commands.Spindle turns.Ccw n)) = and_false _
no_arc_words machine held (acts.Do (commands.Spindle turns.Off n)) = and_false _
no_arc_words machine held (acts.Do (commands.Coolant coolants.Mist)) = and_false _
no_arc_words machine held (acts.Do (commands.Coolant coolants.Flood)) = and_false _
no_arc_words machine held (acts.Do (commands.Coolant coolants.Off)) = and_false _
no_arc_words machine held (acts.Do (commands.Tool n)) = and_false _
no_arc_words machine held (acts.Do commands.Stop) = and_false _
no_arc_words machine held (acts.Do commands.OptStop) = and_false _
no_arc_words machine held acts.End = and_false _

-- words that mean a plain act mean it to a control that cuts arcs
pub plain_reads : (n : Option ℕ) (machine : Machine) (held : Held) (act : Act) → IsNumber n → CanWrite act → MeansAct machine.incremental held (number_words n ++ written_words machine held act) act
    → IsReadAs held (number_words n ++ written_words machine held act) (behind machine.incremental held act) (arcs.Plain act)
plain_reads n machine held act small can means =
    let words = written_words machine held act in
    let now = behind machine.incremental held act in
    record {
      is = written-IsBlock n machine held act small can;
      means = λ letters at. plain_means held letters at (number_words n ++ words) _ (means letters at) (ap (is_arc now) (number-says n words) ∙ no_arc_words machine held act);
    }

-- ---- the words of any act, behind a number or behind none

pub written_reads : (n : Option ℕ) (machine : Machine) (held : Held) (act : ArcAct) → IsNumber n → IsSome held.units → CanAct held act → IsReadAs held (number_words n ++ written_at machine held act) (behind_act machine.incremental held act) act
written_reads n machine held (arcs.Plain act) small known can = plain_reads n machine held act small can (written-means n machine held act known can)
written_reads n machine held (arcs.Arc turn x y z cx cy feed) small known can = arc_reads n machine held (record { turn = turn; x = x; y = y; z = z; cx = cx; cy = cy; feed = feed }) small known can

numbered_reads : (machine : Machine) (k : ℕ) (held : Held) (act : ArcAct) → IsReadAs held (number_words (number_of machine.seq k) ++ written_at machine held act) (behind_act machine.incremental held act) act
    → IsReadAs held (block_at machine k held act) (behind_act machine.incremental held act) act
numbered_reads machine k held act reads = subst (λ ns. IsReadAs held (ns ++ written_at machine held act) (behind_act machine.incremental held act) act) (sym (numbered-words machine.seq k)) reads

pub reads_back : (machine : Machine) (k : ℕ) (held : Held) (act : ArcAct) → IsReadBack machine k held act
reads_back machine k held act known can = numbered_reads machine k held act (written_reads (number_of machine.seq k) machine held act (number_of-IsNumber machine.seq k) known can)

-- the units are read where nothing holds
pub units_read : (machine : Machine) (u : Units) → IsReadAs nothing_held (block_at machine 0 nothing_held (arcs.Plain (acts.Units u))) (behind machine.incremental nothing_held (acts.Units u)) (arcs.Plain (acts.Units u))
units_read machine u =
    let n = number_of machine.seq 0 in
    numbered_reads machine 0 nothing_held (arcs.Plain (acts.Units u)) (plain_reads n machine nothing_held (acts.Units u) (number_of-IsNumber machine.seq 0) tt (units-mean n machine nothing_held u))

-- the next block of a writer
pub next_reads : (p : Posting) (act : ArcAct) → p.steps < 9999 → IsSome p.held.units → CanAct p.held act → IsReadAs p.held (next_block p act) (next p act).held act
next_reads p act few known can =
    subst (λ ns. IsReadAs p.held (ns ++ written_at p.machine p.held act) (behind_act p.machine.incremental p.held act) act) (sym (next_number-words p))
    (written_reads (next_number_of p) p.machine p.held act (next_number-IsNumber p few) known can)

-- ---- a block of any act, whatever holds

written_IsBlock : (n : Option ℕ) (machine : Machine) (held : Held) (act : ArcAct) → IsNumber n → CanAct held act → IsBlock (number_words n ++ written_at machine held act)
written_IsBlock n machine held (arcs.Plain act) small can = written-IsBlock n machine held act small can
written_IsBlock n machine held (arcs.Arc turn x y z cx cy feed) small can =
    let a : Arc = record { turn = turn; x = x; y = y; z = z; cx = cx; cy = cy; feed = feed } in
    arc_is_block machine held a n (arc_words-told machine held a can.goes.sense) can small

pub next_IsBlock : (p : Posting) (act : ArcAct) → p.steps < 9999 → CanAct p.held act → IsBlock (next_block p act)
next_IsBlock p act few can =
    subst (λ ns. IsBlock (ns ++ written_at p.machine p.held act)) (sym (next_number-words p)) (written_IsBlock (next_number_of p) p.machine p.held act (next_number-IsNumber p few) can)
