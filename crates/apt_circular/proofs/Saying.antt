-- What the words of an arc that are written say to a control that holds what the writer holds: the arc, and what holds behind it.
use Rattle.std.specs.Prelude.{◌≡◌, ℕ, ℤ, pos, negsuc, ◌+ℤ◌, ◌-ℤ◌, ◌&&◌, ◌||◌, not, Bool, true, false, List, [], ◌∷◌, ◌++◌, Option, Some, None, is_none, cond}
use Rattle.std.specs.List.{filter}
use Rattle.std.specs.Ordering.{int_eq}
use Rattle.std.proofs.Common.{refl, sym, ap, subst, ◌∙◌, inl, inr}
use Rattle.std.proofs.lemmas.Bool.{and_parts}
use Rattle.std.proofs.lemmas.Bool.Decides.{Decides-int_eq}
use Rattle.apt_plane.specs.declared.figures.Pt.{Pt}
use Rattle.apt_plane.specs.Ranges.{IsSense}
use Rattle.apt_words.specs.declared.Units.{Units}
use Rattle.apt_machine.specs.declared.machine.Machine.{Machine}
use Rattle.apt_block.specs.declared.block.TapeWord.{TapeWord}
use Rattle.apt_block.specs.declared.block.TapeCause.TheVariants as causes
use Rattle.apt_block.specs.Block.{tape_word, letter_x, letter_y, letter_z, letter_f, letter_i, letter_j}
use Rattle.apt_control.specs.declared.held.Held.{Held}
use Rattle.apt_control.specs.declared.held.Said.{Said}
use Rattle.apt_control.specs.Control.{nothing_said, with_word, said_of, coordinate, with_said, has_position, is_far, leaves_limit, or_zero}
use Rattle.apt_post.specs.Blocks.{g, dimension, position as position_words, mode_words, is_same_code, is_same_value, is_written, behind_move}
use Rattle.apt_post.proofs.Meaning.{code_holds, value_holds, told_or, mode_said, mode_is, led, reach, reach_or, near, no_far, none_far, written_mode}
use Rattle.apt_post.proofs.Standing.{told}
use Rattle.apt_circular.specs.declared.arc.Arc.{Arc}
use Rattle.apt_circular.specs.ArcBlocks.{turns_round, is_arc, xy_of, centre_of, is_same, is_no_arc, arc_fault, turn_by, arc_of, arc_code, arc_ways, behind_arc, written_arc}
use Rattle.apt_circular.specs.Writable.{CanArc}
use Rattle.apt_circular.proofs.Standing.{round_code, centre_told, behind_x, round_words}

-- ---- what words say, each written or not

abbrev kept : {A : Type 0} → Bool → A → Option A
kept t v = cond t (Some v) None

-- what the words of an arc say
abbrev arc_said : Option ℕ → Option Bool → ℤ → Option ℤ → Option ℤ → ℤ → ℤ → Option ℤ → Said
arc_said motion mode x y z i j feed = record nothing_said { motion = motion; incremental = mode; x = Some x; y = y; z = z; i = Some i; j = Some j; feed = feed; foreign = true }

feed_said : (d : Bool) (feed : ℤ) → said_of (told d (tape_word letter_f feed) []) ≡ record nothing_said { feed = kept d feed }
feed_said true feed = refl
feed_said false feed = refl

z_said : (c : Bool) (z : ℤ) (words : List TapeWord) (s : Said) → said_of words ≡ s → s.z ≡ None → said_of (told c (tape_word letter_z z) words) ≡ record s { z = kept c z }
z_said true z words s e none = ap (with_word (tape_word letter_z z)) e
z_said false z words s e none = e ∙ λ i. record s { z = none i }

y_said : (b : Bool) (y : ℤ) (words : List TapeWord) (s : Said) → said_of words ≡ s → s.y ≡ None → said_of (told b (tape_word letter_y y) words) ≡ record s { y = kept b y }
y_said true y words s e none = ap (with_word (tape_word letter_y y)) e
y_said false y words s e none = e ∙ λ i. record s { y = none i }

code_said : (a left : Bool) (words : List TapeWord) (s : Said) → said_of words ≡ s → s.motion ≡ None → s.foreign ≡ true → said_of (told a (g (round_code left)) words) ≡ record s { motion = kept a (round_code left) }
code_said true true words s e none marked = ap (with_word (g 3)) e ∙ λ i. record s { motion = Some 3; foreign = sym marked i }
code_said true false words s e none marked = ap (with_word (g 2)) e ∙ λ i. record s { motion = Some 2; foreign = sym marked i }
code_said false left words s e none marked = e ∙ λ i. record s { motion = none i }

modes_said : (before ways : Bool) (words : List TapeWord) (s : Said) → said_of words ≡ s → s.incremental ≡ None → said_of (mode_words before ways ++ words) ≡ record s { incremental = mode_said before ways }
modes_said true true words s e none = e ∙ λ i. record s { incremental = none i }
modes_said true false words s e none = ap (with_word (g 90)) e
modes_said false true words s e none = ap (with_word (g 91)) e
modes_said false false words s e none = e ∙ λ i. record s { incremental = none i }

centre_said : (d : Bool) (i j feed : ℤ) → said_of (centre_told d i j feed) ≡ record nothing_said { i = Some i; j = Some j; feed = kept d feed; foreign = true }
centre_said d i j feed = ap (λ (s : Said). with_word (tape_word letter_i i) (with_word (tape_word letter_j j) s)) (feed_said d feed)

x_said : (b c d : Bool) (x y z i j feed : ℤ) → said_of (tape_word letter_x x ∷ behind_x b c d y z i j feed) ≡ arc_said None None x (kept b y) (kept c z) i j (kept d feed)
x_said b c d x y z i j feed =
    let zs = z_said c z _ (record nothing_said { i = Some i; j = Some j; feed = kept d feed; foreign = true }) (centre_said d i j feed) refl in
    let ys = y_said b y _ (record nothing_said { z = kept c z; i = Some i; j = Some j; feed = kept d feed; foreign = true }) zs refl in
    ap (with_word (tape_word letter_x x)) ys

words_said : (before ways left a b c d : Bool) (x y z i j feed : ℤ)
    → said_of (round_words before ways (round_code left) a b c d x y z i j feed) ≡ arc_said (kept a (round_code left)) (mode_said before ways) x (kept b y) (kept c z) i j (kept d feed)
words_said before ways left a b c d x y z i j feed =
    let coded = code_said a left _ (arc_said None None x (kept b y) (kept c z) i j (kept d feed)) (x_said b c d x y z i j feed) refl refl in
    modes_said before ways _ (arc_said (kept a (round_code left)) None x (kept b y) (kept c z) i j (kept d feed)) coded refl

-- ---- the code of a sense

abbrev turn_of : Bool → ℤ
turn_of true = pos 1
turn_of false = negsuc 0

sense_turn : (turn : ℤ) → IsSense turn → (left : Bool) × (turn ≡ turn_of left)
sense_turn turn sense = elim sense [ inl t ↦ (true, t) | inr t ↦ (false, t) ]

code_of_turn : (left : Bool) → arc_code (turn_of left) ≡ round_code left
code_of_turn true = refl
code_of_turn false = refl

turn_again : (left : Bool) → turn_by (Some (round_code left)) ≡ turn_of left
turn_again true = refl
turn_again false = refl

is_round : (left : Bool) → (turns_round (Some (round_code left)) && true) ≡ true
is_round true = refl
is_round false = refl

-- ---- the words that are written

-- any but x and those of the centre may be left out
abbrev pub told_words : Machine → Held → Arc → ℕ → List TapeWord
told_words machine held a code =
    let ways = arc_ways machine.incremental held a in
    round_words held.incremental ways code (not (is_same_code held.motion (Some code) && machine.changed)) (not (is_same_value held.y (Some a.y) && machine.changed)) (not (is_same_value held.z (Some a.z) && machine.changed)) (not (is_same_value held.feed (Some a.feed) && machine.changed))
    (dimension ways held.x a.x) (dimension ways held.y a.y) (dimension ways held.z a.z) (a.cx -ℤ or_zero held.x) (a.cy -ℤ or_zero held.y) a.feed

-- what holds behind an arc by a code
abbrev held_by : Bool → Held → Arc → ℕ → Held
held_by ways held a code = record (behind_move ways held code a.x a.y a.z) { feed = Some a.feed }

-- its words behind the mode
abbrev words_by : Bool → Held → Arc → ℕ → List TapeWord
words_by ways held a code =
    g code ∷ position_words ways held a.x a.y a.z ++ tape_word letter_i (a.cx -ℤ or_zero held.x) ∷ tape_word letter_j (a.cy -ℤ or_zero held.y) ∷ tape_word letter_f a.feed ∷ []

filter_round : (changed ways : Bool) (held : Held) (a : Arc) (left : Bool)
    → filter (is_written changed held (held_by ways held a (round_code left))) (words_by ways held a (round_code left))
    ≡ told (not (is_same_code held.motion (Some (round_code left)) && changed)) (g (round_code left))
    (tape_word letter_x (dimension ways held.x a.x) ∷ behind_x (not (is_same_value held.y (Some a.y) && changed)) (not (is_same_value held.z (Some a.z) && changed)) (not (is_same_value held.feed (Some a.feed) && changed))
    (dimension ways held.y a.y) (dimension ways held.z a.z) (a.cx -ℤ or_zero held.x) (a.cy -ℤ or_zero held.y) a.feed)
filter_round changed ways held a true = refl
filter_round changed ways held a false = refl

arc_told : (machine : Machine) (held : Held) (a : Arc) (left : Bool) → arc_code a.turn ≡ round_code left → written_arc machine held a ≡ told_words machine held a (round_code left)
arc_told machine held a left is =
    let changed = machine.changed in
    let ways = arc_ways machine.incremental held a in
    let mode = mode_words held.incremental ways in
    written_mode changed held (held_by ways held a (arc_code a.turn)) held.incremental ways (words_by ways held a (arc_code a.turn))
    ∙ (λ i. mode ++ filter (is_written changed held (held_by ways held a (is i))) (words_by ways held a (is i)))
    ∙ ap (λ ws. mode ++ ws) (filter_round changed ways held a left)

-- ---- three points at one height

pub other_points : (p q : Pt) → (p ≡ q → ⊥) → is_same p q ≡ false
other_points p q other = by (is_same p q) refl
  where
    by : (t : Bool) → is_same p q ≡ t → is_same p q ≡ false
    by true e =
        let parts = and_parts (int_eq p.x q.x) (int_eq p.y q.y) e in
        let same_x = (Decides-int_eq p.x q.x).0 parts.0 in
        let same_y = (Decides-int_eq p.y q.y).0 parts.1 in
        absurd (other (λ i. record { x = same_x i; y = same_y i }))
    by false e = e

none_of_them : (s t u level : Bool) → s ≡ false → t ≡ false → u ≡ false → level ≡ true → (s || t || u || not level) ≡ false
none_of_them s t u level p q r h = rw (p, q, r, h) refl

no_fault : (lacks stands far bad : Bool) → lacks ≡ false → stands ≡ true → far ≡ false → bad ≡ false
    → cond lacks (Some causes.NoUnits) (cond (not stands) (Some causes.NoPosition) (cond far (Some causes.Limit) (cond bad (Some causes.BadArc) None))) ≡ None
no_fault lacks stands far bad p q r s = rw (p, q, r, s) refl

-- ---- what the words say

-- words that say an arc
pub record SaysArc (incremental : Bool) (held : Held) (a : Arc) (said : Said) : Type 0 where
  pub holds : with_said held said ≡ behind_arc incremental held a
  pub arc : is_arc (behind_arc incremental held a) said ≡ true
  pub fine : arc_fault held (behind_arc incremental held a) said ≡ None
  pub act : arc_of held (behind_arc incremental held a) said ≡ a
  pub no_units : said.units ≡ None
  pub no_code : said.code ≡ None

-- the words of an arc that are written, by a code
pub record IsTold (machine : Machine) (held : Held) (a : Arc) : Type 0 where
  pub left : Bool
  pub is : written_arc machine held a ≡ told_words machine held a (round_code left)
  pub code : (behind_arc machine.incremental held a).motion ≡ Some (round_code left)

pub arc_words-told : (machine : Machine) (held : Held) (a : Arc) → IsSense a.turn → IsTold machine held a
arc_words-told machine held a sense =
    let by = sense_turn a.turn sense in
    let code = ap arc_code by.1 ∙ code_of_turn by.0 in
    record { left = by.0; is = arc_told machine held a by.0 code; code = ap Some code }

is_fine : (held now : Held) (a : Arc) (said : Said) (can : CanArc held a) → said.i ≡ Some (a.cx -ℤ or_zero held.x) → said.j ≡ Some (a.cy -ℤ or_zero held.y) → xy_of now ≡ record { x = a.x; y = a.y } → or_zero now.z ≡ a.z
    → is_no_arc held now said ≡ false
is_fine held now a said can i_is j_is to level =
    let go = can.goes in
    let old : xy_of held ≡ can.at.xy = λ i. record { x = or_zero (can.holds.0 i); y = or_zero (can.holds.1 i) } in
    let centre : Pt = record { x = a.cx; y = a.cy } in
    let led_x = led (or_zero held.x) a.cx in
    let led_y = led (or_zero held.y) a.cy in
    let about : centre_of held said ≡ centre = (λ i. record { x = or_zero held.x +ℤ or_zero (i_is i); y = or_zero held.y +ℤ or_zero (j_is i) }) ∙ λ i. record { x = led_x i; y = led_y i } in
    let given : (is_none said.i && is_none said.j) ≡ false = λ i. is_none (i_is i) && is_none (j_is i) in
    let start : is_same (xy_of held) (centre_of held said) ≡ false = (λ i. is_same (old i) (about i)) ∙ other_points can.at.xy centre go.start_off in
    let end : is_same (xy_of now) (centre_of held said) ≡ false = (λ i. is_same (to i) (about i)) ∙ other_points (record { x = a.x; y = a.y }) centre go.end_off in
    let apart : is_same (xy_of held) (xy_of now) ≡ false = (λ i. is_same (old i) (to i)) ∙ other_points can.at.xy (record { x = a.x; y = a.y }) go.apart in
    let height : int_eq (or_zero held.z) (or_zero now.z) ≡ true = (Decides-int_eq (or_zero held.z) (or_zero now.z)).1 (ap or_zero can.holds.2 ∙ go.level ∙ sym level) in
    (λ i. given i || is_same (xy_of held) (centre_of held said) || is_same (xy_of now) (centre_of held said) || is_same (xy_of held) (xy_of now) || not (int_eq (or_zero held.z) (or_zero now.z)))
    ∙ none_of_them _ _ _ _ start end apart height

pub arc-says : (machine : Machine) (held : Held) (u : Units) (a : Arc) → held.units ≡ Some u → CanArc held a → SaysArc machine.incremental held a (said_of (written_arc machine held a))
arc-says machine held u a known can =
    let changed = machine.changed in
    let ways = arc_ways machine.incremental held a in
    let now = behind_arc machine.incremental held a in
    let by = sense_turn a.turn can.goes.sense in
    let left = by.0 in
    let code = ap arc_code by.1 ∙ code_of_turn left in
    let told_g = not (is_same_code held.motion (Some (round_code left)) && changed) in
    let told_y = not (is_same_value held.y (Some a.y) && changed) in
    let told_z = not (is_same_value held.z (Some a.z) && changed) in
    let told_f = not (is_same_value held.feed (Some a.feed) && changed) in
    let dx = dimension ways held.x a.x in
    let dy = dimension ways held.y a.y in
    let dz = dimension ways held.z a.z in
    let i_way = a.cx -ℤ or_zero held.x in
    let j_way = a.cy -ℤ or_zero held.y in
    let said = arc_said (kept told_g (round_code left)) (mode_said held.incremental ways) dx (kept told_y dy) (kept told_z dz) i_way j_way (kept told_f a.feed) in
    let says : said_of (written_arc machine held a) ≡ said =
    ap said_of (arc_told machine held a left code) ∙ words_said held.incremental ways left told_g told_y told_z told_f dx dy dz i_way j_way a.feed in
    let is = near machine.incremental held a.x a.y a.z in
    let mode = mode_is held.incremental ways in
    let motion = told_or told_g held.motion (round_code left) (code_holds held.motion (round_code left) changed) ∙ ap Some (sym code) in
    let fed = told_or told_f held.feed a.feed (value_holds held.feed a.feed changed) in
    let to_x = ap (λ t. coordinate (Some dx) t held.x) mode ∙ reach ways held.x a.x is.near_x in
    let to_y = ap (λ t. coordinate (kept told_y dy) t held.y) mode ∙ reach_or told_y ways held.y a.y (value_holds held.y a.y changed) is.near_y in
    let to_z = ap (λ t. coordinate (kept told_z dz) t held.z) mode ∙ reach_or told_z ways held.z a.z (value_holds held.z a.z changed) is.near_z in
    let holds : with_said held said ≡ now = λ i. record { motion = motion i; units = held.units; incremental = mode i; feed = fed i; x = to_x i; y = to_y i; z = to_z i } in
    let end = can.fits.0 in
    let limit : leaves_limit now ≡ false = none_far (is_far (Some a.x)) (is_far (Some a.y)) (is_far (Some a.z)) (no_far a.x end.0) (no_far a.y end.1) (no_far a.z end.2) in
    let stands : has_position held ≡ true = rw (can.holds.0, can.holds.1, can.holds.2) refl in
    let fine : arc_fault held now said ≡ None = no_fault (is_none held.units) (has_position held) (leaves_limit now) (is_no_arc held now said) (ap is_none known) stands limit (is_fine held now a said can refl refl refl refl) in
    let turn = ap (λ c. turn_by (Some c)) code ∙ turn_again left ∙ sym by.1 in
    let led_x = led (or_zero held.x) a.cx in
    let led_y = led (or_zero held.y) a.cy in
    let act : arc_of held now said ≡ a = λ i. record { turn = turn i; x = a.x; y = a.y; z = a.z; cx = led_x i; cy = led_y i; feed = a.feed } in
    let arc : is_arc now said ≡ true = ap (λ c. turns_round (Some c) && true) code ∙ is_round left in
    subst (SaysArc machine.incremental held a) (sym says) (record { holds = holds; arc = arc; fine = fine; act = act; no_units = refl; no_code = refl })
