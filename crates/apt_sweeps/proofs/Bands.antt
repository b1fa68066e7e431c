-- The outer edge of a contour's band is within what a word can say: where no step is refused, the cutter, the tolerances and the figures are in range.
use Rattle.std.proofs.Common.{◌≡◌, ℕ, ◌≤◌, arith, ℤ, pos, ◌≤ℤ◌, unsigned_abs, List, Result, Ok, Err, Option, Some, None, IfSome, IfOk}
use Rattle.std.proofs.lemmas.Int.{ints}
use Rattle.apt_num.specs.declared.Sign.{Sign}
use Rattle.apt_num.specs.declared.Sign.TheVariants as signs
use Rattle.apt_words.specs.declared.Case.{Case}
use Rattle.apt_words.specs.declared.Side.{Side}
use Rattle.apt_words.specs.declared.Stop.{Stop}
use Rattle.apt_words.specs.declared.ask.Form.{Form}
use Rattle.apt_words.specs.declared.ask.Route.{Route}
use Rattle.apt_words.specs.declared.ask.Route.TheVariants as routes
use Rattle.apt_words.specs.declared.deed.Deed.{Deed}
use Rattle.apt_words.specs.Asks.{Ask, Titles, Says, Sets, Defines, Goes, Cuts, Nothing, ask_of}
use Rattle.apt_words.specs.Rows.{NoneHolds}
use Rattle.apt_words.proofs.Rows.{first_none}
use Rattle.apt_scalar.specs.Scalars.{whole}
use Rattle.apt_plane.specs.declared.figures.Pt.{Pt}
use Rattle.apt_plane.specs.declared.figures.Surface.{Surface}
use Rattle.apt_plane.specs.declared.figures.Surface.TheVariants as surfaces
use Rattle.apt_plane.specs.Ranges.{IsSurface}
use Rattle.apt_offset.specs.Ranges.{IsRadius, IsTolerance}
use Rattle.apt_offset.specs.Targets.{greater, band_at}
use Rattle.apt_records.specs.declared.record.Note.{Note}
use Rattle.apt_records.specs.declared.record.Note.TheVariants as notes
use Rattle.apt_records.specs.declared.record.Position.{Position}
use Rattle.apt_records.specs.declared.record.Reach.{Reach}
use Rattle.apt_records.specs.declared.record.Reach.TheVariants as reaches
use Rattle.apt_records.specs.Ranges.{IsFromTo}
use Rattle.apt_stop.specs.declared.legs.Legs.{Legs}
use Rattle.apt_defs.specs.declared.figure.Figure.{Figure}
use Rattle.apt_defs.specs.Definitions.{figure_of}
use Rattle.apt_defs.specs.Figures.{IsFigure, AreFigures}
use Rattle.apt_defs.proofs.InRange.{figure_in}
use Rattle.apt_defs.proofs.Tables.{still_figures}
use Rattle.apt_meaning.specs.declared.situation.Settings.{Settings}
use Rattle.apt_meaning.specs.declared.situation.Situation.{Situation}
use Rattle.apt_meaning.specs.declared.motion.Motion.{Motion}
use Rattle.apt_meaning.specs.declared.effect.Change.{Change}
use Rattle.apt_meaning.specs.declared.effect.Change.TheVariants as changes
use Rattle.apt_meaning.specs.declared.effect.Effect.{Effect}
use Rattle.apt_meaning.specs.declared.effect.Effect.TheVariants as effects
use Rattle.apt_meaning.specs.Situations.{first_situation, radius_of, with_side, settings_with, settings_behind}
use Rattle.apt_meaning.specs.Motions.{grid_step, drive_side, motion, motion_at}
use Rattle.apt_meaning.specs.StartUps.{start_position_at}
use Rattle.apt_meaning.specs.Effects.{note_of, moves, cuts, legs_by, place_at, names, defined, moved_from, goes, effect_by, effect_of}
use Rattle.apt_meaning.specs.Refusals.{note_cases, cases_by, refusal_of}
use Rattle.apt_meaning.specs.Records.{after}
use Rattle.apt_meaning.specs.Ranges.{IsAllowance}
use Rattle.apt_meaning.proofs.EffectRanges.{up_to_in, allowance_in}
use Rattle.apt_meaning.proofs.Said.{of_some}
use Rattle.apt_meaning.proofs.Counts.{if_counted}
use Rattle.apt_meaning.proofs.Walks.Agree.{Agrees}

-- ---- the band of a motion

-- no word is too short for the outer edge of its band
abbrev pub IsShortCut : Motion → Type 0
IsShortCut m = unsigned_abs (band_at m.drive (drive_side m) m.radius m.inner m.outer).hi ≤ 50000000

greater_most : (i o : ℤ) → IsAllowance i → IsAllowance o → (pos 8 ≤ℤ greater i o) × (greater i o ≤ℤ pos 10000)
greater_most i o p q = let least = p.least in let most = p.most in let low = q.least in let high = q.most in grind (arith, ints)

band_short : (s : Surface) (side : Sign) (r i o : ℤ) → IsSurface s → IsRadius r → IsAllowance i → IsAllowance o → unsigned_abs (band_at s side r i o).hi ≤ 50000000
band_short (surfaces.Line l) signs.Plus r i o is short p q = omega (arith, ints, short.least, short.most, q.least, q.most)
band_short (surfaces.Line l) signs.Minus r i o is short p q = omega (arith, ints, short.least, short.most, p.least, p.most)
band_short (surfaces.Line l) signs.Zero r i o is short p q = omega (arith, ints, greater_most i o p q)
band_short (surfaces.Circ c) signs.Plus r i o is short p q = omega (arith, ints, short.least, short.most, p.least, p.most, is.least, is.x)
band_short (surfaces.Circ c) signs.Minus r i o is short p q = omega (arith, ints, short.least, short.most, q.least, q.most, is.least, is.x)
band_short (surfaces.Circ c) signs.Zero r i o is short p q = omega (arith, ints, greater_most i o p q, is.least, is.x)

-- ---- lengths that are set

-- the cutter's radius and the tolerances are in range
pub record AreLengths (s : Settings) : Type 0 where
  pub radius : IsRadius s.radius
  pub intol : IsTolerance s.intol
  pub outtol : IsTolerance s.outtol

-- and the figures that names stand for
pub record HasLengths (here : Situation) : Type 0 where
  pub settings : AreLengths here.settings
  pub table : AreFigures here.table

pub first_lengths : HasLengths first_situation
first_lengths = record {
  settings = record {
    radius = record { least = omega (arith, ints); most = omega (arith, ints) };
    intol = record { least = omega (arith, ints); most = omega (arith, ints) };
    outtol = record { least = omega (arith, ints); most = omega (arith, ints) };
  };
  table = tt;
}

pub short_motion : (s : Settings) (start : Position) (drive : Surface) (turned : Sign) (how : Stop) (check : Surface) → AreLengths s → IsSurface drive → IsShortCut (motion s start drive turned how check)
short_motion s start drive turned how check are is =
    band_short drive (drive_side (motion s start drive turned how check)) s.radius (greater s.intol grid_step) (greater s.outtol grid_step) is are.radius
    (allowance_in s.intol are.intol) (allowance_in s.outtol are.outtol)

pub any_side : (s : Settings) (side : Option Side) → AreLengths s → AreLengths (with_side s side)
any_side s None are = are
any_side s (Some side) are = record { radius = are.radius; intol = are.intol; outtol = are.outtol }

pub lengths_agree : (c here : Situation) → Agrees c here → HasLengths c → HasLengths here
lengths_agree c here agrees has = record { settings = rw agrees.settings has.settings; table = rw agrees.table has.table }

-- ---- what an effect sets is in range, where no case refuses its step

abbrev IsShortNote : Note → Type 0
IsShortNote (notes.Cutter d) = IsFromTo (pos 0) (pos 1000000) d
IsShortNote (notes.Intol t) = IsFromTo (pos 0) (pos 10000) t
IsShortNote (notes.Outtol t) = IsFromTo (pos 0) (pos 10000) t
IsShortNote _ = Unit {0}

abbrev IsShortChange : Change → Type 0
IsShortChange (changes.Said note) = IsShortNote note
IsShortChange (changes.Side side) = Unit {0}
IsShortChange changes.Nothing = Unit {0}

abbrev IsShort : Effect → Type 0
IsShort (effects.Defines n f) = IsFigure f
IsShort (effects.Sets change) = IsShortChange change
IsShort (effects.Moves reach to) = Unit {0}
IsShort (effects.Cuts m n) = Unit {0}

short_note : (note : Note) → NoneHolds (note_cases note) → IsShortNote note
short_note (notes.Cutter d) none = up_to_in (pos 1000000) d none.0
short_note (notes.Intol t) none = up_to_in (pos 10000) t none.0
short_note (notes.Outtol t) none = up_to_in (pos 10000) t none.0
short_note _ none = tt

short_figure : (n : List ℕ) (r : Result Figure Case) → IfOk r IsFigure → IfSome (names n r) IsShort
short_figure n (Ok f) is = is
short_figure n (Err case) is = tt

short_defined : (here : Situation) (name : List ℕ) (form : Form) → AreFigures here.table → IfSome (defined here name form) IsShort
unfolding defined
short_defined here name form are = short_figure name (figure_of here.settings.units here.table form) (figure_in here.settings.units here.table form are)

short_move : (reach : Reach) (o : Option Position) → IfSome (moves reach o) IsShort
short_move reach None = tt
short_move reach (Some to) = tt

short_route : (here : Situation) (route : Route) → IfSome (goes here route) IsShort
short_route here (routes.From place) = short_move reaches.From (place_at here place)
short_route here (routes.Goto place) = short_move reaches.Goto (place_at here place)
short_route here (routes.By x y z) = short_move reaches.Godlta (moved_from here x y z)
short_route here (routes.Start how name other) = short_move reaches.Start (start_position_at here how name other)

short_contour : (n : Legs) (o : Option Motion) → IfSome (cuts n o) IsShort
short_contour n None = tt
short_contour n (Some m) = tt

short_ask : (here : Situation) (ask : Ask) → AreFigures here.table → NoneHolds (cases_by here ask) → IfSome (effect_by here ask) IsShort
short_ask here (Titles text) are none = tt
short_ask here (Says saying) are none = short_note (note_of here.settings.units saying) none
short_ask here (Sets side) are none = tt
short_ask here (Defines name form) are none = short_defined here name form are
short_ask here (Goes route) are none = short_route here route
short_ask here (Cuts contour n) are none =
    if_counted (legs_by (whole n)) (λ legs. cuts legs (motion_at here contour)) IsShort (λ legs. short_contour legs (motion_at here contour))
short_ask here Nothing are none = tt

-- ---- and so are the lengths behind it

half_short : (d : ℤ) → IsFromTo (pos 0) (pos 1000000) d → IsRadius (pos (radius_of (unsigned_abs d)))
half_short d is = record { least = omega (arith, ints); most = omega (arith, ints, is.0, is.1) }

note_lengths : (s : Settings) (note : Note) → AreLengths s → IsShortNote note → AreLengths (settings_with s note)
note_lengths s (notes.Units units) are short = record { radius = are.radius; intol = are.intol; outtol = are.outtol }
note_lengths s (notes.Cutter d) are short = record { radius = half_short d short; intol = are.intol; outtol = are.outtol }
note_lengths s (notes.Intol t) are short = record { radius = are.radius; intol = record { least = short.0; most = short.1 }; outtol = are.outtol }
note_lengths s (notes.Outtol t) are short = record { radius = are.radius; intol = are.intol; outtol = record { least = short.0; most = short.1 } }
note_lengths s (notes.Feed f) are short = record { radius = are.radius; intol = are.intol; outtol = are.outtol }
note_lengths s notes.Rapid are short = record { radius = are.radius; intol = are.intol; outtol = are.outtol }
note_lengths s _ are short = are

move_lengths : (reach : Reach) (s : Settings) → AreLengths s → AreLengths (settings_behind reach s)
move_lengths reaches.From s are = are
move_lengths reaches.Goto s are = record { radius = are.radius; intol = are.intol; outtol = are.outtol }
move_lengths reaches.Godlta s are = record { radius = are.radius; intol = are.intol; outtol = are.outtol }
move_lengths reaches.Start s are = record { radius = are.radius; intol = are.intol; outtol = are.outtol }

effect_lengths : (here : Situation) (e : Effect) (vs : List (List Pt)) → HasLengths here → IsShort e → HasLengths (after here e vs)
effect_lengths here (effects.Defines n f) vs has short = record { settings = has.settings; table = still_figures here.table n f has.table short }
effect_lengths here (effects.Sets (changes.Said note)) vs has short = record { settings = note_lengths here.settings note has.settings short; table = has.table }
effect_lengths here (effects.Sets (changes.Side side)) vs has short = record { settings = any_side here.settings (Some side) has.settings; table = has.table }
effect_lengths here (effects.Sets changes.Nothing) vs has short = has
effect_lengths here (effects.Moves reach to) vs has short = record { settings = move_lengths reach here.settings has.settings; table = has.table }
effect_lengths here (effects.Cuts m n) vs has short = record { settings = any_side here.settings (Some m.side) has.settings; table = has.table }

pub lengths_behind : (here : Situation) (deed : Deed) (e : Effect) (vs : List (List Pt)) → HasLengths here → refusal_of here deed ≡ None → effect_of here deed ≡ Some e → HasLengths (after here e vs)
lengths_behind here deed e vs has fine asked =
    effect_lengths here e vs has (of_some IsShort (effect_of here deed) e asked (short_ask here (ask_of deed) has.table (first_none (cases_by here (ask_of deed)) fine)))
