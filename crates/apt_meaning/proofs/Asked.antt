-- A step that no case refuses has an effect in range, and a contour that it asks for is legal with its own vertices, to its contact.
use Rattle.std.proofs.Common.{◌≡◌, ℕ, not, Bool, true, false, List, [], ◌∷◌, Option, Some, None, is_none, length, map, IfSome, Result, Ok, Err, IfOk, refl, cond, sym, ap, subst, ◌∙◌, ℤ, pos}
use Rattle.std.proofs.lemmas.Bool.{true≢false}
use Rattle.std.proofs.lemmas.Option.{same_Some}
use Rattle.apt_num.specs.declared.Sign.{Sign}
use Rattle.apt_words.specs.declared.Command.TheVariants as commands
use Rattle.apt_words.specs.declared.Side.{Side}
use Rattle.apt_words.specs.declared.Stop.{Stop}
use Rattle.apt_words.specs.declared.Case.{Case}
use Rattle.apt_words.specs.declared.Case.TheVariants as cases
use Rattle.apt_words.specs.declared.Turn.TheVariants as turns
use Rattle.apt_words.specs.declared.Units.{Units}
use Rattle.apt_words.specs.declared.ask.Form.{Form}
use Rattle.apt_words.specs.declared.ask.Place.{Place}
use Rattle.apt_words.specs.declared.ask.Place.TheVariants as places
use Rattle.apt_words.specs.declared.ask.Route.{Route}
use Rattle.apt_words.specs.declared.ask.Route.TheVariants as routes
use Rattle.apt_words.specs.declared.ask.Saying.{Saying}
use Rattle.apt_words.specs.declared.ask.Saying.TheVariants as sayings
use Rattle.apt_words.specs.declared.deed.Deed.{Deed}
use Rattle.apt_words.specs.Asks.{Ask, Titles, Says, Sets, Defines, Goes, Cuts, Nothing, ask_of, numbers_of, saying_numbers}
use Rattle.apt_words.specs.Options.{◌>>=◌}
use Rattle.apt_words.specs.Rows.{Row, first_of, NoneHolds}
use Rattle.apt_words.specs.Sources.{AskHasText, DeedHasText}
use Rattle.apt_scalar.specs.Scalars.{grid_units, whole}
use Rattle.apt_plane.specs.declared.figures.Pt.{Pt}
use Rattle.apt_plane.specs.declared.figures.Surface.{Surface}
use Rattle.apt_plane.specs.Ranges.{IsPoint, IsSurface}
use Rattle.apt_offset.specs.Turns.{is_zero}
use Rattle.apt_startup.specs.declared.Goal.{Goal}
use Rattle.apt_startup.specs.declared.StartUp.{StartUp}
use Rattle.apt_startup.specs.StartUps.{start_up_cases, start_point}
use Rattle.apt_startup.proofs.Limits.{start_point-is}
use Rattle.apt_records.specs.Ranges.{IsPosition, IsNote}
use Rattle.apt_records.specs.declared.record.Note.{Note}
use Rattle.apt_records.specs.declared.record.Note.TheVariants as notes
use Rattle.apt_records.specs.declared.record.Position.{Position}
use Rattle.apt_records.specs.declared.record.Reach.{Reach}
use Rattle.apt_records.specs.declared.record.Reach.TheVariants as reaches
use Rattle.apt_defs.specs.declared.figure.Figure.{Figure}
use Rattle.apt_defs.specs.declared.figure.Figure.TheVariants as figures
use Rattle.apt_defs.specs.Figures.{IsFigure, figure_named}
use Rattle.apt_defs.specs.Forms.{is_in_reach}
use Rattle.apt_defs.specs.Definitions.{figure_of}
use Rattle.apt_defs.proofs.InRange.{figure_in}
use Rattle.apt_defs.proofs.Tables.{looked_up}
use Rattle.apt_meaning.specs.declared.situation.Settings.{Settings}
use Rattle.apt_meaning.specs.declared.situation.Situation.{Situation}
use Rattle.apt_meaning.specs.declared.motion.Motion.{Motion}
use Rattle.apt_stop.specs.declared.legs.Legs.{Legs}
use Rattle.apt_stop.specs.declared.legs.Legs.TheVariants as legs
use Rattle.apt_meaning.specs.declared.effect.Change.{Change}
use Rattle.apt_meaning.specs.declared.effect.Change.TheVariants as changes
use Rattle.apt_meaning.specs.declared.effect.Effect.{Effect}
use Rattle.apt_meaning.specs.declared.effect.Effect.TheVariants as effects
use Rattle.apt_meaning.specs.Situations.{lacks_feed, with_side}
use Rattle.apt_records.specs.Vertices.{at_height}
use Rattle.apt_meaning.specs.Motions.{as_surface, surface_in, turn_at, if_turned, motion, motion_at}
use Rattle.apt_meaning.specs.Cuts.{vertices_of, motions_of, IsOwnCut}
use Rattle.apt_meaning.specs.StartUps.{goal_in, second_in, start_up_at, start_position, start_position_at}
use Rattle.apt_meaning.specs.Effects.{note_of, moves, cuts, legs_by, as_position, place_at, names, defined, position_by, moved_by, goes, effect_by, effect_of}
use Rattle.apt_meaning.specs.Refusals.{is_other_kind, is_no_place, refused, refused_form, position_cases, place_cases, move_cases, note_cases, route_cases, cut_cases, turned_cases, surface_cases, contour_cases, start_cases, go_cases, cases_by, cases_of, refusal_of}
use Rattle.apt_meaning.specs.Paths.{IsLegalCut, EveryContour}
use Rattle.apt_meaning.specs.Records.{MayHave, last_behind, contours_by}
use Rattle.apt_meaning.specs.Compiled.{ends_of, points_of}
use Rattle.apt_stop.specs.Legs.{leg_count}
use Rattle.apt_meaning.specs.Ranges.{IsPositionOrNone, AreSettings, IsChange, IsSituation, IsMotion, IsEffect}
use Rattle.apt_scalar.specs.StepScalars.{AllScalars, HasScalars}
use Rattle.apt_meaning.specs.Vertices.{HasIn}
use Rattle.apt_words.proofs.Rows.{first_none, none_first}
use Rattle.apt_words.specs.declared.contour.Contouring.{Contouring}
use Rattle.apt_meaning.proofs.Contours.Legal.{motion_defined}
use Rattle.apt_meaning.proofs.Contours.Legs.{first_free, legs_are}
use Rattle.apt_meaning.proofs.EffectRanges.{reach_in, up_to_in, feed_note, whole_note, on_side_or_as_it_was, motion_is}
use Rattle.apt_meaning.proofs.Contours.Ranges.{named_surface}
use Rattle.apt_meaning.proofs.Counts.{unless_counted}

-- a contour ends at its contact
abbrev pub EndsThere : Effect → Type 0
EndsThere (effects.Defines n f) = Unit {0}
EndsThere (effects.Sets change) = Unit {0}
EndsThere (effects.Moves reach to) = Unit {0}
EndsThere (effects.Cuts m n) = last_behind m.start.xy (points_of (effects.Cuts m n)) ≡ last_behind m.start.xy (ends_of (effects.Cuts m n))

-- the legs of a contour are legal
abbrev pub CutsLegally : Effect → List (List Pt) → Type 0
CutsLegally e cuts = EveryContour IsLegalCut (contours_by e cuts)

-- they have the compiler's own vertices
abbrev pub CutsOwn : Effect → List (List Pt) → Type 0
CutsOwn e cuts = EveryContour IsOwnCut (contours_by e cuts)

-- an effect in range, whose contour is legal with its own vertices, which end at its contact
pub record IsFit (e : Effect) : Type 0 where
  pub good : IsEffect e
  pub legal : CutsLegally e (points_of e)
  pub own : CutsOwn e (points_of e)
  pub within : HasIn e (points_of e)
  pub may : MayHave e (points_of e)
  pub ends : EndsThere e

pub record Asks (o : Option Effect) : Type 0 where
  pub e : Effect
  pub asked : o ≡ Some e
  pub fit : IsFit e

defines : (n : List ℕ) (f : Figure) → IsFigure f → Asks (Some (effects.Defines n f))
defines n f is = record { e = effects.Defines n f; asked = refl; fit = record { good = is; legal = tt; own = tt; within = tt; may = refl; ends = tt } }

sets : (change : Change) → IsChange change → Asks (Some (effects.Sets change))
sets change is = record { e = effects.Sets change; asked = refl; fit = record { good = is; legal = tt; own = tt; within = tt; may = refl; ends = tt } }

says : (note : Note) → IsNote note → Asks (Some (effects.Sets (changes.Said note)))
says note is = sets (changes.Said note) is

moves_to : (reach : Reach) (to : Position) → IsPosition to → Asks (Some (effects.Moves reach to))
moves_to reach to is = record { e = effects.Moves reach to; asked = refl; fit = record { good = is; legal = tt; own = tt; within = tt; may = refl; ends = tt } }

one_each : (m : Motion) (n : Legs) → length (map vertices_of (motions_of m n)) ≡ leg_count n
one_each m legs.One = refl
one_each m legs.Two = refl

cuts_on : (m : Motion) (n : Legs) → IsMotion m → NoneHolds (cut_cases m n) → Asks (Some (effects.Cuts m n))
cuts_on m n is none =
    let own = legs_are m n is none in record {
      e = effects.Cuts m n;
      asked = refl;
      fit = record { good = is; legal = own.legal; own = own.own; within = own.cuts; may = (motion_defined m is (first_free m n none), one_each m n); ends = own.ends };
    }

-- ---- definitions

figure_asks : (n : List ℕ) (r : Result Figure Case) → IfOk r IsFigure → NoneHolds (refused r) → Asks (names n r)
figure_asks n (Ok f) is none = defines n f is
figure_asks n (Err case) is none = absurd (true≢false none.0)

defined_asks : (here : Situation) (name : List ℕ) (form : Form) → IsSituation here → NoneHolds (refused_form here form) → Asks (defined here name form)
unfolding defined refused_form
defined_asks here name form is none =
    figure_asks name (figure_of here.settings.units here.table form) (figure_in here.settings.units here.table form is.table) none

-- ---- moves

point_is : (p : Pt) → not (is_in_reach p.x) ≡ false → not (is_in_reach p.y) ≡ false → IsPoint p
point_is p x y = record { x = reach_in p.x x; y = reach_in p.y y }

position_is : (to : Position) (more : List Row) → NoneHolds (position_cases to more) → IsPosition to
position_is to more none = record { xy = point_is to.xy none.0 none.1.0; z = reach_in to.z none.1.1.0 }

move_asks : (reach : Reach) (s : Settings) (o : Option Position) → is_none o ≡ false → NoneHolds (move_cases s o) → Asks (moves reach o)
move_asks reach s None there none = absurd (true≢false there)
move_asks reach s (Some to) there none = moves_to reach to (position_is to ((lacks_feed s, cases.NoFeed) ∷ []) none)

still_there : {A B : Type 0} (o : Option A) (f : A → B) → is_none o ≡ false → is_none (o >>= λ x. Some (f x)) ≡ false
still_there None f there = absurd (true≢false there)
still_there (Some x) f there = refl

-- ---- points and surfaces by name

place_asks : (reach : Reach) (o : Option Figure) → IfSome o IsFigure → is_none o ≡ false → is_no_place o ≡ false → Asks (moves reach (o >>= as_position))
place_asks reach None is there kind = absurd (true≢false there)
place_asks reach (Some (figures.Point xy z)) is there kind = moves_to reach (at_height z xy) (record { xy = is.xy; z = is.z })
place_asks reach (Some (figures.Shape s)) is there kind = absurd (true≢false kind)
place_asks reach (Some figures.Scalar) is there kind = absurd (true≢false kind)

surface_there : (o : Option Figure) → is_none o ≡ false → is_other_kind o ≡ false → is_none (o >>= as_surface) ≡ false
surface_there None there kind = absurd (true≢false there)
surface_there (Some (figures.Point xy z)) there kind = absurd (true≢false kind)
surface_there (Some (figures.Shape s)) there kind = refl
surface_there (Some figures.Scalar) there kind = absurd (true≢false kind)

-- ---- start-up

started_there : (b : Bool) (to : Position) → b ≡ true → IsPosition to → Asks (moves reaches.Start (cond b (Some to) None))
started_there true to e is = moves_to reaches.Start to is
started_there false to e is = absurd (true≢false (sym e))

starts : (from : Position) (u : StartUp) → IsPosition from → NoneHolds (start_up_cases u) → Asks (moves reaches.Start (start_position from u))
starts from u is none =
    started_there (is_none (first_of (start_up_cases u))) (at_height from.z (start_point u)) (ap is_none (none_first (start_up_cases u) none))
    (record { xy = start_point-is u none; z = is.z })

abbrev pub goal_at : Stop → Surface → Goal
goal_at how s = record { how = how; surface = s }

goal_there : (o : Option Figure) (how : Stop) → is_none o ≡ false → is_other_kind o ≡ false
    → is_none ((o >>= as_surface) >>= λ s. Some (goal_at how s)) ≡ false
goal_there None how there kind = absurd (true≢false there)
goal_there (Some (figures.Point xy z)) how there kind = absurd (true≢false kind)
goal_there (Some (figures.Shape s)) how there kind = refl
goal_there (Some figures.Scalar) how there kind = absurd (true≢false kind)

abbrev pub start_up_on : Situation → Option Position → Option Goal → Option (Option Goal) → Option StartUp
start_up_on here p first second =
    p >>= λ start. first >>= λ a. second >>= λ b. Some (record { start = start.xy; first = a; second = b; radius = here.settings.radius })

start_asks : (here : Situation) (p : Option Position) (first : Option Goal) (second : Option (Option Goal)) → IsPositionOrNone p
    → is_none p ≡ false → is_none first ≡ false → is_none second ≡ false → NoneHolds (start_cases (start_up_on here p first second))
    → Asks (moves reaches.Start (p >>= λ from. start_up_on here p first second >>= λ u. start_position from u))
start_asks here None first second is e f g none = absurd (true≢false e)
start_asks here (Some from) None second is e f g none = absurd (true≢false f)
start_asks here (Some from) (Some first) None is e f g none = absurd (true≢false g)
start_asks here (Some from) (Some first) (Some second) is e f g none =
    starts from (record { start = from.xy; first = first; second = second; radius = here.settings.radius }) is none

go_asks : (here : Situation) (how : Stop) (name : List ℕ) (other : Option (Stop × List ℕ)) → IsSituation here
    → NoneHolds (go_cases here how name other) → Asks (moves reaches.Start (start_position_at here how name other))
unfolding start_up_at
go_asks here how name None is none =
    start_asks here here.position (goal_in here.table how name) (Some None) is.position none.0
    (goal_there (figure_named here.table name) how none.1.0 none.1.1.0) refl none.1.1.1.1
go_asks here how name (Some other) is none =
    start_asks here here.position (goal_in here.table how name) (second_in here.table (Some other)) is.position none.0
    (goal_there (figure_named here.table name) how none.1.0 none.1.1.1.0)
    (still_there (goal_in here.table other.0 other.1) (λ g. Some g) (goal_there (figure_named here.table other.1) other.0 none.1.1.0 none.1.1.1.1.0)) none.1.1.1.1.1.1

-- ---- contours

unless_asks : (n : Legs) (b : Bool) (o : Option Motion) → b ≡ false → Asks (cuts n o) → Asks (cuts n (cond b None o))
unless_asks n true o e asks = absurd (true≢false e)
unless_asks n false o e asks = asks

turned_asks : (n : Legs) (s : Settings) (start : Position) (drive : Surface) (turned : Sign) (how : Stop) (check : Surface)
    → AreSettings s → IsPosition start → IsSurface drive → IsSurface check
    → NoneHolds (turned_cases n s start drive turned how check) → Asks (cuts n (if_turned s start drive turned how check))
turned_asks n s start drive turned how check is from d c none =
    let turns = none.1.1.1 in
    let m = motion s start drive turned how check in
    unless_asks n (is_zero turned) (Some m) turns.0 (cuts_on m n (motion_is s start drive turned how check is from d c turns.0) turns.1)

surfaces_ask : (here : Situation) (contour : Contouring) (n : Legs) (p : Option Position) (d c : Option Surface)
    → AreSettings here.settings → IsPositionOrNone p → IfSome d IsSurface → IfSome c IsSurface
    → is_none p ≡ false → is_none d ≡ false → is_none c ≡ false → NoneHolds (surface_cases here contour n p d c)
    → Asks (cuts n (p >>= λ start. d >>= λ drive. c >>= λ check. if_turned (with_side here.settings contour.side) start drive (turn_at here start drive contour.go) contour.stop check))
surfaces_ask here contour n None d c is is_p is_d is_c e f g none = absurd (true≢false e)
surfaces_ask here contour n (Some start) None c is is_p is_d is_c e f g none = absurd (true≢false f)
surfaces_ask here contour n (Some start) (Some drive) None is is_p is_d is_c e f g none = absurd (true≢false g)
surfaces_ask here contour n (Some start) (Some drive) (Some check) is is_p is_d is_c e f g none =
    turned_asks n (with_side here.settings contour.side) start drive (turn_at here start drive contour.go) contour.stop check (on_side_or_as_it_was here.settings contour.side is) is_p is_d is_c none

contour_asks : (here : Situation) (contour : Contouring) (n : ℤ) → IsSituation here
    → NoneHolds (contour_cases here contour n) → Asks (legs_by (whole n) >>= λ legs. cuts legs (motion_at here contour))
unfolding motion_at
contour_asks here contour n is none =
    let d = none.1 in
    let c = d.1.1 in
    let on = surface_in here.table contour.drive in
    let at = surface_in here.table contour.check in
    unless_counted (legs_by (whole n)) (λ legs. cuts legs (motion_at here contour)) (λ legs. surface_cases here contour legs here.position on at) Asks
    (λ legs free. surfaces_ask here contour legs here.position on at is.settings is.position
    (named_surface here.table contour.drive is.table) (named_surface here.table contour.check is.table)
    none.0 (surface_there (figure_named here.table contour.drive) d.0 d.1.0) (surface_there (figure_named here.table contour.check) c.0 c.1.0) free) c.1.1

-- ---- places

place_asked : (reach : Reach) (here : Situation) (place : Place) (more : List Row) → IsSituation here → NoneHolds (place_cases here place more) → Asks (moves reach (place_at here place))
place_asked reach here (places.Xyz x y z) more is none = moves_to reach (position_by here.settings.units x y z) (position_is (position_by here.settings.units x y z) more none)
place_asked reach here (places.Named p) more is none = place_asks reach (figure_named here.table p) (looked_up here.table p is.table) none.0 none.1.0

pub route_asks : (here : Situation) (route : Route) → IsSituation here → NoneHolds (route_cases here route) → Asks (goes here route)
route_asks here (routes.From place) is none = place_asked reaches.From here place [] is none.1
route_asks here (routes.Goto place) is none = place_asked reaches.Goto here place ((lacks_feed here.settings, cases.NoFeed) ∷ []) is none
route_asks here (routes.By x y z) is none =
    move_asks reaches.Godlta here.settings (here.position >>= λ p. Some (moved_by here.settings.units x y z p)) (still_there here.position (moved_by here.settings.units x y z) none.0) none.1
route_asks here (routes.Start how name other) is none = go_asks here how name other is none

-- ---- notes

pub saying_in : (units : Units) (saying : Saying) → AllScalars (saying_numbers saying) → NoneHolds (note_cases (note_of units saying)) → IsNote (note_of units saying)
saying_in units (sayings.Units others) numbers none = tt
saying_in units (sayings.Diameter v) numbers none = up_to_in (pos 1000000) (grid_units units v) none.0
saying_in units (sayings.Inward v) numbers none = up_to_in (pos 10000) (grid_units units v) none.0
saying_in units (sayings.Outward v) numbers none = up_to_in (pos 10000) (grid_units units v) none.0
saying_in units (sayings.Feed v) numbers none = feed_note v numbers.0 none.0
saying_in units (sayings.Do (commands.Spindle turns.Cw n)) numbers none = whole_note n numbers.0 none.0
saying_in units (sayings.Do (commands.Spindle turns.Ccw n)) numbers none = whole_note n numbers.0 none.0
saying_in units (sayings.Do (commands.Spindle turns.Off n)) numbers none = refl
saying_in units (sayings.Do (commands.Tool n)) numbers none = whole_note n numbers.0 none.0
saying_in units _ numbers none = tt

-- ---- a line for each ask

asks_by : (here : Situation) (ask : Ask) → IsSituation here → AllScalars (numbers_of ask) → AskHasText ask → NoneHolds (cases_by here ask) → Asks (effect_by here ask)
asks_by here (Titles text) is numbers worded none = says (notes.Partno text) worded.0
asks_by here (Says saying) is numbers worded none = says (note_of here.settings.units saying) (saying_in here.settings.units saying numbers none)
asks_by here (Sets side) is numbers worded none = sets (changes.Side side) tt
asks_by here (Defines name form) is numbers worded none = defined_asks here name form is none
asks_by here (Goes route) is numbers worded none = route_asks here route is none
asks_by here (Cuts contour n) is numbers worded none = contour_asks here contour n is none
asks_by here Nothing is numbers worded none = sets changes.Nothing tt

pub asks : (here : Situation) (deed : Deed) → IsSituation here → HasScalars deed → DeedHasText deed → NoneHolds (cases_of here deed) → Asks (effect_of here deed)
asks here deed is numbers worded none = asks_by here (ask_of deed) is numbers worded none

-- where no case refuses it, a step has an effect
pub answered : (here : Situation) (deed : Deed) → IsSituation here → HasScalars deed → DeedHasText deed → refusal_of here deed ≡ None → Asks (effect_of here deed)
answered here deed is numbers worded fine = asks here deed is numbers worded (first_none (cases_of here deed) fine)

-- and it is in range
pub good : (here : Situation) (deed : Deed) (e : Effect) → effect_of here deed ≡ Some e → NoneHolds (cases_of here deed) → IsSituation here → HasScalars deed → DeedHasText deed → IsEffect e
good here deed e asked none is numbers worded =
    let a = asks here deed is numbers worded none in
    subst IsEffect (same_Some a.e e (sym a.asked ∙ asked)) a.fit.good
