-- A contour or a move that no case refuses has a feed; a rapid move needs none.
use Rattle.std.proofs.Common.{◌≡◌, ℕ, not, false, List, [], ◌∷◌, Result, Ok, Err, Option, Some, None, IfSome}
use Rattle.apt_words.specs.declared.Case.{Case}
use Rattle.apt_words.specs.declared.Case.TheVariants as cases
use Rattle.apt_words.specs.declared.Side.{Side}
use Rattle.apt_words.specs.declared.Stop.{Stop}
use Rattle.apt_words.specs.declared.ask.Form.{Form}
use Rattle.apt_words.specs.declared.ask.Place.{Place}
use Rattle.apt_words.specs.declared.ask.Place.TheVariants as places
use Rattle.apt_words.specs.declared.ask.Route.{Route}
use Rattle.apt_words.specs.declared.ask.Route.TheVariants as routes
use Rattle.apt_words.specs.declared.deed.Deed.{Deed}
use Rattle.apt_words.specs.Asks.{Ask, Titles, Says, Sets, Defines, Goes, Cuts, Nothing, ask_of}
use Rattle.apt_words.specs.Options.{◌>>=◌}
use Rattle.apt_words.specs.Rows.{NoneHolds}
use Rattle.apt_words.specs.declared.contour.Contouring.{Contouring}
use Rattle.apt_plane.specs.declared.figures.Surface.{Surface}
use Rattle.apt_records.specs.declared.record.Position.{Position}
use Rattle.apt_records.specs.declared.record.Reach.{Reach}
use Rattle.apt_records.specs.declared.record.Reach.TheVariants as reaches
use Rattle.apt_defs.specs.declared.figure.Figure.{Figure}
use Rattle.apt_defs.specs.Definitions.{figure_of}
use Rattle.apt_meaning.specs.declared.situation.Settings.{Settings}
use Rattle.apt_meaning.specs.declared.situation.Situation.{Situation}
use Rattle.apt_meaning.specs.declared.motion.Motion.{Motion}
use Rattle.apt_stop.specs.declared.legs.Legs.{Legs}
use Rattle.apt_meaning.specs.declared.effect.Effect.{Effect}
use Rattle.apt_meaning.specs.declared.effect.Effect.TheVariants as effects
use Rattle.apt_meaning.specs.Situations.{has_feed, lacks_feed, with_side}
use Rattle.apt_meaning.specs.Motions.{surface_in, turn_at, if_turned, motion_at}
use Rattle.apt_meaning.specs.StartUps.{start_position_at}
use Rattle.apt_meaning.specs.Effects.{moves, cuts, legs_by, place_in, place_at, names, defined, position_by, moved_from, goes, effect_by, effect_of}
use Rattle.apt_meaning.specs.Refusals.{place_cases, move_cases, route_cases, surface_cases, go_cases, cases_by, cases_of}
use Rattle.apt_meaning.proofs.Said.{of_some}
use Rattle.apt_scalar.specs.Scalars.{whole}
use Rattle.apt_meaning.proofs.Counts.{unless_counted}

abbrev pub IsFed : Settings → Effect → Type 0
IsFed s (effects.Defines n f) = Unit {0}
IsFed s (effects.Sets change) = Unit {0}
IsFed s (effects.Moves reaches.From to) = Unit {0}
IsFed s (effects.Moves reaches.Goto to) = lacks_feed s ≡ false
IsFed s (effects.Moves reaches.Godlta to) = lacks_feed s ≡ false
IsFed s (effects.Moves reaches.Start to) = lacks_feed s ≡ false
IsFed s (effects.Cuts m n) = not (has_feed s) ≡ false

figure_fed : (s : Settings) (n : List ℕ) (r : Result Figure Case) → IfSome (names n r) (IsFed s)
figure_fed s n (Ok f) = tt
figure_fed s n (Err case) = tt

defined_fed : (here : Situation) (name : List ℕ) (form : Form) → IfSome (defined here name form) (IsFed here.settings)
unfolding defined
defined_fed here name form = figure_fed here.settings name (figure_of here.settings.units here.table form)

move_fed : (s : Settings) (reach : Reach) (to : Position) → lacks_feed s ≡ false → IsFed s (effects.Moves reach to)
move_fed s reaches.From to fed = tt
move_fed s reaches.Goto to fed = fed
move_fed s reaches.Godlta to fed = fed
move_fed s reaches.Start to fed = fed

moves_fed : (s : Settings) (reach : Reach) (o : Option Position) → NoneHolds (move_cases s o) → IfSome (moves reach o) (IsFed s)
moves_fed s reach None none = tt
moves_fed s reach (Some to) none = move_fed s reach to none.1.1.1.0

point_fed : (s : Settings) (reach : Reach) (o : Option Position) → lacks_feed s ≡ false → IfSome (moves reach o) (IsFed s)
point_fed s reach None fed = tt
point_fed s reach (Some to) fed = move_fed s reach to fed

from_fed : (s : Settings) (o : Option Position) → IfSome (moves reaches.From o) (IsFed s)
from_fed s None = tt
from_fed s (Some to) = tt

go_fed : (here : Situation) (how : Stop) (name : List ℕ) (other : Option (Stop × List ℕ)) → NoneHolds (go_cases here how name other)
    → IfSome (moves reaches.Start (start_position_at here how name other)) (IsFed here.settings)
go_fed here how name None none = point_fed here.settings reaches.Start (start_position_at here how name None) none.1.1.1.0
go_fed here how name (Some other) none = point_fed here.settings reaches.Start (start_position_at here how name (Some other)) none.1.1.1.1.1.0

cuts_fed : (s : Settings) (n : Legs) (o : Option Motion) → not (has_feed s) ≡ false → IfSome (cuts n o) (IsFed s)
cuts_fed s n None fed = tt
cuts_fed s n (Some m) fed = fed

-- the side of the cutter changes no feed
without_side : (s : Settings) (side : Option Side) → not (has_feed (with_side s side)) ≡ false → not (has_feed s) ≡ false
without_side s None fed = fed
without_side s (Some side) fed = fed

surfaces_fed : (here : Situation) (contour : Contouring) (n : Legs) (p : Option Position) (d c : Option Surface) → NoneHolds (surface_cases here contour n p d c)
    → IfSome (cuts n (p >>= λ start. d >>= λ drive. c >>= λ check. if_turned (with_side here.settings contour.side) start drive (turn_at here start drive contour.go) contour.stop check)) (IsFed here.settings)
surfaces_fed here contour n None d c none = tt
surfaces_fed here contour n (Some start) None c none = tt
surfaces_fed here contour n (Some start) (Some drive) None none = tt
surfaces_fed here contour n (Some start) (Some drive) (Some check) none =
    cuts_fed here.settings n (if_turned (with_side here.settings contour.side) start drive (turn_at here start drive contour.go) contour.stop check) (without_side here.settings contour.side none.1.0)

goto_fed : (here : Situation) (place : Place) → NoneHolds (place_cases here place ((lacks_feed here.settings, cases.NoFeed) ∷ [])) → IfSome (moves reaches.Goto (place_at here place)) (IsFed here.settings)
goto_fed here (places.Xyz x y z) none = moves_fed here.settings reaches.Goto (Some (position_by here.settings.units x y z)) none
goto_fed here (places.Named p) none = point_fed here.settings reaches.Goto (place_in here.table p) none.1.1.0

goes_fed : (here : Situation) (route : Route) → NoneHolds (route_cases here route) → IfSome (goes here route) (IsFed here.settings)
goes_fed here (routes.From place) none = from_fed here.settings (place_at here place)
goes_fed here (routes.Goto place) none = goto_fed here place none
goes_fed here (routes.By x y z) none = moves_fed here.settings reaches.Godlta (moved_from here x y z) none.1
goes_fed here (routes.Start how name other) none = go_fed here how name other none

all_fed : (here : Situation) (ask : Ask) → NoneHolds (cases_by here ask) → IfSome (effect_by here ask) (IsFed here.settings)
unfolding motion_at
all_fed here (Titles text) none = tt
all_fed here (Says saying) none = tt
all_fed here (Sets side) none = tt
all_fed here (Defines name form) none = defined_fed here name form
all_fed here (Goes route) none = goes_fed here route none
all_fed here (Cuts contour n) none =
    let d = surface_in here.table contour.drive in
    let c = surface_in here.table contour.check in
    unless_counted (legs_by (whole n)) (λ legs. cuts legs (motion_at here contour)) (λ legs. surface_cases here contour legs here.position d c)
    (λ o. IfSome o (IsFed here.settings)) (λ legs none. surfaces_fed here contour legs here.position d c none) none.1.1.1.1.1
all_fed here Nothing none = tt

-- the effect of a step that no case refuses
pub fed : (here : Situation) (deed : Deed) (e : Effect) → effect_of here deed ≡ Some e → NoneHolds (cases_of here deed) → IsFed here.settings e
fed here deed e asked none = of_some (IsFed here.settings) (effect_of here deed) e asked (all_fed here (ask_of deed) none)
