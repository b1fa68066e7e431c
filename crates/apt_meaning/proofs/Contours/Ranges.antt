-- Names stand for surfaces in range, and the contours that steps ask for have motions in range.
use Rattle.std.proofs.Common.{◌≡◌, ℕ, Bool, true, false, List, Option, Some, None, Result, Ok, Err, IfSome, refl, sym, subst, cond}
use Rattle.apt_words.specs.declared.Case.{Case}
use Rattle.apt_words.specs.declared.Go.{Go}
use Rattle.apt_words.specs.declared.Stop.{Stop}
use Rattle.apt_words.specs.declared.ask.Form.{Form}
use Rattle.apt_words.specs.declared.ask.Route.{Route}
use Rattle.apt_words.specs.declared.ask.Route.TheVariants as routes
use Rattle.apt_words.specs.declared.deed.Deed.{Deed}
use Rattle.apt_words.specs.Asks.{Ask, Titles, Says, Sets, Defines, Goes, Cuts, Nothing, ask_of}
use Rattle.apt_words.specs.Options.{◌>>=◌}
use Rattle.apt_plane.specs.declared.figures.Dir.{Dir}
use Rattle.apt_plane.specs.declared.figures.Surface.{Surface}
use Rattle.apt_plane.specs.Ranges.{IsSurface}
use Rattle.apt_offset.specs.Turns.{tangent, turn, is_zero}
use Rattle.apt_records.specs.declared.record.Position.{Position}
use Rattle.apt_records.specs.declared.record.Reach.{Reach}
use Rattle.apt_records.specs.declared.record.Reach.TheVariants as reaches
use Rattle.apt_defs.specs.declared.figure.Figure.{Figure}
use Rattle.apt_defs.specs.declared.figure.Figure.TheVariants as figures
use Rattle.apt_defs.specs.Definitions.{figure_of}
use Rattle.apt_defs.specs.Figures.{Table, IsFigure, AreFigures, figure_named}
use Rattle.apt_defs.proofs.Tables.{looked_up}
use Rattle.apt_meaning.specs.declared.situation.Settings.{Settings}
use Rattle.apt_meaning.specs.declared.situation.Situation.{Situation}
use Rattle.apt_meaning.specs.declared.motion.Motion.{Motion}
use Rattle.apt_stop.specs.declared.legs.Legs.{Legs}
use Rattle.apt_meaning.specs.declared.effect.Effect.{Effect}
use Rattle.apt_meaning.specs.Situations.{with_side}
use Rattle.apt_meaning.specs.Motions.{as_surface, surface_in, motion, if_turned, motion_at}
use Rattle.apt_meaning.specs.StartUps.{start_position_at}
use Rattle.apt_meaning.specs.Effects.{moves, cuts, legs_by, moved_from, place_at, names, defined, goes, effect_by, effect_of}
use Rattle.apt_meaning.specs.Ranges.{IsPositionOrNone, AreSettings, IsSituation, IsMotion, HasMotion}
use Rattle.apt_meaning.proofs.EffectRanges.{on_side_or_as_it_was, motion_is}
use Rattle.apt_scalar.specs.Scalars.{whole}
use Rattle.apt_meaning.proofs.Counts.{if_counted}

-- ---- names of surfaces

figure_surface : (o : Option Figure) → IfSome o IsFigure → IfSome (o >>= as_surface) IsSurface
figure_surface None is = tt
figure_surface (Some (figures.Point xy z)) is = tt
figure_surface (Some (figures.Shape s)) is = is
figure_surface (Some figures.Scalar) is = tt

pub named_surface : (table : Table) (name : List ℕ) → AreFigures table → IfSome (surface_in table name) IsSurface
named_surface table name are = figure_surface (figure_named table name) (looked_up table name are)

-- ---- what steps ask for, whether or not a case refuses them

moves_made : (reach : Reach) (o : Option Position) → IfSome (moves reach o) HasMotion
moves_made reach None = tt
moves_made reach (Some to) = tt

turned_made : (n : Legs) (b : Bool) (m : Motion) → (b ≡ false → IsMotion m) → IfSome (cuts n (cond b None (Some m))) HasMotion
turned_made n true m is = tt
turned_made n false m is = is refl

contour_made : (n : Legs) (s : Settings) (forward : Dir) (go : Go) (how : Stop) (p : Option Position) (d c : Option Surface)
    → AreSettings s → IsPositionOrNone p → IfSome d IsSurface → IfSome c IsSurface
    → IfSome (cuts n (p >>= λ start. d >>= λ drive. c >>= λ check. if_turned s start drive (turn forward (tangent drive start.xy) go) how check)) HasMotion
contour_made n s forward go how None d c is is_p is_d is_c = tt
contour_made n s forward go how (Some start) None c is is_p is_d is_c = tt
contour_made n s forward go how (Some start) (Some drive) None is is_p is_d is_c = tt
contour_made n s forward go how (Some start) (Some drive) (Some check) is is_p is_d is_c =
    let turned = turn forward (tangent drive start.xy) go in
    turned_made n (is_zero turned) (motion s start drive turned how check) (λ turns. motion_is s start drive turned how check is is_p is_d is_c turns)

names_made : (name : List ℕ) (r : Result Figure Case) → IfSome (names name r) HasMotion
names_made name (Ok f) = tt
names_made name (Err case) = tt

defined_made : (here : Situation) (name : List ℕ) (form : Form) → IfSome (defined here name form) HasMotion
unfolding defined
defined_made here name form = names_made name (figure_of here.settings.units here.table form)

goes_made : (here : Situation) (route : Route) → IfSome (goes here route) HasMotion
goes_made here (routes.From place) = moves_made reaches.From (place_at here place)
goes_made here (routes.Goto place) = moves_made reaches.Goto (place_at here place)
goes_made here (routes.By x y z) = moves_made reaches.Godlta (moved_from here x y z)
goes_made here (routes.Start how name other) = moves_made reaches.Start (start_position_at here how name other)

made_by : (here : Situation) (ask : Ask) → IsSituation here → IfSome (effect_by here ask) HasMotion
unfolding motion_at
made_by here (Titles text) is = tt
made_by here (Says saying) is = tt
made_by here (Sets side) is = tt
made_by here (Defines name form) is = defined_made here name form
made_by here (Goes route) is = goes_made here route
made_by here (Cuts contour n) is =
    if_counted (legs_by (whole n)) (λ legs. cuts legs (motion_at here contour)) HasMotion
    (λ legs. contour_made legs (with_side here.settings contour.side) here.forward contour.go contour.stop here.position (surface_in here.table contour.drive) (surface_in here.table contour.check)
    (on_side_or_as_it_was here.settings contour.side is.settings) is.position (named_surface here.table contour.drive is.table) (named_surface here.table contour.check is.table))
made_by here Nothing is = tt

pub made : (here : Situation) (deed : Deed) → IsSituation here → IfSome (effect_of here deed) HasMotion
made here deed is = made_by here (ask_of deed) is

pub motion_in : (here : Situation) (deed : Deed) (e : Option Effect) → IsSituation here → e ≡ effect_of here deed → IfSome e HasMotion
motion_in here deed e is same = subst (λ (o : Option Effect). IfSome o HasMotion) (sym same) (made here deed is)
