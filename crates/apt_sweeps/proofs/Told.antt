-- What the effect of a step tells of arcs: a contour has a sense and a short band, and FROM comes where there was no position.
use Rattle.std.proofs.Common.{◌≡◌, ℕ, List, [], ◌∷◌, Result, Ok, Err, Option, Some, None, IfSome, is_some, refl, inl, inr}
use Rattle.apt_num.specs.declared.Sign.{Sign}
use Rattle.apt_num.specs.declared.Sign.TheVariants as signs
use Rattle.apt_words.specs.declared.Case.{Case}
use Rattle.apt_words.specs.declared.Case.TheVariants as cases
use Rattle.apt_words.specs.declared.Go.{Go}
use Rattle.apt_words.specs.declared.Stop.{Stop}
use Rattle.apt_words.specs.declared.ask.Form.{Form}
use Rattle.apt_words.specs.declared.ask.Route.{Route}
use Rattle.apt_words.specs.declared.ask.Route.TheVariants as routes
use Rattle.apt_words.specs.declared.deed.Deed.{Deed}
use Rattle.apt_words.specs.Asks.{Ask, Titles, Says, Sets, Defines, Goes, Cuts, Nothing, ask_of}
use Rattle.apt_words.specs.Options.{◌>>=◌}
use Rattle.apt_words.specs.Rows.{Row, first_of}
use Rattle.apt_scalar.specs.Scalars.{whole}
use Rattle.apt_plane.specs.declared.figures.Surface.{Surface}
use Rattle.apt_plane.specs.Ranges.{IsSurface, IsSense}
use Rattle.apt_records.specs.declared.record.Position.{Position}
use Rattle.apt_records.specs.declared.record.Reach.{Reach}
use Rattle.apt_records.specs.declared.record.Reach.TheVariants as reaches
use Rattle.apt_stop.specs.declared.legs.Legs.{Legs}
use Rattle.apt_defs.specs.declared.figure.Figure.{Figure}
use Rattle.apt_defs.specs.Definitions.{figure_of}
use Rattle.apt_meaning.specs.declared.situation.Settings.{Settings}
use Rattle.apt_meaning.specs.declared.situation.Situation.{Situation}
use Rattle.apt_meaning.specs.declared.motion.Motion.{Motion}
use Rattle.apt_meaning.specs.declared.effect.Effect.{Effect}
use Rattle.apt_meaning.specs.declared.effect.Effect.TheVariants as effects
use Rattle.apt_meaning.specs.Situations.{with_side}
use Rattle.apt_meaning.specs.Motions.{surface_in, turn_at, if_turned, motion_at}
use Rattle.apt_meaning.specs.StartUps.{start_position_at}
use Rattle.apt_meaning.specs.Effects.{moves, cuts, legs_by, place_at, names, defined, moved_from, goes, effect_by, effect_of}
use Rattle.apt_meaning.specs.Refusals.{place_cases, cases_by, refusal_of}
use Rattle.apt_meaning.proofs.Said.{of_some}
use Rattle.apt_meaning.proofs.Counts.{if_counted}
use Rattle.apt_meaning.proofs.Contours.Ranges.{named_surface}
use Rattle.apt_sweeps.proofs.Bands.{IsShortCut, AreLengths, HasLengths, short_motion, any_side}

-- ---- a contour has a sense and a short band

abbrev pub IsGoodCut : Motion → Type 0
IsGoodCut m = IsSense m.sense × IsShortCut m

abbrev pub HasGoodCut : Effect → Type 0
HasGoodCut (effects.Defines n f) = Unit {0}
HasGoodCut (effects.Sets change) = Unit {0}
HasGoodCut (effects.Moves reach to) = Unit {0}
HasGoodCut (effects.Cuts m n) = IsGoodCut m

turned_good : (n : Legs) (s : Settings) (start : Position) (drive : Surface) (turned : Sign) (how : Stop) (check : Surface) → AreLengths s → IsSurface drive
    → IfSome (cuts n (if_turned s start drive turned how check)) HasGoodCut
turned_good n s start drive signs.Plus how check are is = (inl refl, short_motion s start drive signs.Plus how check are is)
turned_good n s start drive signs.Minus how check are is = (inr refl, short_motion s start drive signs.Minus how check are is)
turned_good n s start drive signs.Zero how check are is = tt

figure_good : (n : List ℕ) (r : Result Figure Case) → IfSome (names n r) HasGoodCut
figure_good n (Ok f) = tt
figure_good n (Err case) = tt

defined_good : (here : Situation) (name : List ℕ) (form : Form) → IfSome (defined here name form) HasGoodCut
unfolding defined
defined_good here name form = figure_good name (figure_of here.settings.units here.table form)

moves_good : (reach : Reach) (o : Option Position) → IfSome (moves reach o) HasGoodCut
moves_good reach None = tt
moves_good reach (Some to) = tt

goes_good : (here : Situation) (route : Route) → IfSome (goes here route) HasGoodCut
goes_good here (routes.From place) = moves_good reaches.From (place_at here place)
goes_good here (routes.Goto place) = moves_good reaches.Goto (place_at here place)
goes_good here (routes.By x y z) = moves_good reaches.Godlta (moved_from here x y z)
goes_good here (routes.Start how name other) = moves_good reaches.Start (start_position_at here how name other)

contour_good : (n : Legs) (here : Situation) (s : Settings) (go : Go) (how : Stop) (p : Option Position) (d c : Option Surface) → AreLengths s → IfSome d IsSurface
    → IfSome (cuts n (p >>= λ start. d >>= λ drive. c >>= λ check. if_turned s start drive (turn_at here start drive go) how check)) HasGoodCut
contour_good n here s go how None d c are is = tt
contour_good n here s go how (Some start) None c are is = tt
contour_good n here s go how (Some start) (Some drive) None are is = tt
contour_good n here s go how (Some start) (Some drive) (Some check) are is = turned_good n s start drive (turn_at here start drive go) how check are is

any_good : (here : Situation) (ask : Ask) → HasLengths here → IfSome (effect_by here ask) HasGoodCut
unfolding motion_at
any_good here (Titles text) has = tt
any_good here (Says saying) has = tt
any_good here (Sets side) has = tt
any_good here (Defines name form) has = defined_good here name form
any_good here (Goes route) has = goes_good here route
any_good here (Cuts contour n) has =
    if_counted (legs_by (whole n)) (λ legs. cuts legs (motion_at here contour)) HasGoodCut
    (λ legs. contour_good legs here (with_side here.settings contour.side) contour.go contour.stop here.position (surface_in here.table contour.drive) (surface_in here.table contour.check)
    (any_side here.settings contour.side has.settings) (named_surface here.table contour.drive has.table))
any_good here Nothing has = tt

pub good_cut : (here : Situation) (deed : Deed) (e : Effect) → HasLengths here → effect_of here deed ≡ Some e → HasGoodCut e
good_cut here deed e has asked = of_some HasGoodCut (effect_of here deed) e asked (any_good here (ask_of deed) has)

-- ---- FROM comes once, where no case refuses its step

abbrev pub IsFresh : Option Position → Effect → Type 0
IsFresh p (effects.Defines n f) = Unit {0}
IsFresh p (effects.Sets change) = Unit {0}
IsFresh p (effects.Moves reaches.From to) = p ≡ None
IsFresh p (effects.Moves reaches.Goto to) = Unit {0}
IsFresh p (effects.Moves reaches.Godlta to) = Unit {0}
IsFresh p (effects.Moves reaches.Start to) = Unit {0}
IsFresh p (effects.Cuts m n) = Unit {0}

none_there : (p : Option Position) (rows : List Row) → first_of ((is_some p, cases.FromAgain) ∷ rows) ≡ None → p ≡ None
none_there None rows e = refl
none_there (Some at) rows e = absurd (some_not cases.FromAgain e)
  where
    some_not : (case : Case) → Some case ≡ None → ⊥
    some_not case f = cc

figure_fresh : (p : Option Position) (n : List ℕ) (r : Result Figure Case) → IfSome (names n r) (IsFresh p)
figure_fresh p n (Ok f) = tt
figure_fresh p n (Err case) = tt

defined_fresh : (p : Option Position) (here : Situation) (name : List ℕ) (form : Form) → IfSome (defined here name form) (IsFresh p)
unfolding defined
defined_fresh p here name form = figure_fresh p name (figure_of here.settings.units here.table form)

from_fresh : (p o : Option Position) → p ≡ None → IfSome (moves reaches.From o) (IsFresh p)
from_fresh p None e = tt
from_fresh p (Some to) e = e

goto_fresh : (p o : Option Position) → IfSome (moves reaches.Goto o) (IsFresh p)
goto_fresh p None = tt
goto_fresh p (Some to) = tt

by_fresh : (p o : Option Position) → IfSome (moves reaches.Godlta o) (IsFresh p)
by_fresh p None = tt
by_fresh p (Some to) = tt

start_fresh : (p o : Option Position) → IfSome (moves reaches.Start o) (IsFresh p)
start_fresh p None = tt
start_fresh p (Some to) = tt

goes_fresh : (c here : Situation) (route : Route) → first_of (cases_by c (Goes route)) ≡ None → IfSome (goes here route) (IsFresh c.position)
goes_fresh c here (routes.From place) fine = from_fresh c.position (place_at here place) (none_there c.position (place_cases c place []) fine)
goes_fresh c here (routes.Goto place) fine = goto_fresh c.position (place_at here place)
goes_fresh c here (routes.By x y z) fine = by_fresh c.position (moved_from here x y z)
goes_fresh c here (routes.Start how name other) fine = start_fresh c.position (start_position_at here how name other)

cuts_fresh : (p : Option Position) (n : Legs) (o : Option Motion) → IfSome (cuts n o) (IsFresh p)
cuts_fresh p n None = tt
cuts_fresh p n (Some m) = tt

any_fresh : (c here : Situation) (ask : Ask) → first_of (cases_by c ask) ≡ None → IfSome (effect_by here ask) (IsFresh c.position)
any_fresh c here (Titles text) fine = tt
any_fresh c here (Says saying) fine = tt
any_fresh c here (Sets side) fine = tt
any_fresh c here (Defines name form) fine = defined_fresh c.position here name form
any_fresh c here (Goes route) fine = goes_fresh c here route fine
any_fresh c here (Cuts contour n) fine =
    if_counted (legs_by (whole n)) (λ legs. cuts legs (motion_at here contour)) (IsFresh c.position) (λ legs. cuts_fresh c.position legs (motion_at here contour))
any_fresh c here Nothing fine = tt

pub is_fresh : (c here : Situation) (deed : Deed) (e : Effect) → refusal_of c deed ≡ None → effect_of here deed ≡ Some e → IsFresh c.position e
is_fresh c here deed e fine asked = of_some (IsFresh c.position) (effect_of here deed) e asked (any_fresh c here (ask_of deed) fine)
