-- The first case that refuses a note, a move or a contour: by its effect where it has one, and where it has none.
use Rattle.std.proofs.Common.{◌≡◌, ◌∙◌, ℕ, ℤ, ◌≤◌, unsigned_abs, Bool, true, false, not, List, [], ◌∷◌, ◌++◌, Option, Some, None, is_none, is_some, IfSome, Result, Ok, Err, refl, sym, ap, subst, cond, append-nil}
use Rattle.std.specs.Prelude.{if◌then◌else◌, unwrap_or}
use Rattle.std.proofs.lemmas.Option.{same_Some}
use Rattle.std.specs.Option.{option_or}
use Rattle.std.specs.Result.{result_err}
use Rattle.std.proofs.lemmas.Bool.{le-leb}
use Rattle.apt_words.specs.declared.Case.{Case}
use Rattle.apt_words.specs.declared.Case.TheVariants as cases
use Rattle.apt_words.specs.declared.Side.{Side}
use Rattle.apt_words.specs.declared.Stop.{Stop}
use Rattle.apt_words.specs.declared.Units.{Units}
use Rattle.apt_words.specs.declared.ask.Saying.{Saying}
use Rattle.apt_words.specs.declared.ask.Place.TheVariants as places
use Rattle.apt_words.specs.declared.ask.Route.{Route}
use Rattle.apt_words.specs.declared.ask.Route.TheVariants as routes
use Rattle.apt_words.specs.Asks.{Says, Goes, saying_numbers}
use Rattle.apt_words.specs.Options.{◌>>=◌}
use Rattle.apt_words.specs.Rows.{Row, first_of, unless, unless_case}
use Rattle.apt_scalar.specs.Scalars.{whole}
use Rattle.apt_scalar.specs.StepScalars.{AllScalars}
use Rattle.apt_plane.specs.declared.figures.Pt.{Pt}
use Rattle.apt_offset.specs.Turns.{is_zero}
use Rattle.apt_stop.specs.declared.legs.Legs.{Legs}
use Rattle.apt_startup.specs.declared.Goal.{Goal}
use Rattle.apt_startup.specs.declared.StartUp.{StartUp}
use Rattle.apt_startup.specs.StartUps.{start_up_cases, start_point}
use Rattle.apt_records.specs.declared.record.Note.{Note}
use Rattle.apt_records.specs.declared.record.Position.{Position}
use Rattle.apt_records.specs.declared.record.Reach.{Reach}
use Rattle.apt_records.specs.declared.record.Reach.TheVariants as reaches
use Rattle.apt_records.specs.Ranges.{IsPosition, IsNote}
use Rattle.apt_records.specs.Vertices.{at_height}
use Rattle.apt_defs.specs.declared.figure.Figure.{Figure}
use Rattle.apt_defs.specs.declared.figure.Figure.TheVariants as figures
use Rattle.apt_defs.specs.Figures.{Table, IsFigure, figure_named}
use Rattle.apt_defs.specs.Forms.{is_in_reach}
use Rattle.apt_defs.proofs.Tables.{looked_up}
use Rattle.apt_meaning.specs.declared.effect.Change.TheVariants as changes
use Rattle.apt_meaning.specs.declared.effect.Effect.{Effect}
use Rattle.apt_meaning.specs.declared.effect.Effect.TheVariants as effects
use Rattle.apt_meaning.specs.declared.motion.Motion.{Motion}
use Rattle.apt_meaning.specs.declared.situation.Settings.{Settings}
use Rattle.apt_meaning.specs.declared.situation.Situation.{Situation}
use Rattle.apt_meaning.specs.Effects.{moves, cuts, cuts_by, legs_by, as_position, place_at, moved_by, moved_from, note_of, goes}
use Rattle.apt_meaning.specs.Motions.{as_surface, turn_at, if_turned, motion, motion_at}
use Rattle.apt_meaning.specs.Ranges.{IsSituation, IsEffect}
use Rattle.apt_meaning.specs.Compiled.{asked_by}
use Rattle.apt_meaning.specs.Refusals.{position_cases, is_other_kind, is_no_place, place_cases, move_cases, moved_cases, note_cases, start_cases, go_cases, cut_cases, feed_cases, counted_cases, surface_cases, is_too_fine, contour_cases, route_cases, each_name, start_names, is_undefined}
use Rattle.apt_meaning.specs.Situations.{has_feed, lacks_feed, with_side}
use Rattle.apt_meaning.specs.StartUps.{start_up_at, start_position, start_position_at}
use Rattle.apt_words.proofs.Rows.{first_none}
use Rattle.apt_words.specs.declared.contour.Contouring.{Contouring}
use Rattle.apt_meaning.proofs.Asked.{goal_at, start_up_on, route_asks, saying_in}
use Rattle.apt_meaning.proofs.Said.{of_some}

-- ---- moves that lead somewhere

-- the rows of an effect
abbrev own_cases : Situation → Effect → List Row
own_cases here (effects.Defines n f) = []
own_cases here (effects.Sets change) = []
own_cases here (effects.Moves reach to) = moved_cases here reach to
own_cases here (effects.Cuts m k) = feed_cases here.settings (cut_cases m k)

-- rows refuse an effect as its own rows do
abbrev RefuseAs : Situation → List Row → Effect → Type 0
RefuseAs here rows e = first_of rows ≡ first_of (own_cases here e)

-- a position in its range is not refused
in_reach : (v : ℤ) → unsigned_abs v ≤ 50000000 → is_in_reach v ≡ true
in_reach v h = le-leb (unsigned_abs v) 50000000 h

position_passes : (p : Position) (more : List Row) → IsPosition p → first_of (position_cases p more) ≡ first_of more
position_passes p more is = rw (in_reach p.xy.x is.xy.x, in_reach p.xy.y is.xy.y, in_reach p.z is.z) refl

-- FROM and GOTO a named point, whose figure is in its range
abbrev from_rows : Situation → Option Figure → List Row
from_rows here o = (is_some here.position, cases.FromAgain) ∷ (is_none o, cases.Undefined) ∷ (is_no_place o, cases.WrongKind) ∷ []

abbrev goto_rows : Situation → Option Figure → List Row
goto_rows here o = (is_none o, cases.Undefined) ∷ (is_no_place o, cases.WrongKind) ∷ (lacks_feed here.settings, cases.NoFeed) ∷ []

from_told : (here : Situation) (o : Option Figure) → IfSome o IsFigure → IfSome (moves reaches.From (o >>= as_position)) (RefuseAs here (from_rows here o))
from_told here None is = tt
from_told here (Some (figures.Point xy z)) is = ap (cond (is_some here.position) (Some cases.FromAgain)) (sym (position_passes (at_height z xy) [] (record { xy = is.xy; z = is.z })))
from_told here (Some (figures.Shape s)) is = tt
from_told here (Some figures.Scalar) is = tt

goto_told : (here : Situation) (o : Option Figure) → IfSome o IsFigure → IfSome (moves reaches.Goto (o >>= as_position)) (RefuseAs here (goto_rows here o))
goto_told here None is = tt
goto_told here (Some (figures.Point xy z)) is = sym (position_passes (at_height z xy) ((lacks_feed here.settings, cases.NoFeed) ∷ []) (record { xy = is.xy; z = is.z }))
goto_told here (Some (figures.Shape s)) is = tt
goto_told here (Some figures.Scalar) is = tt

by_told : (here : Situation) (p : Option Position) (f : Position → Position)
    → IfSome (moves reaches.Godlta (p >>= λ q. Some (f q))) (RefuseAs here ((is_none p, cases.NoFrom) ∷ move_cases here.settings (p >>= λ q. Some (f q))))
by_told here None f = tt
by_told here (Some q) f = refl

-- ---- GO, with an effect or without

abbrev go_case : Option Position → Case → Option StartUp → Bool → Option Case
go_case None lack u unfed = Some cases.NoFrom
go_case (Some p) lack None unfed = Some lack
go_case (Some p) lack (Some u) unfed = cond unfed (Some cases.NoFeed) (first_of (start_up_cases u))

abbrev goal_of : Stop → Option Figure → Option Goal
goal_of how o = (o >>= as_surface) >>= λ s. Some (goal_at how s)

abbrev lack_of : Option Figure → Case
lack_of o = if is_none o then cases.Undefined else cases.WrongKind

-- of the names of GO each is there before the kind of one is tried
abbrev goal_lack : Table → List ℕ → Option (Stop × List ℕ) → Case
goal_lack table name other = unwrap_or (first_of (each_name (is_undefined table) cases.Undefined (start_names name other))) cases.WrongKind

abbrev unfed : Situation → Bool
unfed here = lacks_feed here.settings

one_by : (here : Situation) (how : Stop) (p : Option Position) (a : Option Figure)
    → first_of ((is_none p, cases.NoFrom) ∷ (is_none a, cases.Undefined) ∷ (is_other_kind a, cases.WrongKind) ∷ (unfed here, cases.NoFeed) ∷ start_cases (start_up_on here p (goal_of how a) (Some None)))
    ≡ go_case p (unwrap_or (first_of ((is_none a, cases.Undefined) ∷ [])) cases.WrongKind) (start_up_on here p (goal_of how a) (Some None)) (unfed here)
one_by here how None a = refl
one_by here how (Some p) None = refl
one_by here how (Some p) (Some (figures.Point xy z)) = refl
one_by here how (Some p) (Some (figures.Shape s)) = refl
one_by here how (Some p) (Some figures.Scalar) = refl

abbrev two_on : Situation → Stop → Stop → Option Position → Option Figure → Option Figure → Option StartUp
two_on here how stop p a b = start_up_on here p (goal_of how a) (goal_of stop b >>= λ g. Some (Some g))

two_by : (here : Situation) (how stop : Stop) (p : Option Position) (a b : Option Figure)
    → first_of ((is_none p, cases.NoFrom) ∷ (is_none a, cases.Undefined) ∷ (is_none b, cases.Undefined) ∷ (is_other_kind a, cases.WrongKind) ∷ (is_other_kind b, cases.WrongKind)
    ∷ (unfed here, cases.NoFeed) ∷ start_cases (two_on here how stop p a b))
    ≡ go_case p (unwrap_or (first_of ((is_none a, cases.Undefined) ∷ (is_none b, cases.Undefined) ∷ [])) cases.WrongKind) (two_on here how stop p a b) (unfed here)
two_by here how stop None a b = refl
two_by here how stop (Some p) None None = refl
two_by here how stop (Some p) None (Some g) = refl
two_by here how stop (Some p) (Some (figures.Point xy z)) None = refl
two_by here how stop (Some p) (Some (figures.Point xy z)) (Some g) = refl
two_by here how stop (Some p) (Some figures.Scalar) None = refl
two_by here how stop (Some p) (Some figures.Scalar) (Some g) = refl
two_by here how stop (Some p) (Some (figures.Shape s)) None = refl
two_by here how stop (Some p) (Some (figures.Shape s)) (Some (figures.Point xy z)) = refl
two_by here how stop (Some p) (Some (figures.Shape s)) (Some (figures.Shape t)) = refl
two_by here how stop (Some p) (Some (figures.Shape s)) (Some figures.Scalar) = refl

pub go_by : (here : Situation) (how : Stop) (name : List ℕ) (other : Option (Stop × List ℕ))
    → first_of (go_cases here how name other) ≡ go_case here.position (goal_lack here.table name other) (start_up_at here how name other) (unfed here)
unfolding start_up_at
go_by here how name None = one_by here how here.position (figure_named here.table name)
go_by here how name (Some other) = two_by here how other.0 here.position (figure_named here.table name) (figure_named here.table other.1)

err_of : (f : Option Case) (p : Pt) → result_err (unless_case f p) ≡ f
err_of None p = refl
err_of (Some case) p = refl

pub start_case : (u : StartUp) (r : Result Pt Case) → r ≡ unless (start_up_cases u) (start_point u) → result_err r ≡ first_of (start_up_cases u)
start_case u r is = ap result_err is ∙ err_of (first_of (start_up_cases u)) (start_point u)

ended_told : (here : Situation) (f : Option Case) (to : Position)
    → IfSome (moves reaches.Start (cond (is_none f) (Some to) None)) (λ e. cond (unfed here) (Some cases.NoFeed) f ≡ first_of (own_cases here e))
ended_told here None to = refl
ended_told here (Some case) to = tt

start_told : (here : Situation) (p : Option Position) (lack : Case) (o : Option StartUp)
    → IfSome (moves reaches.Start (p >>= λ from. o >>= λ u. start_position from u)) (λ e. go_case p lack o (unfed here) ≡ first_of (own_cases here e))
start_told here None lack o = tt
start_told here (Some from) lack None = tt
start_told here (Some from) lack (Some u) = ended_told here (first_of (start_up_cases u)) (at_height from.z (start_point u))

go_told : (here : Situation) (how : Stop) (name : List ℕ) (other : Option (Stop × List ℕ))
    → IfSome (moves reaches.Start (start_position_at here how name other)) (RefuseAs here (go_cases here how name other))
go_told here how name other =
    subst (λ (f : Option Case). IfSome (moves reaches.Start (start_position_at here how name other)) (λ e. f ≡ first_of (own_cases here e))) (sym (go_by here how name other))
    (start_told here here.position (goal_lack here.table name other) (start_up_at here how name other))

-- ---- contours, with an effect or without

abbrev rows_on : Situation → Contouring → Option Legs → Option Position → Option Figure → Option Figure → List Row
rows_on here contour k p a b =
    (is_none p, cases.NoFrom) ∷ (is_none a, cases.Undefined) ∷ (is_other_kind a, cases.WrongKind) ∷ (is_none b, cases.Undefined) ∷ (is_other_kind b, cases.WrongKind)
    ∷ counted_cases k (λ legs. surface_cases here contour legs p (a >>= as_surface) (b >>= as_surface))

abbrev cuts_on : Situation → Contouring → Option Legs → Option Position → Option Figure → Option Figure → Option Effect
cuts_on here contour k p a b =
    k >>= λ legs. cuts legs (p >>= λ start. (a >>= as_surface) >>= λ drive. (b >>= as_surface) >>= λ check. if_turned (with_side here.settings contour.side) start drive (turn_at here start drive contour.go) contour.stop check)

turned_told : (here : Situation) (side : Option Side) (k : Legs) (zero : Bool) (m : Motion)
    → IfSome (cuts k (cond zero None (Some m))) (RefuseAs here (feed_cases (with_side here.settings side) ((zero, cases.NoTurn) ∷ cut_cases m k)))
turned_told here side k true m = tt
turned_told here None k false m = refl
turned_told here (Some side) k false m = refl

contour_told : (here : Situation) (contour : Contouring) (k : Option Legs) (p : Option Position) (a b : Option Figure)
    → IfSome (cuts_on here contour k p a b) (RefuseAs here (rows_on here contour k p a b))
contour_told here contour None p a b = tt
contour_told here contour (Some k) None a b = tt
contour_told here contour (Some k) (Some p) None b = tt
contour_told here contour (Some k) (Some p) (Some (figures.Point xy z)) b = tt
contour_told here contour (Some k) (Some p) (Some figures.Scalar) b = tt
contour_told here contour (Some k) (Some p) (Some (figures.Shape s)) None = tt
contour_told here contour (Some k) (Some p) (Some (figures.Shape s)) (Some (figures.Point xy z)) = tt
contour_told here contour (Some k) (Some p) (Some (figures.Shape s)) (Some figures.Scalar) = tt
contour_told here contour (Some k) (Some p) (Some (figures.Shape s)) (Some (figures.Shape t)) =
    turned_told here contour.side k (is_zero (turn_at here p s contour.go)) (motion (with_side here.settings contour.side) p s (turn_at here p s contour.go) contour.stop t)

abbrev contour_lack : Settings → Option Legs → Option Position → Option Figure → Option Figure → Case
contour_lack s k p a b =
    if not (is_some p) then cases.NoFrom
    else if not (is_some (a >>= as_surface)) then lack_of a
    else if not (is_some (b >>= as_surface)) then lack_of b
    else if not (is_some k) then cases.BadCount
    else unwrap_or (first_of (feed_cases s [])) cases.NoTurn

first_or : (a b c : Bool) (case : Case) (more : List Row) → first_of ((a, cases.RapidContour) ∷ (b, cases.NoFeed) ∷ (c, cases.TooFine) ∷ (true, case) ∷ more)
    ≡ Some (unwrap_or (first_of ((a, cases.RapidContour) ∷ (b, cases.NoFeed) ∷ (c, cases.TooFine) ∷ [])) case)
first_or true b c case more = refl
first_or false true c case more = refl
first_or false false true case more = refl
first_or false false false case more = refl

fed_or : (s : Settings) (more : List Row) → first_of (feed_cases s ((true, cases.NoTurn) ∷ more)) ≡ Some (unwrap_or (first_of (feed_cases s [])) cases.NoTurn)
fed_or s more = first_or s.rapid (not (has_feed s)) (is_too_fine s) cases.NoTurn more

no_motion : (k : Legs) (m : Motion) → cuts k (Some m) ≡ None → ⊥
no_motion k m e = absurd cc

turned_lacks : (here : Situation) (side : Option Side) (k : Legs) (zero : Bool) (m : Motion) → cuts k (cond zero None (Some m)) ≡ None
    → first_of (feed_cases (with_side here.settings side) ((zero, cases.NoTurn) ∷ cut_cases m k)) ≡ Some (unwrap_or (first_of (feed_cases here.settings [])) cases.NoTurn)
turned_lacks here side k false m none = absurd (no_motion k m none)
turned_lacks here None k true m none = fed_or here.settings (cut_cases m k)
turned_lacks here (Some side) k true m none = fed_or here.settings (cut_cases m k)

lacks_on : (here : Situation) (contour : Contouring) (k : Option Legs) (p : Option Position) (a b : Option Figure) → cuts_on here contour k p a b ≡ None
    → first_of (rows_on here contour k p a b) ≡ Some (contour_lack here.settings k p a b)
lacks_on here contour k None a b none = refl
lacks_on here contour k (Some p) None b none = refl
lacks_on here contour k (Some p) (Some (figures.Point xy z)) b none = refl
lacks_on here contour k (Some p) (Some figures.Scalar) b none = refl
lacks_on here contour k (Some p) (Some (figures.Shape s)) None none = refl
lacks_on here contour k (Some p) (Some (figures.Shape s)) (Some (figures.Point xy z)) none = refl
lacks_on here contour k (Some p) (Some (figures.Shape s)) (Some figures.Scalar) none = refl
lacks_on here contour None (Some p) (Some (figures.Shape s)) (Some (figures.Shape t)) none = refl
lacks_on here contour (Some k) (Some p) (Some (figures.Shape s)) (Some (figures.Shape t)) none =
    turned_lacks here contour.side k (is_zero (turn_at here p s contour.go)) (motion (with_side here.settings contour.side) p s (turn_at here p s contour.go) contour.stop t) none

pub contour_lacks : (here : Situation) (contour : Contouring) (n : ℤ) → cuts_by (whole n) (motion_at here contour) ≡ None
    → first_of (contour_cases here contour n) ≡ Some (contour_lack here.settings (legs_by (whole n)) here.position (figure_named here.table contour.drive) (figure_named here.table contour.check))
unfolding motion_at
contour_lacks here contour n none = lacks_on here contour (legs_by (whole n)) here.position (figure_named here.table contour.drive) (figure_named here.table contour.check) none

-- ---- what is asked for, or the first case that refuses it

or_none : (f : Option Case) → option_or f None ≡ f
or_none None = refl
or_none (Some case) = refl

goes_told : (here : Situation) (route : Route) → IsSituation here → IfSome (goes here route) (RefuseAs here (route_cases here route))
goes_told here (routes.From (places.Xyz x y z)) is = refl
goes_told here (routes.From (places.Named p)) is = from_told here (figure_named here.table p) (looked_up here.table p is.table)
goes_told here (routes.Goto (places.Xyz x y z)) is = refl
goes_told here (routes.Goto (places.Named p)) is = goto_told here (figure_named here.table p) (looked_up here.table p is.table)
goes_told here (routes.By x y z) is = by_told here here.position (moved_by here.settings.units x y z)
goes_told here (routes.Start how name other) is = go_told here how name other

-- a move that leads somewhere is refused by what refuses a move there
pub move_refused : (here : Situation) (route : Route) (reach : Reach) (to : Position) → IsSituation here → goes here route ≡ Some (effects.Moves reach to)
    → first_of (route_cases here route) ≡ first_of (moved_cases here reach to)
move_refused here route reach to is asks = of_some (RefuseAs here (route_cases here route)) (goes here route) (effects.Moves reach to) asks (goes_told here route is)

same_move : (reach : Reach) (to : Position) (e : Effect) → Some (effects.Moves reach to) ≡ Some e → IsEffect e → IsPosition to
same_move reach to e same good = subst IsEffect (sym (same_Some (effects.Moves reach to) e same)) good

leads_in : (here : Situation) (route : Route) (reach : Reach) (to : Position) → IsSituation here → goes here route ≡ Some (effects.Moves reach to) → first_of (route_cases here route) ≡ None → IsPosition to
leads_in here route reach to is asks none =
    let a = route_asks here route is (first_none (route_cases here route) none) in
    same_move reach to a.e (sym asks ∙ a.asked) a.fit.good

pub move_asked : (here : Situation) (route : Route) (reach : Reach) (to : Position) → IsSituation here → goes here route ≡ Some (effects.Moves reach to) → None ≡ first_of (moved_cases here reach to)
    → (asked_by here (Goes route) ≡ Ok (effects.Moves reach to)) × IsPosition to
move_asked here route reach to is asks free =
    let none = move_refused here route reach to is asks ∙ sym free in
    (rw (none, asks) refl, leads_in here route reach to is asks none)

-- a move that no case refuses leads somewhere
pub leads : (here : Situation) (route : Route) → IsSituation here → goes here route ≡ None → first_of (route_cases here route) ≡ None → ⊥
leads here route is none free =
    let a = route_asks here route is (first_none (route_cases here route) free) in
    no_effect a.e (sym none ∙ a.asked)
  where
    no_effect : (e : Effect) → ◌≡◌ {A = Option Effect} None (Some e) → ⊥
    no_effect e h = absurd cc

-- a note that no case refuses is in its range
pub note_in : (units : Units) (saying : Saying) → AllScalars (saying_numbers saying) → None ≡ first_of (note_cases (note_of units saying)) → IsNote (note_of units saying)
note_in units saying numbers free = saying_in units saying numbers (first_none (note_cases (note_of units saying)) (sym free))

-- the first case that refuses a contour with a motion: it needs a feed, or its ends are refused
fed_first : (s : Settings) (more : List Row) → first_of (feed_cases s more) ≡ option_or (first_of (feed_cases s [])) (first_of more)
fed_first s more = by_three s.rapid (not (has_feed s)) (is_too_fine s) more
  where
    by_three : (a b c : Bool) (more : List Row) → first_of ((a, cases.RapidContour) ∷ (b, cases.NoFeed) ∷ (c, cases.TooFine) ∷ more)
        ≡ option_or (first_of ((a, cases.RapidContour) ∷ (b, cases.NoFeed) ∷ (c, cases.TooFine) ∷ [])) (first_of more)
    by_three true b c more = refl
    by_three false true c more = refl
    by_three false false true more = refl
    by_three false false false more = refl

pub contour_refused : (here : Situation) (contour : Contouring) (n : ℤ) (m : Motion) (k : Legs)
    → cuts_by (whole n) (motion_at here contour) ≡ Some (effects.Cuts m k)
    → first_of (contour_cases here contour n) ≡ option_or (first_of (feed_cases here.settings [])) (first_of (cut_cases m k))
unfolding motion_at
contour_refused here contour n m k asks =
    of_some (RefuseAs here (contour_cases here contour n)) (cuts_by (whole n) (motion_at here contour)) (effects.Cuts m k) asks
    (contour_told here contour (legs_by (whole n)) here.position (figure_named here.table contour.drive) (figure_named here.table contour.check))
    ∙ fed_first here.settings (cut_cases m k)

-- ---- a move that leads nowhere

point_lacks : (o : Option Figure) (more : List Row) → o >>= as_position ≡ None → first_of ((is_none o, cases.Undefined) ∷ (is_no_place o, cases.WrongKind) ∷ more) ≡ Some (lack_of o)
point_lacks None more none = refl
point_lacks (Some (figures.Point xy z)) more none = absurd cc
point_lacks (Some (figures.Shape s)) more none = refl
point_lacks (Some figures.Scalar) more none = refl

nowhere : (reach : Reach) (o : Option Position) → moves reach o ≡ None → o ≡ None
nowhere reach None none = refl
nowhere reach (Some to) none = absurd cc

pub name_lacks : (here : Situation) (reach : Reach) (name : List ℕ) (more : List Row) → moves reach (place_at here (places.Named name)) ≡ None
    → first_of (place_cases here (places.Named name) more) ≡ Some (lack_of (figure_named here.table name))
name_lacks here reach name more none = point_lacks (figure_named here.table name) more (nowhere reach (place_at here (places.Named name)) none)

pub no_coordinates : (here : Situation) (reach : Reach) (x y : ℤ) (z : Option ℤ) → moves reach (place_at here (places.Xyz x y z)) ≡ None → ⊥
no_coordinates here reach x y z none = absurd cc

no_start : (p : Option Position) (f : Position → Position) (more : List Row) → moves reaches.Godlta (p >>= λ q. Some (f q)) ≡ None → first_of ((is_none p, cases.NoFrom) ∷ more) ≡ Some cases.NoFrom
no_start None f more none = refl
no_start (Some q) f more none = absurd cc

pub by_lacks : (here : Situation) (x y z : ℤ) → goes here (routes.By x y z) ≡ None → first_of (route_cases here (routes.By x y z)) ≡ Some cases.NoFrom
by_lacks here x y z none = no_start here.position (moved_by here.settings.units x y z) (move_cases here.settings (moved_from here x y z)) none
