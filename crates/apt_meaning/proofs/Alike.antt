-- What a step asks for depends on its lengths in grid units alone.
use Rattle.std.specs.Prelude.{Option, Some, None, Result, Ok, Err, IfOk}
use Rattle.std.proofs.Common.{refl, ◌≡◌, sym, ap, ◌∙◌, ℕ, ℤ, pos, ◌+ℤ◌, List}
use Rattle.apt_words.specs.Options.{◌>>=◌}
use Rattle.apt_words.specs.Asks.{Ask, Titles, Says, Sets, Defines, Goes, Cuts, Nothing, ask_of}
use Rattle.apt_words.specs.declared.Go.{Go}
use Rattle.apt_words.specs.declared.Side.{Side}
use Rattle.apt_words.specs.declared.Stop.{Stop}
use Rattle.apt_words.specs.declared.Units.{Units}
use Rattle.apt_words.specs.declared.Units.TheVariants.{Inch}
use Rattle.apt_words.specs.declared.ask.Form.{Form}
use Rattle.apt_words.specs.declared.ask.Place.{Place}
use Rattle.apt_words.specs.declared.ask.Place.TheVariants as places
use Rattle.apt_words.specs.declared.ask.Route.{Route}
use Rattle.apt_words.specs.declared.ask.Route.TheVariants as routes
use Rattle.apt_words.specs.declared.ask.Saying.{Saying}
use Rattle.apt_words.specs.declared.ask.Saying.TheVariants as sayings
use Rattle.apt_words.specs.declared.deed.Deed.{Deed}
use Rattle.apt_words.specs.declared.contour.Contouring.{Contouring}
use Rattle.apt_scalar.specs.Scalars.{whole}
use Rattle.apt_plane.specs.declared.figures.Surface.{Surface}
use Rattle.apt_records.specs.declared.record.Note.{Note}
use Rattle.apt_records.specs.declared.record.Note.TheVariants as notes
use Rattle.apt_records.specs.declared.record.Position.{Position}
use Rattle.apt_records.specs.declared.record.Reach.TheVariants as reaches
use Rattle.apt_defs.specs.Alike.{in_grid}
use Rattle.apt_defs.proofs.Gridded.{alike}
use Rattle.apt_meaning.specs.declared.effect.Effect.{Effect}
use Rattle.apt_meaning.specs.declared.situation.Situation.{Situation}
use Rattle.apt_meaning.specs.Situations.{position_at, with_side}
use Rattle.apt_meaning.specs.Motions.{surface_in, turn_at, if_turned, motion_at}
use Rattle.apt_meaning.specs.StartUps.{start_up_at, start_position_at}
use Rattle.apt_meaning.specs.Effects.{note_of, says, moves, cuts_by, place_in, place_at, goes, names, defined, effect_by, effect_of}
use Rattle.apt_meaning.specs.Alike.{saying_in_grid, place_in_grid, route_in_grid, AskAlike, with_units}

-- ---- what is said, by grid units

note_by_grid : Saying → Note
note_by_grid (sayings.Diameter v) = notes.Cutter v
note_by_grid (sayings.Inward v) = notes.Intol v
note_by_grid (sayings.Outward v) = notes.Outtol v
note_by_grid saying = note_of Inch saying

note_gridded : (units : Units) (saying : Saying) → note_of units saying ≡ note_by_grid (saying_in_grid units saying)
unfolding note_by_grid
note_gridded units (sayings.Diameter v) = refl
note_gridded units (sayings.Inward v) = refl
note_gridded units (sayings.Outward v) = refl
note_gridded units saying = refl

-- ---- where a route leads, by grid units

height_of : Option ℤ → ℤ
height_of None = pos 0
height_of (Some z) = z

place_by_grid : Situation → Place → Option Position
place_by_grid here (places.Xyz x y z) = Some (position_at x y (height_of z))
place_by_grid here (places.Named p) = place_in here.table p

route_by_grid : Situation → Route → Option Effect
route_by_grid here (routes.From place) = moves reaches.From (place_by_grid here place)
route_by_grid here (routes.Goto place) = moves reaches.Goto (place_by_grid here place)
route_by_grid here (routes.By x y z) = moves reaches.Godlta (here.position >>= λ p. Some (position_at (p.xy.x +ℤ x) (p.xy.y +ℤ y) (p.z +ℤ z)))
route_by_grid here (routes.Start how name other) = moves reaches.Start (start_position_at here how name other)

place_gridded : (here : Situation) (place : Place) → place_at here place ≡ place_by_grid here (place_in_grid here.settings.units place)
unfolding place_by_grid height_of
place_gridded here (places.Xyz x y None) = refl
place_gridded here (places.Xyz x y (Some z)) = refl
place_gridded here (places.Named p) = refl

route_gridded : (here : Situation) (route : Route) → goes here route ≡ route_by_grid here (route_in_grid here.settings.units route)
unfolding route_by_grid
route_gridded here (routes.From place) = ap (moves reaches.From) (place_gridded here place)
route_gridded here (routes.Goto place) = ap (moves reaches.Goto) (place_gridded here place)
route_gridded here (routes.By x y z) = refl
route_gridded here (routes.Start how name other) = refl

-- ---- routes and contours ask nothing of the units

place_elsewhere : (here : Situation) (units : Units) (place : Place) → place_by_grid (with_units here units) place ≡ place_by_grid here place
unfolding place_by_grid
place_elsewhere here units (places.Xyz x y z) = refl
place_elsewhere here units (places.Named p) = refl

start_elsewhere : (here : Situation) (units : Units) (how : Stop) (name : List ℕ) (other : Option (Stop × List ℕ)) → start_up_at (with_units here units) how name other ≡ start_up_at here how name other
unfolding start_up_at
start_elsewhere here units how name other = refl

route_elsewhere : (here : Situation) (units : Units) (route : Route) → route_by_grid (with_units here units) route ≡ route_by_grid here route
unfolding route_by_grid
route_elsewhere here units (routes.From place) = ap (moves reaches.From) (place_elsewhere here units place)
route_elsewhere here units (routes.Goto place) = ap (moves reaches.Goto) (place_elsewhere here units place)
route_elsewhere here units (routes.By x y z) = refl
route_elsewhere here units (routes.Start how name other) = rw (start_elsewhere here units how name other) refl

turned_elsewhere : (here : Situation) (units : Units) (side : Option Side) (go : Go) (how : Stop) (p : Option Position) (d c : Option Surface)
    → (p >>= λ start. d >>= λ drive. c >>= λ check. if_turned (with_side (with_units here units).settings side) start drive (turn_at (with_units here units) start drive go) how check)
    ≡ (p >>= λ start. d >>= λ drive. c >>= λ check. if_turned (with_side here.settings side) start drive (turn_at here start drive go) how check)
turned_elsewhere here units None go how p d c = refl
turned_elsewhere here units (Some side) go how p d c = refl

motion_elsewhere : (here : Situation) (units : Units) (contour : Contouring) → motion_at (with_units here units) contour ≡ motion_at here contour
unfolding motion_at
motion_elsewhere here units contour =
    turned_elsewhere here units contour.side contour.go contour.stop here.position (surface_in here.table contour.drive) (surface_in here.table contour.check)

-- ---- what a step asks for

routes_alike : (here : Situation) (units : Units) (route other : Route) → route_in_grid here.settings.units route ≡ route_in_grid units other → goes here route ≡ goes (with_units here units) other
routes_alike here units route other same =
    route_gridded here route ∙ ap (route_by_grid here) same ∙ sym (route_elsewhere here units (route_in_grid units other)) ∙ sym (route_gridded (with_units here units) other)

forms_alike : (here : Situation) (units : Units) (name : List ℕ) (form other : Form) → in_grid here.settings.units form ≡ in_grid units other → defined here name form ≡ defined (with_units here units) name other
unfolding defined
forms_alike here units name form other same = ap (names name) (alike here.settings.units units here.table form other same)

asks_alike : (here : Situation) (units : Units) (ask other : Ask) → AskAlike here.settings.units ask units other → effect_by here ask ≡ effect_by (with_units here units) other
asks_alike here units (Titles text) (Titles other) same = ap (λ (t : List ℕ). says (notes.Partno t)) cc
asks_alike here units (Says saying) (Says other) same =
    let said : saying_in_grid here.settings.units saying ≡ saying_in_grid units other = cc in
    ap says (note_gridded here.settings.units saying ∙ ap note_by_grid said ∙ sym (note_gridded units other))
asks_alike here units (Sets side) (Sets other) same = cc
asks_alike here units (Defines name form) (Defines named other) same =
    let one : name ≡ named = cc in
    let grid : in_grid here.settings.units form ≡ in_grid units other = cc in
    forms_alike here units name form other grid ∙ ap (λ (n : List ℕ). defined (with_units here units) n other) one
asks_alike here units (Goes route) (Goes other) same =
    let one : route_in_grid here.settings.units route ≡ route_in_grid units other = cc in
    routes_alike here units route other one
asks_alike here units (Cuts contour n) (Cuts contour' n') same =
    let one : contour ≡ contour' = cc in
    let count : n ≡ n' = cc in
    ap (cuts_by (whole n)) (sym (motion_elsewhere here units contour)) ∙ rw (one, count) refl
asks_alike here units Nothing Nothing same = refl
asks_alike here units ask other same = absurd cc

pub effects_alike : (here : Situation) (units : Units) (deed same : Deed) → AskAlike here.settings.units (ask_of deed) units (ask_of same) → effect_of here deed ≡ effect_of (with_units here units) same
effects_alike here units deed same is = asks_alike here units (ask_of deed) (ask_of same) is

pub result_alike : {E : Type 0} (r : Result (Option Effect) E) (here : Situation) (deed : Deed) → IfOk r (λ e. e ≡ effect_of here deed)
    → (units : Units) (same : Deed) → AskAlike here.settings.units (ask_of deed) units (ask_of same) → IfOk r (λ e. e ≡ effect_of (with_units here units) same)
result_alike (Ok e) here deed is units same are = is ∙ effects_alike here units deed same are
result_alike (Err x) here deed is units same are = tt
