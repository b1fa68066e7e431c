-- Steps in inches and in millimetres that ask for the same.
use Rattle.std.specs.Prelude.{◌≡◌, option_map}
use Rattle.apt_words.specs.Asks.{Ask, Titles, Says, Sets, Defines, Goes, Cuts, Nothing}
use Rattle.apt_words.specs.declared.Units.{Units}
use Rattle.apt_words.specs.declared.ask.Place.{Place}
use Rattle.apt_words.specs.declared.ask.Place.TheVariants as places
use Rattle.apt_words.specs.declared.ask.Route.{Route}
use Rattle.apt_words.specs.declared.ask.Route.TheVariants as routes
use Rattle.apt_words.specs.declared.ask.Saying.{Saying}
use Rattle.apt_words.specs.declared.ask.Saying.TheVariants as sayings
use Rattle.apt_scalar.specs.Scalars.{grid_units}
use Rattle.apt_defs.specs.Alike.{in_grid}
use Rattle.apt_meaning.specs.declared.situation.Situation.{Situation}

-- a diameter and tolerances in grid units
abbrev pub saying_in_grid : Units → Saying → Saying
saying_in_grid units (sayings.Diameter v) = sayings.Diameter (grid_units units v)
saying_in_grid units (sayings.Inward v) = sayings.Inward (grid_units units v)
saying_in_grid units (sayings.Outward v) = sayings.Outward (grid_units units v)
saying_in_grid units saying = saying

-- a place in grid units, with its height where it has one
abbrev pub place_in_grid : Units → Place → Place
place_in_grid units (places.Xyz x y z) = places.Xyz (grid_units units x) (grid_units units y) (option_map (λ v. grid_units units v) z)
place_in_grid units (places.Named p) = places.Named p

abbrev pub route_in_grid : Units → Route → Route
route_in_grid units (routes.From place) = routes.From (place_in_grid units place)
route_in_grid units (routes.Goto place) = routes.Goto (place_in_grid units place)
route_in_grid units (routes.By x y z) = routes.By (grid_units units x) (grid_units units y) (grid_units units z)
route_in_grid units (routes.Start how name other) = routes.Start how name other

-- what a step asks for, with its lengths in grid units
abbrev pub ask_in_grid : Units → Ask → Ask
ask_in_grid units (Titles text) = Titles text
ask_in_grid units (Says saying) = Says (saying_in_grid units saying)
ask_in_grid units (Sets side) = Sets side
ask_in_grid units (Defines name form) = Defines name (in_grid units form)
ask_in_grid units (Goes route) = Goes (route_in_grid units route)
ask_in_grid units (Cuts contour n) = Cuts contour n
ask_in_grid units Nothing = Nothing

-- two asks, each in its units, are the same in grid units
abbrev pub AskAlike : Units → Ask → Units → Ask → Type 0
AskAlike u ask v other = ask_in_grid u ask ≡ ask_in_grid v other

-- a situation with other units
abbrev pub with_units : Situation → Units → Situation
with_units here units = record here { settings = record here.settings { units = units } }
