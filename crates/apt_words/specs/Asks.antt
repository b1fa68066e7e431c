-- What steps ask for, and the one table that says so of each statement.
use Rattle.std.specs.Prelude.{ℕ, ℤ, Bool, true, false, List, [], ◌∷◌, Option, Some, None}
use Rattle.apt_words.specs.declared.Command.{Command}
use Rattle.apt_words.specs.declared.Command.TheVariants as commands
use Rattle.apt_words.specs.declared.Side.{Side}
use Rattle.apt_words.specs.declared.Stop.{Stop}
use Rattle.apt_words.specs.declared.Turn.TheVariants as turns
use Rattle.apt_words.specs.declared.ask.Ask.TheVariants as shown
use Rattle.apt_words.specs.declared.ask.Ask.{Ask as Shown}
use Rattle.apt_words.specs.declared.ask.CircleForm.{CircleForm}
use Rattle.apt_words.specs.declared.ask.CircleForm.TheVariants as circles
use Rattle.apt_words.specs.declared.ask.Form.{Form}
use Rattle.apt_words.specs.declared.ask.Form.TheVariants as forms
use Rattle.apt_words.specs.declared.ask.LineForm.{LineForm}
use Rattle.apt_words.specs.declared.ask.LineForm.TheVariants as lines
use Rattle.apt_words.specs.declared.ask.Place.{Place}
use Rattle.apt_words.specs.declared.ask.Place.TheVariants as places
use Rattle.apt_words.specs.declared.ask.PointForm.{PointForm}
use Rattle.apt_words.specs.declared.ask.PointForm.TheVariants as points
use Rattle.apt_words.specs.declared.ask.Route.{Route}
use Rattle.apt_words.specs.declared.ask.Route.TheVariants as routes
use Rattle.apt_words.specs.declared.ask.Saying.{Saying}
use Rattle.apt_words.specs.declared.ask.Saying.TheVariants as sayings
use Rattle.apt_words.specs.declared.deed.Deed.{Deed}
use Rattle.apt_words.specs.declared.deed.Deed.TheVariants as deeds
use Rattle.apt_words.specs.declared.contour.Contouring.{Contouring}

-- a title is given, a note is said, the side of the cutter is set, a name is defined, the tool comes to a place, a contour is cut, or nothing
pub data Ask : Type 0 where
  Titles : List ℕ → Ask
  Says : Saying → Ask
  Sets : Side → Ask
  Defines : List ℕ → Form → Ask
  Goes : Route → Ask
  Cuts : Contouring → ℤ → Ask
  Nothing : Ask

-- an ask of the program, with the text of its title
abbrev pub seen : Shown → Ask
seen (shown.Titles text) = Titles text.now
seen (shown.Says saying) = Says saying
seen (shown.Sets side) = Sets side
seen (shown.Defines name form) = Defines name form
seen (shown.Goes route) = Goes route
seen (shown.Cuts contour n) = Cuts contour.now n
seen shown.Nothing = Nothing

-- ---- the table of statements

abbrev pub ask_of : Deed → Ask
ask_of (deeds.Partno text) = Titles text
ask_of (deeds.Remark text) = Nothing
ask_of (deeds.Units units) = Says (sayings.Units units)
ask_of deeds.Clprnt = Nothing
ask_of deeds.Nopost = Nothing
ask_of deeds.Machin = Nothing
ask_of (deeds.Assign n v) = Defines n (forms.Number v)
ask_of (deeds.PointXy n x y z) = Defines n (forms.Point (points.Xy x y z))
ask_of (deeds.PointLines n a b) = Defines n (forms.Point (points.Lines a b))
ask_of (deeds.PointPick n k a b) = Defines n (forms.Point (points.Picked k a b))
ask_of (deeds.PointCenter n c) = Defines n (forms.Point (points.Centre c))
ask_of (deeds.LineXy n x y u v) = Defines n (forms.Line (lines.Xy x y u v))
ask_of (deeds.LinePoints n p q) = Defines n (forms.Line (lines.Points p q))
ask_of (deeds.LinePar n p l) = Defines n (forms.Line (lines.Parallel p l))
ask_of (deeds.LinePerp n p l) = Defines n (forms.Line (lines.Square p l))
ask_of (deeds.LineAt n l k v) = Defines n (forms.Line (lines.Beside l k v))
ask_of (deeds.LineTan n p h c) = Defines n (forms.Line (lines.Past p h c))
ask_of (deeds.LineTwo n h c k d) = Defines n (forms.Line (lines.PastTwo h c k d))
ask_of (deeds.CircleXyr n x y r) = Defines n (forms.Circle (circles.Xyr x y r))
ask_of (deeds.CirclePoints n a b c) = Defines n (forms.Circle (circles.Points a b c))
ask_of (deeds.CircleRadius n p r) = Defines n (forms.Circle (circles.Radius p r))
ask_of (deeds.CircleTan n p l) = Defines n (forms.Circle (circles.Along p l))
ask_of (deeds.CircleThrough n p q) = Defines n (forms.Circle (circles.Through p q))
ask_of (deeds.CircleCorner n j a k b r) = Defines n (forms.Circle (circles.Corner j a k b r))
ask_of (deeds.Cutter v) = Says (sayings.Diameter v)
ask_of (deeds.Intol v) = Says (sayings.Inward v)
ask_of (deeds.Outtol v) = Says (sayings.Outward v)
ask_of (deeds.Tool side) = Sets side
ask_of (deeds.FromXy x y z) = Goes (routes.From (places.Xyz x y z))
ask_of (deeds.FromPoint p) = Goes (routes.From (places.Named p))
ask_of (deeds.GotoXy x y z) = Goes (routes.Goto (places.Xyz x y z))
ask_of (deeds.GotoPoint p) = Goes (routes.Goto (places.Named p))
ask_of (deeds.Godlta x y z) = Goes (routes.By x y z)
ask_of (deeds.GoStart how s other) = Goes (routes.Start how s other)
ask_of (deeds.Contour contour n) = Cuts contour n
ask_of deeds.Rapid = Says sayings.Rapid
ask_of deeds.EndWord = Says sayings.End
ask_of deeds.Fini = Says sayings.Fini
ask_of (deeds.Fedrat v) = Says (sayings.Feed v)
ask_of (deeds.Do command) = Says (sayings.Do command)
ask_of (deeds.Patern n p q v) = Nothing
ask_of (deeds.CycleDrill d c) = Nothing
ask_of deeds.CycleOff = Nothing
ask_of (deeds.GotoPatern n) = Nothing
ask_of deeds.Macro = Nothing
ask_of deeds.Termac = Nothing
ask_of deeds.Call = Nothing
ask_of deeds.Loopst = Nothing
ask_of deeds.Loopnd = Nothing
ask_of deeds.Jumpto = Nothing
ask_of deeds.If = Nothing

-- ---- what one asks of it

-- what is said, where something is
abbrev pub said_by : Ask → Option Saying
said_by (Says saying) = Some saying
said_by _ = None

-- the name that is defined, and by what, where one is
abbrev pub defined_by : Ask → Option (List ℕ × Form)
defined_by (Defines name form) = Some (name, form)
defined_by _ = None

-- something is said, a name is defined, or nothing
abbrev pub IsPlain : Ask → Type 0
IsPlain (Says saying) = Unit {0}
IsPlain (Defines name form) = Unit {0}
IsPlain Nothing = Unit {0}
IsPlain _ = ⊥

-- ---- the numbers of an ask, in millionths, in their order

abbrev pub listed : {A : Type 0} → Option A → List A
listed None = []
listed (Some x) = x ∷ []

abbrev pub point_numbers : PointForm → List ℤ
point_numbers (points.Xy x y z) = x ∷ y ∷ listed z
point_numbers (points.Lines a b) = []
point_numbers (points.Picked k a b) = []
point_numbers (points.Centre c) = []

abbrev pub line_numbers : LineForm → List ℤ
line_numbers (lines.Xy x y u v) = x ∷ y ∷ u ∷ v ∷ []
line_numbers (lines.Beside l k v) = v ∷ []
line_numbers _ = []

abbrev pub circle_numbers : CircleForm → List ℤ
circle_numbers (circles.Xyr x y r) = x ∷ y ∷ r ∷ []
circle_numbers (circles.Points a b c) = []
circle_numbers (circles.Radius p r) = r ∷ []
circle_numbers (circles.Along p l) = []
circle_numbers (circles.Through p q) = []
circle_numbers (circles.Corner j a k b r) = r ∷ []

abbrev pub form_numbers : Form → List ℤ
form_numbers (forms.Number v) = v ∷ []
form_numbers (forms.Point form) = point_numbers form
form_numbers (forms.Line form) = line_numbers form
form_numbers (forms.Circle form) = circle_numbers form

abbrev pub command_numbers : Command → List ℤ
command_numbers (commands.Spindle turns.Cw n) = n ∷ []
command_numbers (commands.Spindle turns.Ccw n) = n ∷ []
command_numbers (commands.Tool n) = n ∷ []
command_numbers _ = []

abbrev pub saying_numbers : Saying → List ℤ
saying_numbers (sayings.Diameter v) = v ∷ []
saying_numbers (sayings.Inward v) = v ∷ []
saying_numbers (sayings.Outward v) = v ∷ []
saying_numbers (sayings.Feed v) = v ∷ []
saying_numbers (sayings.Do command) = command_numbers command
saying_numbers _ = []

abbrev pub place_numbers : Place → List ℤ
place_numbers (places.Xyz x y z) = x ∷ y ∷ listed z
place_numbers (places.Named p) = []

abbrev pub route_numbers : Route → List ℤ
route_numbers (routes.From place) = place_numbers place
route_numbers (routes.Goto place) = place_numbers place
route_numbers (routes.By x y z) = x ∷ y ∷ z ∷ []
route_numbers (routes.Start how s other) = []

abbrev pub numbers_of : Ask → List ℤ
numbers_of (Titles text) = []
numbers_of (Says saying) = saying_numbers saying
numbers_of (Sets side) = []
numbers_of (Defines n form) = form_numbers form
numbers_of (Goes route) = route_numbers route
numbers_of (Cuts contour n) = n ∷ []
numbers_of Nothing = []

-- ---- the end of a program

abbrev pub is_end : Saying → Bool
is_end sayings.End = true
is_end _ = false

abbrev pub asks_end : Ask → Bool
asks_end (Says saying) = is_end saying
asks_end _ = false
