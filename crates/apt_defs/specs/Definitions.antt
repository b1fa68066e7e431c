-- What each form of a definition gives its name, and the table behind a step.
use Rattle.std.specs.Prelude.{◌≡◌, ◌≢◌, ℕ, Bool, true, false, List, Some, Result, Ok, Err}
use Rattle.apt_words.specs.Asks.{Defines, ask_of}
use Rattle.apt_words.specs.declared.Case.{Case}
use Rattle.apt_words.specs.declared.Units.{Units}
use Rattle.apt_words.specs.declared.ask.CircleForm.{CircleForm}
use Rattle.apt_words.specs.declared.ask.CircleForm.TheVariants as circles
use Rattle.apt_words.specs.declared.ask.Form.{Form}
use Rattle.apt_words.specs.declared.ask.Form.TheVariants as forms
use Rattle.apt_words.specs.declared.ask.LineForm.{LineForm}
use Rattle.apt_words.specs.declared.ask.LineForm.TheVariants as lines
use Rattle.apt_words.specs.declared.ask.PointForm.{PointForm}
use Rattle.apt_words.specs.declared.ask.PointForm.TheVariants as points
use Rattle.apt_words.specs.declared.deed.Deed.{Deed}
use Rattle.apt_defs.specs.declared.figure.Figure.{Figure}
use Rattle.apt_defs.specs.declared.figure.Figure.TheVariants as figures
use Rattle.apt_defs.specs.Figures.{Table, figure_named, table_with}
use Rattle.apt_defs.specs.Forms.{point_xy, point_lines, point_pick, centre_point, line_xy, line_points, line_parallel, line_perpendicular, line_at, line_tangent, line_two, circle_xyr, circle_points, circle_radius, circle_tangent, circle_by_point, circle_corner}

abbrev pub point_of : Units → Table → PointForm → Result Figure Case
point_of units t (points.Xy x y z) = point_xy units x y z
point_of units t (points.Lines a b) = point_lines t a b
point_of units t (points.Picked k a b) = point_pick t k a b
point_of units t (points.Centre c) = centre_point t c

abbrev pub line_of : Units → Table → LineForm → Result Figure Case
line_of units t (lines.Xy x y u v) = line_xy units x y u v
line_of units t (lines.Points p q) = line_points t p q
line_of units t (lines.Parallel p l) = line_parallel t p l
line_of units t (lines.Square p l) = line_perpendicular t p l
line_of units t (lines.Beside l k v) = line_at units t l k v
line_of units t (lines.Past p h c) = line_tangent t p h c
line_of units t (lines.PastTwo h c k d) = line_two t h c k d

abbrev pub circle_of : Units → Table → CircleForm → Result Figure Case
circle_of units t (circles.Xyr x y r) = circle_xyr units x y r
circle_of units t (circles.Points a b c) = circle_points t a b c
circle_of units t (circles.Radius p r) = circle_radius units t p r
circle_of units t (circles.Along p l) = circle_tangent t p l
circle_of units t (circles.Through p q) = circle_by_point t p q
circle_of units t (circles.Corner j a k b r) = circle_corner units t j a k b r

-- what a form gives, or the first case that refuses it; a number is no figure
abbrev pub figure_of : Units → Table → Form → Result Figure Case
figure_of units t (forms.Number v) = Ok figures.Scalar
figure_of units t (forms.Point form) = point_of units t form
figure_of units t (forms.Line form) = line_of units t form
figure_of units t (forms.Circle form) = circle_of units t form

-- ---- behind a step

-- the step defines a name by a form
abbrev pub IsDefinition : Deed → List ℕ → Form → Type 0
IsDefinition deed name form = ask_of deed ≡ Defines name form

abbrev pub IsNoDefinition : Deed → Type 0
IsNoDefinition deed = (name : List ℕ) (form : Form) → ask_of deed ≢ Defines name form

-- a table behind a definition: its name has its figure, and all other names have theirs
pub record IsDefinedIn (units : Units) (before : Table) (deed : Deed) (now : Table) (name : List ℕ) (form : Form) (f : Figure) : Type 0 where
  pub asked : IsDefinition deed name form
  pub figure : figure_of units before form ≡ Ok f
  pub table : now ≡ table_with before name f
  pub set : figure_named now name ≡ Some f
  pub others : (other : List ℕ) → other ≢ name → figure_named now other ≡ figure_named before other

abbrev pub HasDefined : Units → Table → Deed → Table → Type 0
HasDefined units before deed now = (name : List ℕ) × (form : Form) × (f : Figure) × IsDefinedIn units before deed now name form f

-- a step that defines a name, or one that defines none and leaves the table as it was
abbrev pub HasOrNone : Units → Table → Deed → Table → Bool → Type 0
HasOrNone units before deed now true = HasDefined units before deed now
HasOrNone units before deed now false = IsNoDefinition deed × (now ≡ before)

-- the case that refuses a definition
abbrev pub IsRefusedBy : Units → Table → Deed → Case → Type 0
IsRefusedBy units t deed case = (name : List ℕ) × (form : Form) × IsDefinition deed name form × (figure_of units t form ≡ Err case)
