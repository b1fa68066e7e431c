-- The names in definitions, and which of them refuses one: names are looked up in the order in which they stand, before all numbers.
use Rattle.std.specs.Prelude.{ℕ, ℤ, nat_lt, unsigned_abs, Bool, true, false, ◌||◌, List, [], ◌∷◌, Option, Some, None, if◌then◌else◌}
use Rattle.std.specs.Option.{option_or}
use Rattle.apt_words.specs.declared.Case.{Case}
use Rattle.apt_words.specs.declared.Case.TheVariants as cases
use Rattle.apt_words.specs.declared.Units.{Units}
use Rattle.apt_words.specs.declared.ask.CircleForm.{CircleForm}
use Rattle.apt_words.specs.declared.ask.CircleForm.TheVariants as circles
use Rattle.apt_words.specs.declared.ask.Form.{Form}
use Rattle.apt_words.specs.declared.ask.Form.TheVariants as forms
use Rattle.apt_words.specs.declared.ask.LineForm.{LineForm}
use Rattle.apt_words.specs.declared.ask.LineForm.TheVariants as lines
use Rattle.apt_words.specs.declared.ask.PointForm.{PointForm}
use Rattle.apt_words.specs.declared.ask.PointForm.TheVariants as points
use Rattle.apt_scalar.specs.Scalars.{grid_units}
use Rattle.apt_plane.specs.declared.figures.Surface.TheVariants as surfaces
use Rattle.apt_defs.specs.declared.figure.Figure.{Figure}
use Rattle.apt_defs.specs.declared.figure.Figure.TheVariants as figures
use Rattle.apt_defs.specs.Figures.{Table, figure_named}

-- what a name has to stand for
pub data Kind : Type 0 where
  APoint : Kind
  ALine : Kind
  ACircle : Kind
  ASurface : Kind

-- whether a figure is of a kind
abbrev pub is_kind : Kind → Figure → Bool
is_kind APoint (figures.Point xy z) = true
is_kind APoint (figures.Shape s) = false
is_kind APoint figures.Scalar = false
is_kind ALine (figures.Point xy z) = false
is_kind ALine (figures.Shape (surfaces.Line l)) = true
is_kind ALine (figures.Shape (surfaces.Circ c)) = false
is_kind ALine figures.Scalar = false
is_kind ACircle (figures.Point xy z) = false
is_kind ACircle (figures.Shape (surfaces.Line l)) = false
is_kind ACircle (figures.Shape (surfaces.Circ c)) = true
is_kind ACircle figures.Scalar = false
is_kind ASurface (figures.Point xy z) = false
is_kind ASurface (figures.Shape s) = true
is_kind ASurface figures.Scalar = false

-- a name in a statement
pub record Named : Type 0 where
  pub kind : Kind
  pub name : List ℕ

abbrev pub a_point : List ℕ → Named
a_point n = record { kind = APoint; name = n }

abbrev pub a_line : List ℕ → Named
a_line n = record { kind = ALine; name = n }

abbrev pub a_circle : List ℕ → Named
a_circle n = record { kind = ACircle; name = n }

abbrev pub a_surface : List ℕ → Named
a_surface n = record { kind = ASurface; name = n }

-- the names from which a form draws its figure, in the order in which they stand
abbrev pub point_names : PointForm → List Named
point_names (points.Xy x y z) = []
point_names (points.Lines a b) = a_line a ∷ a_line b ∷ []
point_names (points.Picked k a b) = a_surface a ∷ a_surface b ∷ []
point_names (points.Centre c) = a_circle c ∷ []

abbrev pub line_names : LineForm → List Named
line_names (lines.Xy x y u v) = []
line_names (lines.Points p q) = a_point p ∷ a_point q ∷ []
line_names (lines.Parallel p l) = a_point p ∷ a_line l ∷ []
line_names (lines.Square p l) = a_point p ∷ a_line l ∷ []
line_names (lines.Beside l k v) = a_line l ∷ []
line_names (lines.Past p h c) = a_point p ∷ a_circle c ∷ []
line_names (lines.PastTwo h c k d) = a_circle c ∷ a_circle d ∷ []

abbrev pub circle_names : CircleForm → List Named
circle_names (circles.Xyr x y r) = []
circle_names (circles.Points a b c) = a_point a ∷ a_point b ∷ a_point c ∷ []
circle_names (circles.Radius p r) = a_point p ∷ []
circle_names (circles.Along p l) = a_point p ∷ a_line l ∷ []
circle_names (circles.Through p q) = a_point p ∷ a_point q ∷ []
circle_names (circles.Corner j a k b r) = a_line a ∷ a_line b ∷ []

abbrev pub names_of : Form → List Named
names_of (forms.Number v) = []
names_of (forms.Point form) = point_names form
names_of (forms.Line form) = line_names form
names_of (forms.Circle form) = circle_names form

-- a name without a figure is undefined, and one of another kind is of the wrong one
abbrev pub kind_case : Kind → Option Figure → Option Case
kind_case kind None = Some cases.Undefined
kind_case kind (Some f) = if is_kind kind f then None else Some cases.WrongKind

abbrev pub name_case : Table → Named → Option Case
name_case t n = kind_case n.kind (figure_named t n.name)

-- the case of the first name that has one
abbrev pub first_case : Table → List Named → Option Case
first_case t [] = None
first_case t (n ∷ ns) = option_or (name_case t n) (first_case t ns)

-- ---- numbers

-- whether a number leaves the coordinate limit, or the limit of lengths
abbrev pub is_far : Units → ℤ → Bool
is_far units v = nat_lt 50000000 (unsigned_abs (grid_units units v))

abbrev pub is_too_long : Units → ℤ → Bool
is_too_long units v = nat_lt 100000000 (unsigned_abs (grid_units units v))

abbrev pub is_too_high : Units → Option ℤ → Bool
is_too_high units None = false
is_too_high units (Some z) = is_far units z

abbrev pub point_is_far : Units → PointForm → Bool
point_is_far units (points.Xy x y z) = is_far units x || (is_far units y || is_too_high units z)
point_is_far units (points.Lines a b) = false
point_is_far units (points.Picked k a b) = false
point_is_far units (points.Centre c) = false

abbrev pub line_is_far : Units → LineForm → Bool
line_is_far units (lines.Xy x y u v) = is_far units x || (is_far units y || (is_far units u || is_far units v))
line_is_far units (lines.Beside l k v) = is_too_long units v
line_is_far units _ = false

abbrev pub circle_is_far : Units → CircleForm → Bool
circle_is_far units (circles.Xyr x y r) = is_far units x || (is_far units y || is_too_long units r)
circle_is_far units (circles.Points a b c) = false
circle_is_far units (circles.Radius p r) = is_too_long units r
circle_is_far units (circles.Along p l) = false
circle_is_far units (circles.Through p q) = false
circle_is_far units (circles.Corner j a k b r) = is_too_long units r

-- whether a number of a form leaves its limit
abbrev pub has_far_number : Units → Form → Bool
has_far_number units (forms.Number v) = false
has_far_number units (forms.Point form) = point_is_far units form
has_far_number units (forms.Line form) = line_is_far units form
has_far_number units (forms.Circle form) = circle_is_far units form
