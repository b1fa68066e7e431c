-- Definitions in inches and in millimetres that say the same.
use Rattle.std.specs.Prelude.{◌≡◌, option_map}
use Rattle.apt_words.specs.declared.Units.{Units}
use Rattle.apt_words.specs.declared.ask.CircleForm.{CircleForm}
use Rattle.apt_words.specs.declared.ask.CircleForm.TheVariants as circles
use Rattle.apt_words.specs.declared.ask.Form.{Form}
use Rattle.apt_words.specs.declared.ask.Form.TheVariants as forms
use Rattle.apt_words.specs.declared.ask.LineForm.{LineForm}
use Rattle.apt_words.specs.declared.ask.LineForm.TheVariants as lines
use Rattle.apt_words.specs.declared.ask.PointForm.{PointForm}
use Rattle.apt_words.specs.declared.ask.PointForm.TheVariants as points
use Rattle.apt_scalar.specs.Scalars.{grid_units}

-- a form with its lengths in grid units
abbrev pub point_in_grid : Units → PointForm → PointForm
point_in_grid units (points.Xy x y z) = points.Xy (grid_units units x) (grid_units units y) (option_map (λ v. grid_units units v) z)
point_in_grid units (points.Lines a b) = points.Lines a b
point_in_grid units (points.Picked k a b) = points.Picked k a b
point_in_grid units (points.Centre c) = points.Centre c

abbrev pub line_in_grid : Units → LineForm → LineForm
line_in_grid units (lines.Xy x y u v) = lines.Xy (grid_units units x) (grid_units units y) (grid_units units u) (grid_units units v)
line_in_grid units (lines.Points p q) = lines.Points p q
line_in_grid units (lines.Parallel p l) = lines.Parallel p l
line_in_grid units (lines.Square p l) = lines.Square p l
line_in_grid units (lines.Beside l k v) = lines.Beside l k (grid_units units v)
line_in_grid units (lines.Past p h c) = lines.Past p h c
line_in_grid units (lines.PastTwo h c k d) = lines.PastTwo h c k d

abbrev pub circle_in_grid : Units → CircleForm → CircleForm
circle_in_grid units (circles.Xyr x y r) = circles.Xyr (grid_units units x) (grid_units units y) (grid_units units r)
circle_in_grid units (circles.Points a b c) = circles.Points a b c
circle_in_grid units (circles.Radius p r) = circles.Radius p (grid_units units r)
circle_in_grid units (circles.Along p l) = circles.Along p l
circle_in_grid units (circles.Through p q) = circles.Through p q
circle_in_grid units (circles.Corner j a k b r) = circles.Corner j a k b (grid_units units r)

abbrev pub in_grid : Units → Form → Form
in_grid units (forms.Number v) = forms.Number v
in_grid units (forms.Point form) = forms.Point (point_in_grid units form)
in_grid units (forms.Line form) = forms.Line (line_in_grid units form)
in_grid units (forms.Circle form) = forms.Circle (circle_in_grid units form)

-- two forms, each in its units, are the same in grid units
abbrev pub AreAlike : Units → Form → Units → Form → Type 0
AreAlike u form v other = in_grid u form ≡ in_grid v other
