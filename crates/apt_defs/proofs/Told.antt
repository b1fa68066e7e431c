-- What a form tells: its figure is drawn as it says, and its first name or a number that has a case refuses it.
use Rattle.std.proofs.Common.{◌≡◌, ℕ, Bool, true, false, List, Some, None, Err, IfOk, refl}
use Rattle.apt_words.specs.declared.Case.{Case}
use Rattle.apt_words.specs.declared.Case.TheVariants as cases
use Rattle.apt_words.specs.declared.Units.{Units}
use Rattle.apt_words.specs.declared.ask.CircleForm.TheVariants as circles
use Rattle.apt_words.specs.declared.ask.Form.{Form}
use Rattle.apt_words.specs.declared.ask.Form.TheVariants as forms
use Rattle.apt_words.specs.declared.ask.LineForm.TheVariants as lines
use Rattle.apt_words.specs.declared.ask.PointForm.TheVariants as points
use Rattle.apt_words.specs.declared.deed.Deed.{Deed}
use Rattle.apt_defs.specs.Figures.{Table, AreFigures}
use Rattle.apt_defs.specs.Definitions.{figure_of, HasOrNone, IsDefinition, IsRefusedBy}
use Rattle.apt_defs.specs.Names.{names_of, first_case, has_far_number}
use Rattle.apt_defs.specs.Drawn.{IsDrawn, HasDrawn}
use Rattle.apt_defs.proofs.Drawn.{circle_by_point_drawn, circle_corner_drawn, circle_points_drawn, circle_radius_drawn, circle_tangent_drawn, circle_xyr_drawn, line_at_drawn, line_parallel_drawn, line_perpendicular_drawn, line_points_drawn, line_tangent_drawn, line_two_drawn, line_xy_drawn, centre_point_drawn, point_lines_drawn, point_pick_drawn, point_xy_drawn}
use Rattle.apt_defs.proofs.Refused.{circle_by_point_names, circle_corner_names, circle_points_names, circle_radius_names, circle_tangent_names, line_at_names, line_parallel_names, line_perpendicular_names, line_points_names, line_tangent_names, line_two_names, centre_point_names, point_lines_names, point_pick_names, circle_corner_far, circle_radius_far, circle_xyr_far, line_at_far, line_xy_far, point_xy_far}

record IsTold (units : Units) (t : Table) (form : Form) : Type 0 where
  pub drawn : AreFigures t → IfOk (figure_of units t form) (IsDrawn units t form)
  pub names : (c : Case) → first_case t (names_of form) ≡ Some c → figure_of units t form ≡ Err c
  pub far : first_case t (names_of form) ≡ None → has_far_number units form ≡ true → figure_of units t form ≡ Err cases.OutOfRange

told : (units : Units) (t : Table) (form : Form) → IsTold units t form
told units t (forms.Number v) = record { drawn = λ are. refl; names = λ c h. absurd cc; far = λ none h. absurd cc }
told units t (forms.Point (points.Xy x y z)) = record { drawn = λ are. point_xy_drawn units x y z; names = λ c h. absurd cc; far = λ none h. point_xy_far units x y z h }
told units t (forms.Point (points.Lines a b)) = record { drawn = λ are. point_lines_drawn t a b are; names = point_lines_names t a b; far = λ none h. absurd cc }
told units t (forms.Point (points.Picked k a b)) = record { drawn = λ are. point_pick_drawn t k a b are; names = point_pick_names t k a b; far = λ none h. absurd cc }
told units t (forms.Point (points.Centre c)) = record { drawn = λ are. centre_point_drawn t c are; names = centre_point_names t c; far = λ none h. absurd cc }
told units t (forms.Line (lines.Xy x y u v)) = record { drawn = λ are. line_xy_drawn units x y u v; names = λ c h. absurd cc; far = λ none h. line_xy_far units x y u v h }
told units t (forms.Line (lines.Points p q)) = record { drawn = λ are. line_points_drawn t p q are; names = line_points_names t p q; far = λ none h. absurd cc }
told units t (forms.Line (lines.Parallel p l)) = record { drawn = λ are. line_parallel_drawn t p l are; names = line_parallel_names t p l; far = λ none h. absurd cc }
told units t (forms.Line (lines.Square p l)) = record { drawn = λ are. line_perpendicular_drawn t p l are; names = line_perpendicular_names t p l; far = λ none h. absurd cc }
told units t (forms.Line (lines.Beside l k v)) = record { drawn = λ are. line_at_drawn units t l k v are; names = line_at_names units t l k v; far = line_at_far units t l k v }
told units t (forms.Line (lines.Past p h c)) = record { drawn = λ are. line_tangent_drawn t p h c are; names = line_tangent_names t p h c; far = λ none h. absurd cc }
told units t (forms.Line (lines.PastTwo h c k d)) = record { drawn = λ are. line_two_drawn t h c k d are; names = line_two_names t h c k d; far = λ none h. absurd cc }
told units t (forms.Circle (circles.Xyr x y r)) = record { drawn = λ are. circle_xyr_drawn units x y r; names = λ c h. absurd cc; far = λ none h. circle_xyr_far units x y r h }
told units t (forms.Circle (circles.Points a b c)) = record { drawn = λ are. circle_points_drawn t a b c are; names = circle_points_names t a b c; far = λ none h. absurd cc }
told units t (forms.Circle (circles.Radius p r)) = record { drawn = λ are. circle_radius_drawn units t p r are; names = circle_radius_names units t p r; far = circle_radius_far units t p r }
told units t (forms.Circle (circles.Along p l)) = record { drawn = λ are. circle_tangent_drawn t p l are; names = circle_tangent_names t p l; far = λ none h. absurd cc }
told units t (forms.Circle (circles.Through p q)) = record { drawn = λ are. circle_by_point_drawn t p q are; names = circle_by_point_names t p q; far = λ none h. absurd cc }
told units t (forms.Circle (circles.Corner j a k b r)) = record { drawn = λ are. circle_corner_drawn units t j a k b r are; names = circle_corner_names units t j a k b r; far = circle_corner_far units t j a k b r }

pub is_drawn : (units : Units) (t : Table) (form : Form) → AreFigures t → IfOk (figure_of units t form) (IsDrawn units t form)
is_drawn units t form are = (told units t form).drawn are

pub name_refuses : (units : Units) (t : Table) (form : Form) (c : Case) → first_case t (names_of form) ≡ Some c → figure_of units t form ≡ Err c
name_refuses units t form c h = (told units t form).names c h

pub number_refuses : (units : Units) (t : Table) (form : Form) → first_case t (names_of form) ≡ None → has_far_number units form ≡ true → figure_of units t form ≡ Err cases.OutOfRange
number_refuses units t form none h = (told units t form).far none h

-- ---- as a step that defines says it

pub refused_by_name : (units : Units) (t : Table) (deed : Deed) (name : List ℕ) (form : Form) (c : Case) → IsDefinition deed name form → first_case t (names_of form) ≡ Some c
    → IsRefusedBy units t deed c
refused_by_name units t deed name form c asked h = (name, form, asked, name_refuses units t form c h)

pub refused_by_number : (units : Units) (t : Table) (deed : Deed) (name : List ℕ) (form : Form) → IsDefinition deed name form → first_case t (names_of form) ≡ None
    → has_far_number units form ≡ true → IsRefusedBy units t deed cases.OutOfRange
refused_by_number units t deed name form asked none h = (name, form, asked, number_refuses units t form none h)

pub has_drawn : (units : Units) (t : Table) (deed : Deed) (now : Table) (defined : Bool) → AreFigures t → HasOrNone units t deed now defined → HasDrawn units t deed now defined
has_drawn units t deed now true are is =
    let made = is.3 in
    let drawn : IfOk (figure_of units t is.1) (IsDrawn units t is.1) = is_drawn units t is.1 are in
    record { name = is.0; form = is.1; figure = is.2; asked = made.asked; set = made.set; drawn = rw made.figure at drawn }
has_drawn units t deed now false are is = is.0
