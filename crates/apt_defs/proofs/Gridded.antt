-- What a form gives depends on its lengths in grid units alone.
use Rattle.std.proofs.Common.{◌≡◌, sym, ap, ◌∙◌, refl, ℕ, ℤ, pos, Bool, true, false, List, Option, Some, None, Result, Ok, Err, IfOk}
use Rattle.apt_words.specs.Chains.{◌>>=◌}
use Rattle.apt_words.specs.declared.Case.{Case}
use Rattle.apt_words.specs.declared.Units.{Units}
use Rattle.apt_words.specs.declared.Units.TheVariants.{Inch}
use Rattle.apt_words.specs.declared.ask.CircleForm.TheVariants as circles
use Rattle.apt_words.specs.declared.ask.Form.{Form}
use Rattle.apt_words.specs.declared.ask.Form.TheVariants as forms
use Rattle.apt_words.specs.declared.ask.LineForm.TheVariants as lines
use Rattle.apt_words.specs.declared.ask.PointForm.TheVariants as points
use Rattle.apt_words.specs.declared.deed.Deed.{Deed}
use Rattle.apt_plane.specs.declared.figures.Pt.{Pt}
use Rattle.apt_canon.specs.Feet.{parallel_at}
use Rattle.apt_canon.specs.Rounds.{circle_of, corner}
use Rattle.apt_defs.specs.declared.figure.Figure.{Figure}
use Rattle.apt_defs.specs.declared.figure.Figure.TheVariants as figures
use Rattle.apt_defs.specs.Figures.{Table, point_named, line_named}
use Rattle.apt_defs.specs.Forms.{within, point_at, line_through, line_formed, circle_formed}
use Rattle.apt_defs.specs.Definitions.{figure_of, HasOrNone, IsDefinition}
use Rattle.apt_defs.specs.Alike.{in_grid, AreAlike}
use Rattle.apt_defs.proofs.Defined.{has_defined, same_form}

abbrev at_grid : ℤ → ℤ → Result Pt Case
at_grid x y = within 50000000 x >>= λ gx. within 50000000 y >>= λ gy. Ok (point_at gx gy)

abbrev height_in_grid : Option ℤ → Result ℤ Case
height_in_grid None = Ok (pos 0)
height_in_grid (Some z) = within 50000000 z

-- what a form gives whose lengths are grid units
abbrev by_grid : Table → Form → Result Figure Case
by_grid t (forms.Point (points.Xy x y z)) = at_grid x y >>= λ p. height_in_grid z >>= λ h. Ok (figures.Point p h)
by_grid t (forms.Line (lines.Xy x y u v)) = at_grid x y >>= λ p. at_grid u v >>= λ q. line_through p q
by_grid t (forms.Line (lines.Beside l k v)) = line_named t l >>= λ m. within 100000000 v >>= λ d. line_formed (parallel_at m k d)
by_grid t (forms.Circle (circles.Xyr x y r)) = at_grid x y >>= λ c. within 100000000 r >>= λ g. circle_formed (circle_of c g)
by_grid t (forms.Circle (circles.Radius p r)) = point_named t p >>= λ c. within 100000000 r >>= λ g. circle_formed (circle_of c g)
by_grid t (forms.Circle (circles.Corner j a k b r)) = line_named t a >>= λ l. line_named t b >>= λ m. within 100000000 r >>= λ g. circle_formed (corner l j m k g)
by_grid t form = figure_of Inch t form

gridded : (units : Units) (t : Table) (form : Form) → figure_of units t form ≡ by_grid t (in_grid units form)
gridded units t (forms.Point (points.Xy x y None)) = refl
gridded units t (forms.Point (points.Xy x y (Some z))) = refl
gridded units t (forms.Line (lines.Xy x y u v)) = refl
gridded units t (forms.Circle (circles.Xyr x y r)) = refl
gridded units t form = refl

pub alike : (units other : Units) (t : Table) (form same : Form) → AreAlike units form other same → figure_of units t form ≡ figure_of other t same
alike units other t form same is = gridded units t form ∙ ap (by_grid t) is ∙ sym (gridded other t same)

-- a step that defines the same name by a form that is alike leaves the same table
pub alike_step : {E : Type 0} (units other : Units) (t : Table) (deed same : Deed) (name : List ℕ) (form another : Form) (now : Table) (r : Result Bool E)
    → IfOk r (HasOrNone units t deed now) → IsDefinition deed name form → IsDefinition same name another → AreAlike units form other another → IfOk r (HasOrNone other t same now)
alike_step units other t deed same name form another now (Ok true) is asked again are =
    let made = is.3 in
    let one = same_form deed is.0 name is.1 form made.asked asked in
    let figure = sym (alike units other t form another are) ∙ ap (λ x. figure_of units t x) (sym one.1) ∙ made.figure in
    has_defined other t same now name another is.2 again figure (rw (← one.0) made.table)
alike_step units other t deed same name form another now (Ok false) is asked again are = absurd (is.0 name form asked)
alike_step units other t deed same name form another now (Err e) is asked again are = tt
