-- The situations of a circle, and how its numbers are read.
use Rattle.std.proofs.Common.{◌≡◌, ℕ, suc, ◌+◌, ◌*◌, ◌≤◌, List, [], ◌∷◌, refl, ap, ◌∙◌, arith, true, false}
use Rattle.std.specs.Prelude.{ℤ, pos, negsuc, neg_ℤ, ◌+ℤ◌, ◌-ℤ◌, ◌*ℤ◌, nat_le, nat_lt, int_lt, ◌||◌, unsigned_abs, cond, ◌==◌, Some, Ok, Err, codes}
use Rattle.std.proofs.lemmas.Int.{ints}
use Rattle.std.proofs.lemmas.Bool.Decides.{nat_tests}
use Rattle.apt_num.specs.Near.{half_up, near}
use Rattle.apt_num.proofs.Nearest.{near-neg}
use Rattle.apt_words.specs.declared.Case.TheVariants as cases
use Rattle.apt_words.specs.declared.Units.TheVariants as units
use Rattle.apt_words.specs.declared.Side.TheVariants as sides
use Rattle.apt_words.specs.declared.ask.Form.{Form}
use Rattle.apt_words.specs.declared.ask.Form.TheVariants as forms
use Rattle.apt_words.specs.declared.ask.CircleForm.TheVariants as circles
use Rattle.apt_words.specs.declared.ask.LineForm.TheVariants as lines
use Rattle.apt_words.specs.declared.deed.Deed.{Deed}
use Rattle.apt_words.specs.Asks.{Defines, ask_of}
use Rattle.apt_words.specs.Rows.{first_of}
use Rattle.apt_words.specs.Chains.{◌>>=◌}
use Rattle.apt_plane.specs.declared.figures.Pt.{Pt}
use Rattle.apt_plane.specs.declared.figures.Dir.{Dir}
use Rattle.apt_plane.specs.declared.figures.Surface.TheVariants as surfaces
use Rattle.apt_plane.specs.Vectors.{displacement, length_squared}
use Rattle.apt_canon.specs.Scale.{way}
use Rattle.apt_canon.specs.Rounds.{circle_of, circle}
use Rattle.apt_canon.specs.declared.FormFault.TheVariants as faults
use Rattle.apt_defs.specs.declared.figure.Figure.{Figure}
use Rattle.apt_defs.specs.declared.figure.Figure.TheVariants as figures
use Rattle.apt_defs.specs.Figures.{Table, table_with}
use Rattle.apt_defs.specs.Forms.{within, point_at, line_through, circle_formed, a_line}
use Rattle.apt_defs.specs.Definitions.{figure_of}
use Rattle.apt_meaning.specs.declared.situation.Settings.{Settings}
use Rattle.apt_meaning.specs.declared.situation.Situation.{Situation}
use Rattle.apt_meaning.specs.declared.effect.Effect.TheVariants as effects
use Rattle.apt_meaning.specs.Effects.{defined, names, effect_by}
use Rattle.apt_meaning.specs.Refusals.{refused, refused_form, cases_by}
use Rattle.apt_records.specs.declared.record.Position.{Position}
use Rattle.apt_demo.proofs.Numbers.{rightward}
use Rattle.apt_demo.proofs.Walks.{Passes}

-- ---- situations

-- the settings behind the head of the part
abbrev pub ready : Settings
ready = record { units = units.Inch; radius = pos 25000; intol = pos 0; outtol = pos 50; side = sides.Right; feed = pos 100; rapid = false }

abbrev pub standing : Settings → Position → Dir → Table → Situation
standing s p f t = record { settings = s; position = Some p; forward = f; table = t }

abbrev pub point : ℤ → ℤ → Pt
point x y = record { x = x; y = y }

abbrev pub round : ℤ → ℤ → ℕ → Figure
round x y r = figures.Shape (surfaces.Circ (record { c = point x y; r = pos r }))

abbrev pub straight : ℤ → ℤ → Figure
straight x y = figures.Shape (surfaces.Line (record { base = point x y; dir = rightward }))

-- the circle and the line through its centre
abbrev pub figures_about : ℤ → ℤ → ℕ → Table
figures_about x y r = (codes "C", round x y r) ∷ (codes "L", straight x y) ∷ []

-- ---- numbers

not_negative : (n : ℕ) → int_lt (pos n) (pos 0) ≡ false
not_negative n = grind (arith, ints, nat_tests)

half_up_tenth : (n : ℕ) → half_up (10 * n) 10 ≡ n
half_up_tenth n = omega arith

near_tenth : (n : ℕ) → near (pos (10 * n)) (pos 10) ≡ pos n
near_tenth n = rw (not_negative (10 * n)) (ap pos (half_up_tenth n))

-- ten times a whole number, divided by ten
pub tenth : (x : ℤ) → near (pos 10 *ℤ x) (pos 10) ≡ x
tenth (pos n) = near_tenth n
tenth (negsuc n) = near-neg (pos (10 * suc n)) (pos 10) ∙ ap neg_ℤ (near_tenth (suc n))

pub le_true : (a b : ℕ) → a ≤ b → nat_le a b ≡ true
le_true a b h = grind (arith, nat_tests)

pub lt_false : (a b : ℕ) → b ≤ a → nat_lt a b ≡ false
lt_false a b h = grind (arith, nat_tests)

away : (x a : ℤ) → (x +ℤ a) -ℤ x ≡ a
away x a = omega (arith, ints)

pub self : (x : ℤ) → x -ℤ x ≡ pos 0
self x = omega (arith, ints)

pub plus_zero : (x : ℤ) → x +ℤ pos 0 ≡ x
plus_zero x = omega (arith, ints)

-- from a point to one beside it
pub beside : (x y a : ℤ) → displacement (point x y) (point (x +ℤ a) y) ≡ way a (pos 0)
beside x y a i = way (away x a i) (self y i)

within_is : (limit : ℕ) (g : ℤ) → unsigned_abs g ≤ limit → within limit g ≡ Ok g
within_is limit g h i = cond (le_true (unsigned_abs g) limit h i) (Ok g) (Err cases.OutOfRange)

-- ---- definitions

near_by : (limit : ℕ) (v g : ℤ) → near v (pos 10) ≡ g → unsigned_abs g ≤ limit → within limit (near v (pos 10)) ≡ Ok g
near_by limit v g is h = (λ i. within limit (is i)) ∙ within_is limit g h

too_small : (r : ℕ) → 100 ≤ r → int_lt (pos r) (pos 100) ≡ false
too_small r h = grind (arith, ints, nat_tests)

circle_is : (x y : ℤ) (r : ℕ) → unsigned_abs x + r ≤ 49000000 → unsigned_abs y + r ≤ 49000000 → 100 ≤ r
    → circle_of (point x y) (pos r) ≡ Ok (circle (point x y) (pos r))
circle_is x y r hx hy hr =
    let large = lt_false 49000000 (unsigned_abs x + r) hx in
    let large' = lt_false 49000000 (unsigned_abs y + r) hy in
    λ i. cond (too_small r hr i) (Err faults.Degenerate) (cond (large i || large' i) (Err faults.TooLarge) (Ok (circle (point x y) (pos r))))

pub circle_drawn : (t : Table) (vx vy vr x y : ℤ) (r : ℕ) → near vx (pos 10) ≡ x → near vy (pos 10) ≡ y → near vr (pos 10) ≡ pos r
    → unsigned_abs x + r ≤ 49000000 → unsigned_abs y + r ≤ 49000000 → 100 ≤ r
    → figure_of units.Inch t (forms.Circle (circles.Xyr vx vy vr)) ≡ Ok (round x y r)
circle_drawn t vx vy vr x y r is_x is_y is_r hx hy hr =
    let gx = near_by 50000000 vx x is_x (omega (arith, hx)) in
    let gy = near_by 50000000 vy y is_y (omega (arith, hy)) in
    let gr = near_by 100000000 vr (pos r) is_r (omega (arith, hx)) in
    (λ i. (gx i >>= λ gx. gy i >>= λ gy. Ok (point_at gx gy)) >>= λ c. gr i >>= λ g. circle_formed (circle_of c g))
    ∙ (λ i. circle_formed (circle_is x y r hx hy hr i))

-- the line to a point 100000 to the right
pub line_drawn : (t : Table) (vx vy vu x y : ℤ) → near vx (pos 10) ≡ x → near vy (pos 10) ≡ y → near vu (pos 10) ≡ x +ℤ pos 100000
    → unsigned_abs x ≤ 49000000 → unsigned_abs y ≤ 49000000
    → figure_of units.Inch t (forms.Line (lines.Xy vx vy vu vy)) ≡ Ok (straight x y)
line_drawn t vx vy vu x y is_x is_y is_u hx hy =
    let gx = near_by 50000000 vx x is_x (omega (arith, hx)) in
    let gy = near_by 50000000 vy y is_y (omega (arith, hy)) in
    let gu = near_by 50000000 vu (x +ℤ pos 100000) is_u (omega (arith, ints, hx)) in
    let d = beside x y (pos 100000) in
    (λ i. (gx i >>= λ gx. gy i >>= λ gy. Ok (point_at gx gy)) >>= λ p. (gu i >>= λ gx. gy i >>= λ gy. Ok (point_at gx gy)) >>= λ q. line_through p q)
    ∙ (λ i. cond (length_squared (d i) == 0) (Err cases.Degenerate) (a_line (record { base = point x y; dir = d i })))

-- a name that is given a figure
pub defines_one : (s : Settings) (p : Position) (f : Dir) (t : Table) (deed : Deed) (name : List ℕ) (form : Form) (figure : Figure) → s.units ≡ units.Inch
    → ask_of deed ≡ Defines name form → figure_of units.Inch t form ≡ Ok figure
    → Passes (standing s p f t) deed 0 (standing s p f (table_with t name figure))
unfolding defined refused_form
defines_one s p f t deed name form figure inch is drawn =
    let here = standing s p f t in
    let drawn' : figure_of s.units t form ≡ Ok figure = rw inch drawn in
    record {
      effect = effects.Defines name figure;
      fine = (λ i. first_of (cases_by here (is i))) ∙ (λ i. first_of (refused (drawn' i)));
      asked = (λ i. effect_by here (is i)) ∙ (λ i. names name (drawn' i));
      count = refl;
      leaves = refl;
    }
