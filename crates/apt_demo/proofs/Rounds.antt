-- All steps about a circle pass.
use Rattle.std.proofs.Common.{◌≡◌, ◌⊎◌, inl, inr, ℕ, ◌+◌, ◌*◌, ◌≤◌, ◌<◌, List, [], ◌++◌, refl, ◌∙◌, arith}
use Rattle.std.specs.Prelude.{ℤ, pos, neg_ℤ, ◌+ℤ◌, ◌-ℤ◌, ◌*ℤ◌, unsigned_abs, codes}
use Rattle.std.proofs.lemmas.Int.{ints}
use Rattle.apt_num.specs.Near.{near}
use Rattle.apt_words.specs.declared.Go.TheVariants as turns
use Rattle.apt_words.specs.declared.deed.Deed.{Deed}
use Rattle.apt_words.specs.declared.deed.Deed.TheVariants as deeds
use Rattle.apt_plane.specs.declared.figures.Dir.{Dir}
use Rattle.apt_words.specs.declared.ask.Form.TheVariants as forms
use Rattle.apt_words.specs.declared.ask.CircleForm.TheVariants as circles
use Rattle.apt_words.specs.declared.ask.LineForm.TheVariants as lines
use Rattle.apt_defs.specs.Figures.{Table, table_with}
use Rattle.apt_records.specs.declared.record.Position.{Position}
use Rattle.apt_meaning.specs.Situations.{position_at}
use Rattle.apt_demo.proofs.Deeds.{inches, hundredths, cut_deeds, deeds_about}
use Rattle.apt_demo.proofs.Numbers.{round_radius, track_radius, sizes}
use Rattle.apt_demo.proofs.Walks.{Passes, Goes, passes_by, passes_on}
use Rattle.apt_demo.proofs.Scenes.{ready, standing, round, straight, figures_about, tenth, circle_drawn, line_drawn, defines_one}
use Rattle.apt_demo.proofs.Moving.{is_inside, rapid_step, goto_step, height_step, start_step}
use Rattle.apt_demo.proofs.Chords.{left_half, right_half}
use Rattle.apt_demo.proofs.HalfTurns.{half_step}

-- ---- numbers

-- inches in units of the grid
abbrev units_of : ℤ → ℤ
units_of x = x *ℤ pos 100000

tenfold : (x : ℤ) → x *ℤ pos 1000000 ≡ pos 10 *ℤ (x *ℤ pos 100000)
tenfold x = omega (arith, ints)

inches_near : (x : ℤ) → near (inches x) (pos 10) ≡ units_of x
inches_near x = (λ i. near (tenfold x i) (pos 10)) ∙ tenth (units_of x)

tenfold_next : (x : ℤ) → (x +ℤ pos 1) *ℤ pos 1000000 ≡ pos 10 *ℤ ((x *ℤ pos 100000) +ℤ pos 100000)
tenfold_next x = omega (arith, ints)

next_near : (x : ℤ) → near (inches (x +ℤ pos 1)) (pos 10) ≡ units_of x +ℤ pos 100000
next_near x = (λ i. near (tenfold_next x i) (pos 10)) ∙ tenth (units_of x +ℤ pos 100000)

tenfold_radius : (i : ℕ) → pos (100 + 25 * i) *ℤ pos 10000 ≡ pos 10 *ℤ pos (100000 + 25000 * i)
tenfold_radius i = omega (arith, ints)

radius_near : (i : ℕ) → near (hundredths (pos (100 + 25 * i))) (pos 10) ≡ pos (round_radius i)
radius_near i = (λ j. near (tenfold_radius i j) (pos 10)) ∙ tenth (pos (round_radius i))

tenfold_clear : (x clear : ℤ) (i : ℕ) → clear ≡ (x *ℤ pos 100) +ℤ pos (200 + 25 * i) → clear *ℤ pos 10000 ≡ pos 10 *ℤ ((x *ℤ pos 100000) +ℤ pos (100000 + 25000 * i + 100000))
tenfold_clear x clear i is = omega (arith, ints, is)

clear_near : (x clear : ℤ) (i : ℕ) → clear ≡ (x *ℤ pos 100) +ℤ pos (200 + 25 * i) → near (hundredths clear) (pos 10) ≡ units_of x +ℤ pos (round_radius i + 100000)
clear_near x clear i is = (λ j. near (tenfold_clear x clear i is j) (pos 10)) ∙ tenth (units_of x +ℤ pos (round_radius i + 100000))

-- bounds
units_within : (x : ℤ) (n : ℕ) → unsigned_abs x ≤ n → unsigned_abs (units_of x) ≤ 100000 * n
units_within x n h = omega (arith, ints, h)

sum_within : (x : ℤ) (a n : ℕ) → unsigned_abs x ≤ n → unsigned_abs (x +ℤ pos a) ≤ n + a
sum_within x a n h = omega (arith, ints, h)

less_within : (x : ℤ) (a n : ℕ) → unsigned_abs x ≤ n → unsigned_abs (x -ℤ pos a) ≤ n + a
less_within x a n h = omega (arith, ints, h)

-- ---- the definitions

circle_step : (p : Position) (f : Dir) (t : Table) (x y : ℤ) (i : ℕ) → i < 8 → unsigned_abs x ≤ 400 → unsigned_abs y ≤ 400
    → Passes (standing ready p f t) (deeds.CircleXyr (codes "C") (inches x) (inches y) (hundredths (pos (100 + 25 * i)))) 0
    (standing ready p f (table_with t (codes "C") (round (units_of x) (units_of y) (round_radius i))))
circle_step p f t x y i small hx hy =
    let r = round_radius i in
    let vr = hundredths (pos (100 + 25 * i)) in
    let wide : unsigned_abs (units_of x) + r ≤ 49000000 = omega (arith, units_within x 400 hx, small) in
    let tall : unsigned_abs (units_of y) + r ≤ 49000000 = omega (arith, units_within y 400 hy, small) in
    let least : 100 ≤ r = omega arith in
    defines_one ready p f t (deeds.CircleXyr (codes "C") (inches x) (inches y) vr) (codes "C") (forms.Circle (circles.Xyr (inches x) (inches y) vr)) (round (units_of x) (units_of y) r) refl refl
    (circle_drawn t (inches x) (inches y) vr (units_of x) (units_of y) r (inches_near x) (inches_near y) (radius_near i) wide tall least)

line_step : (p : Position) (f : Dir) (t : Table) (x y : ℤ) → unsigned_abs x ≤ 400 → unsigned_abs y ≤ 400
    → Passes (standing ready p f t) (deeds.LineXy (codes "L") (inches x) (inches y) (inches (x +ℤ pos 1)) (inches y)) 0
    (standing ready p f (table_with t (codes "L") (straight (units_of x) (units_of y))))
line_step p f t x y hx hy =
    let vu = inches (x +ℤ pos 1) in
    let wide : unsigned_abs (units_of x) ≤ 49000000 = omega (arith, units_within x 400 hx) in
    let tall : unsigned_abs (units_of y) ≤ 49000000 = omega (arith, units_within y 400 hy) in
    defines_one ready p f t (deeds.LineXy (codes "L") (inches x) (inches y) vu (inches y)) (codes "L") (forms.Line (lines.Xy (inches x) (inches y) vu (inches y))) (straight (units_of x) (units_of y)) refl refl
    (line_drawn t (inches x) (inches y) vu (units_of x) (units_of y) (inches_near x) (inches_near y) (next_near x) wide tall)

-- ---- the cut

-- from any place, with the circle and the line in the table
cut_goes : (so_far : ℕ) (p : Position) (f : Dir) (x y vx vy : ℤ) (i : ℕ) (more : List Deed) → i < 8
    → near vx (pos 10) ≡ x +ℤ pos (round_radius i + 100000) → near vy (pos 10) ≡ y → unsigned_abs x ≤ 40000000 → unsigned_abs y ≤ 40000000 → so_far + 512 ≤ 500000
    → ((q : Position) (g : Dir) → Goes (so_far + 256 + 256) (standing ready q g (figures_about x y (round_radius i))) more)
    → Goes so_far (standing ready p f (figures_about x y (round_radius i))) (cut_deeds vx vy ++ more)
cut_goes so_far p f x y vx vy i more small is_x is_y hx hy few next =
    let r = round_radius i in
    let R = track_radius i in
    let size = sizes i small in
    let out : unsigned_abs (x +ℤ pos (r + 100000)) ≤ 50000000 = omega (arith, sum_within x (r + 100000) 40000000 hx, small) in
    let right : unsigned_abs (x +ℤ pos R) ≤ 50000000 = omega (arith, sum_within x R 40000000 hx, small) in
    let left : unsigned_abs (x -ℤ pos R) ≤ 50000000 = omega (arith, less_within x R 40000000 hx, small) in
    let flat : unsigned_abs y ≤ 50000000 = omega (arith, hy) in
    let few_now : so_far ≤ 500000 = omega (arith, few) in
    let few_behind : so_far + 256 + 256 ≤ 500000 = omega (arith, few) in
    let few_then : so_far + 256 ≤ 500000 = omega (arith, few) in
    let step : R ≡ r + 25000 = omega arith in
    let low : unsigned_abs (pos 0) ≤ 50000000 = omega arith in
    let high : unsigned_abs (pos 50000) ≤ 50000000 = omega arith in
    passes_by _ _ _ _ _ (rapid_step p f (figures_about x y r)) few_now
    (passes_by _ _ _ _ _ (goto_step p f (figures_about x y r) vx vy (x +ℤ pos (r + 100000)) y is_x is_y out flat) few_now
    (passes_by _ _ _ _ _ (height_step _ (figures_about x y r) (x +ℤ pos (r + 100000)) y (pos 50000) (neg_ℤ (pos 500000)) (pos 0) refl out flat low) few_now
    (passes_by _ _ _ _ _ (start_step _ x y r R size step (is_inside (x +ℤ pos R) y right flat)) few_now
    (passes_on _ 256 _ _ _ _ (half_step _ x y (pos R) (neg_ℤ (pos R)) r R 256 turns.Right size size.first_half size.first_turn (is_inside (x -ℤ pos R) y left flat) (left_half x y i small)) few_then
    (passes_on _ 256 _ _ _ _ (half_step _ x y (neg_ℤ (pos R)) (pos R) r R 256 turns.Forward size size.second_half size.second_turn (is_inside (x +ℤ pos R) y right flat) (right_half x y i small)) few_behind
    (passes_by _ _ _ _ _ (height_step _ (figures_about x y r) (x +ℤ pos R) y (pos 0) (pos 500000) (pos 50000) refl right flat high) few_behind
    (next (position_at (x +ℤ pos R) y (pos 50000)) _)))))))

-- ---- all of it

-- nothing is defined, or a circle and a line
abbrev IsPlainTable : Table → Type 0
IsPlainTable t = (t ≡ []) ⊎ ((x : ℤ) × (y : ℤ) × (r : ℕ) × (t ≡ figures_about x y r))

-- from any place, with any circle and line
abbrev pub GoesOn : ℕ → List Deed → Type 0
GoesOn so_far more = (p : Position) (f : Dir) (t : Table) → IsPlainTable t → Goes so_far (standing ready p f t) more

both_defined : (t : Table) (x y : ℤ) (r : ℕ) → IsPlainTable t → table_with (table_with t (codes "C") (round x y r)) (codes "L") (straight x y) ≡ figures_about x y r
both_defined t x y r (inl empty) = rw empty refl
both_defined t x y r (inr held) = rw held.3 refl

-- every step about a circle of the demo
pub round_goes : (so_far : ℕ) (x y clear : ℤ) (i : ℕ) (more : List Deed) → i < 8 → unsigned_abs x ≤ 400 → unsigned_abs y ≤ 400
    → clear ≡ (x *ℤ pos 100) +ℤ pos (200 + 25 * i) → so_far + 512 ≤ 500000 → GoesOn (so_far + 256 + 256) more
    → GoesOn so_far (deeds_about x y (100 + 25 * i) clear ++ more)
round_goes so_far x y clear i more small hx hy is few next p f t plain =
    let r = round_radius i in
    let gx = units_of x in
    let gy = units_of y in
    let wide : unsigned_abs gx ≤ 40000000 = omega (arith, units_within x 400 hx) in
    let tall : unsigned_abs gy ≤ 40000000 = omega (arith, units_within y 400 hy) in
    let few_now : so_far ≤ 500000 = omega (arith, few) in
    passes_by _ _ _ _ _ (circle_step p f t x y i small hx hy) few_now
    (passes_by _ _ _ _ _ (line_step p f (table_with t (codes "C") (round gx gy r)) x y hx hy) few_now
    (rw (both_defined t gx gy r plain)
    (cut_goes so_far p f gx gy (hundredths clear) (inches y) i more small (clear_near x clear i is) (inches_near y) wide tall few
    (λ q g. next q g (figures_about gx gy r) (inr (gx, gy, r, refl))))))
