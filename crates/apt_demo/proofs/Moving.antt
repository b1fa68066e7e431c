-- The moves of a circle are not refused.
use Rattle.std.proofs.Common.{◌≡◌, ℕ, ◌+◌, ◌≤◌, [], ◌∷◌, refl, ◌∙◌, arith, true, false}
use Rattle.std.specs.Prelude.{ℤ, pos, negsuc, ◌+ℤ◌, ◌-ℤ◌, ◌*ℤ◌, int_lt, ◌&&◌, ◌==◌, not, Bool, is_none, unsigned_abs, cond, Some, None, codes}
use Rattle.std.proofs.lemmas.Int.{ints}
use Rattle.apt_num.specs.Near.{near}
use Rattle.apt_num.specs.declared.Sign.{Sign}
use Rattle.apt_num.specs.declared.Sign.TheVariants as signs
use Rattle.apt_num.specs.Sign.{sign_of}
use Rattle.apt_words.specs.declared.Case.TheVariants as cases
use Rattle.apt_words.specs.declared.Stop.TheVariants as stops
use Rattle.apt_words.specs.declared.deed.Deed.TheVariants as deeds
use Rattle.apt_words.specs.Options.{only_if}
use Rattle.apt_words.specs.Rows.{Row, first_of}
use Rattle.apt_words.proofs.Rows.{none_first}
use Rattle.apt_plane.specs.declared.figures.Pt.{Pt}
use Rattle.apt_plane.specs.declared.figures.Dir.{Dir}
use Rattle.apt_plane.specs.declared.figures.Surface.TheVariants as surfaces
use Rattle.apt_plane.specs.Vectors.{displacement, length_squared}
use Rattle.apt_canon.specs.Scale.{way, from, is_in_range}
use Rattle.apt_canon.specs.Feet.{ray_point}
use Rattle.apt_offset.specs.Turns.{is_zero}
use Rattle.apt_offset.specs.Targets.{signed}
use Rattle.apt_contact.specs.Meetings.{circle_about}
use Rattle.apt_startup.specs.declared.StartUp.{StartUp}
use Rattle.apt_startup.specs.StartUps.{start_up_cases, start_point, way_or_right}
use Rattle.apt_defs.specs.Figures.{Table}
use Rattle.apt_defs.specs.Forms.{is_within}
use Rattle.apt_records.specs.declared.record.Position.{Position}
use Rattle.apt_records.specs.declared.record.Reach.TheVariants as reaches
use Rattle.apt_meaning.specs.declared.situation.Settings.{Settings}
use Rattle.apt_meaning.specs.declared.effect.Change.TheVariants as changes
use Rattle.apt_meaning.specs.declared.effect.Effect.TheVariants as effects
use Rattle.apt_records.specs.declared.record.Note.TheVariants as notes
use Rattle.apt_meaning.specs.Situations.{position_at, forward_behind}
use Rattle.apt_records.specs.Vertices.{at_height}
use Rattle.apt_meaning.specs.StartUps.{start_up_at}
use Rattle.apt_meaning.specs.Effects.{moves}
use Rattle.apt_demo.proofs.Numbers.{Size}
use Rattle.apt_demo.proofs.Walks.{Passes}
use Rattle.apt_demo.proofs.Scenes.{ready, standing, point, figures_about, le_true, self, plus_zero, beside}

-- a coordinate beyond the limit is refused
abbrev beyond : ℤ → Row
beyond x = (not (is_within 50000000 x), cases.OutOfRange)

in_reach : (v x : ℤ) → v ≡ x → unsigned_abs x ≤ 50000000 → not (is_within 50000000 v) ≡ false
in_reach v x is h = (λ i. not (is_within 50000000 (is i))) ∙ (λ i. not (le_true (unsigned_abs x) 50000000 h i))

-- ---- RAPID

abbrev pub hurried : Settings
hurried = record ready { rapid = true }

pub rapid_step : (p : Position) (f : Dir) (t : Table) → Passes (standing ready p f t) deeds.Rapid 0 (standing hurried p f t)
rapid_step p f t = record { effect = effects.Sets (changes.Said notes.Rapid); fine = refl; asked = refl; count = refl; leaves = refl }

-- ---- GOTO, at a height of half an inch

pub goto_step : (p : Position) (f : Dir) (t : Table) (vx vy x y : ℤ) → near vx (pos 10) ≡ x → near vy (pos 10) ≡ y → unsigned_abs x ≤ 50000000 → unsigned_abs y ≤ 50000000
    → Passes (standing hurried p f t) (deeds.GotoXy vx vy (Some (pos 500000))) 0 (standing ready (position_at x y (pos 50000)) (forward_behind (Some p) (point x y) f) t)
goto_step p f t vx vy x y is_x is_y hx hy = record {
  effect = effects.Moves reaches.Goto (position_at x y (pos 50000));
  fine = none_first (beyond (near vx (pos 10)) ∷ beyond (near vy (pos 10)) ∷ []) (in_reach _ x is_x hx, (in_reach _ y is_y hy, tt));
  asked = λ i. moves reaches.Goto (Some (position_at (is_x i) (is_y i) (pos 50000)));
  count = refl;
  leaves = refl;
}

-- ---- GODLTA, down or up

pub height_step : (f : Dir) (t : Table) (x y z v to : ℤ) → z +ℤ near v (pos 10) ≡ to → unsigned_abs x ≤ 50000000 → unsigned_abs y ≤ 50000000 → unsigned_abs to ≤ 50000000
    → Passes (standing ready (position_at x y z) f t) (deeds.Godlta (pos 0) (pos 0) v) 0 (standing ready (position_at x y to) (forward_behind (Some (position_at x y z)) (point x y) f) t)
height_step f t x y z v to is hx hy hz = record {
  effect = effects.Moves reaches.Godlta (position_at x y to);
  fine = none_first (beyond (x +ℤ pos 0) ∷ beyond (y +ℤ pos 0) ∷ beyond (z +ℤ near v (pos 10)) ∷ []) (in_reach _ x (plus_zero x) hx, (in_reach _ y (plus_zero y) hy, (in_reach _ to is hz, tt)));
  asked = λ i. moves reaches.Godlta (Some (position_at (plus_zero x i) (plus_zero y i) (is i)));
  count = refl;
  leaves = refl;
}

-- ---- GO/TO,C

-- an inch to the right of a circle
abbrev clear_place : ℤ → ℤ → ℕ → Pt
clear_place x y r = point (x +ℤ pos (r + 100000)) y

abbrev to_circle : ℤ → ℤ → ℕ → StartUp
to_circle x y r = record { start = clear_place x y r; first = record { how = stops.To; surface = surfaces.Circ (record { c = point x y; r = pos r }) }; second = None; radius = pos 25000 }

-- the side of a circle on which a point is that lies so from its centre
abbrev side_of_way : ℕ → Dir → Sign
side_of_way r v = sign_of ((pos r *ℤ pos r) -ℤ pos (length_squared v))

-- a tool on this side of it has no room
abbrev has_no_room : ℕ → Sign → Bool
has_no_room r side = not (is_zero side) && int_lt (pos r -ℤ signed side (pos 25000)) (pos 100)

pub is_inside : (x y : ℤ) → unsigned_abs x ≤ 50000000 → unsigned_abs y ≤ 50000000 → is_in_range (point x y) ≡ true
is_inside x y hx hy i = le_true (unsigned_abs x) 50000000 hx i && le_true (unsigned_abs y) 50000000 hy i

-- the start-up begins outside, ends on the track, and no case refuses it
is_outside : (x y : ℤ) (r R : ℕ) → Size r R → side_of_way r (displacement (point x y) (clear_place x y r)) ≡ signs.Minus
is_outside x y r R size = (λ i. side_of_way r (beside x y (pos (r + 100000)) i)) ∙ size.outside

comes_to : (x y : ℤ) (r R : ℕ) → Size r R → start_point (to_circle x y r) ≡ point (x +ℤ pos R) y
comes_to x y r R size =
    let d = beside x y (pos (r + 100000)) in
    let out = is_outside x y r R size in
    (λ i. ray_point (circle_about (point x y) (pos r -ℤ signed (out i) (pos 25000))) (way_or_right (d i)))
    ∙ (λ i. ray_point (circle_about (point x y) (size.around i)) (way_or_right (way (pos (r + 100000)) (pos 0))))
    ∙ (λ i. from (point x y) (size.comes i))
    ∙ (λ i. point (x +ℤ pos R) (plus_zero y i))

comes_fine : (x y : ℤ) (r R : ℕ) → Size r R → is_in_range (point (x +ℤ pos R) y) ≡ true → first_of (start_up_cases (to_circle x y r)) ≡ None
comes_fine x y r R size inside =
    let out = is_outside x y r R size in
    let within : not (is_in_range (start_point (to_circle x y r))) ≡ false = (λ i. not (is_in_range (comes_to x y r R size i))) ∙ (λ i. not (inside i)) in
    none_first (start_up_cases (to_circle x y r)) ((λ i. has_no_room r (out i)) ∙ size.room, ((λ i. is_zero (out i)), (within, tt)))

-- the way of the start-up
back : (x : ℤ) (r R : ℕ) → R ≡ r + 25000 → (x +ℤ pos R) -ℤ (x +ℤ pos (r + 100000)) ≡ negsuc 74999
back x r R e = omega (arith, ints)

pub start_step : (f : Dir) (x y : ℤ) (r R : ℕ) → Size r R → R ≡ r + 25000 → is_in_range (point (x +ℤ pos R) y) ≡ true
    → Passes (standing ready (position_at (x +ℤ pos (r + 100000)) y (pos 0)) f (figures_about x y r)) (deeds.GoStart stops.To (codes "C") None) 0
    (standing ready (position_at (x +ℤ pos R) y (pos 0)) (way (negsuc 74999) (pos 0)) (figures_about x y r))
unfolding start_up_at
start_step f x y r R size is inside =
    let d : displacement (point (x +ℤ pos (r + 100000)) y) (point (x +ℤ pos R) y) ≡ way (negsuc 74999) (pos 0) = λ i. way (back x r R is i) (self y i) in
    record {
      effect = effects.Moves reaches.Start (position_at (x +ℤ pos R) y (pos 0));
      fine = comes_fine x y r R size inside;
      asked = λ i. moves reaches.Start (only_if (is_none (comes_fine x y r R size inside i)) (at_height (pos 0) (comes_to x y r R size i)));
      count = refl;
      leaves = λ i. standing ready (position_at (x +ℤ pos R) y (pos 0)) (cond (length_squared (d i) == 0) f (d i)) (figures_about x y r);
    }
