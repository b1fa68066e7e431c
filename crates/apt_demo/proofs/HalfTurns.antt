-- The two halves round a circle are not refused.
use Rattle.std.proofs.Common.{◌≡◌, ℕ, ◌+◌, ◌/◌, length, refl, ◌∙◌, true, false}
use Rattle.std.specs.Prelude.{ℤ, pos, neg_ℤ, ◌+ℤ◌, ◌-ℤ◌, not, unsigned_abs, None, codes}
use Rattle.apt_num.specs.declared.Sign.TheVariants as signs
use Rattle.apt_words.specs.declared.Go.{Go}
use Rattle.apt_words.specs.declared.Stop.TheVariants as stops
use Rattle.apt_words.specs.declared.deed.Deed.TheVariants as deeds
use Rattle.apt_words.specs.Rows.{first_of}
use Rattle.apt_words.proofs.Rows.{none_first}
use Rattle.apt_words.proofs.Contours.{contouring}
use Rattle.apt_plane.specs.declared.figures.Dir.{Dir}
use Rattle.apt_plane.specs.declared.figures.Surface.{Surface}
use Rattle.apt_plane.specs.declared.figures.Surface.TheVariants as surfaces
use Rattle.apt_plane.specs.Vectors.{displacement, perp}
use Rattle.apt_canon.specs.Scale.{way, from, is_in_range}
use Rattle.apt_offset.specs.Turns.{turn}
use Rattle.apt_contact.specs.Meetings.{circle_about, is_parallel, is_apart}
use Rattle.apt_stop.specs.Nearness.{heading}
use Rattle.apt_stop.specs.declared.legs.Legs.TheVariants as legs
use Rattle.apt_arc.specs.Made.{divided}
use Rattle.apt_meaning.specs.declared.motion.Motion.{Motion}
use Rattle.apt_meaning.specs.declared.effect.Effect.TheVariants as effects
use Rattle.apt_meaning.specs.Situations.{position_at}
use Rattle.apt_records.specs.Vertices.{at_height}
use Rattle.apt_meaning.specs.Motions.{motion, motion_at, if_turned}
use Rattle.apt_meaning.specs.Cuts.{end_point, arc_on, lesser}
use Rattle.apt_meaning.specs.Effects.{cuts}
use Rattle.apt_meaning.specs.Refusals.{turned_cases, motion_cases}
use Rattle.apt_demo.proofs.Numbers.{Size, Half, rightward, none, is_near_round, is_past_line, end_way, meeting_by}
use Rattle.apt_demo.proofs.Walks.{Passes, plus_none}
use Rattle.apt_demo.proofs.Scenes.{ready, standing, point, figures_about, self, plus_zero, beside}
use Rattle.apt_demo.proofs.Chords.{half_arc}

abbrev circle_surface : ℤ → ℤ → ℕ → Surface
circle_surface x y r = surfaces.Circ (record { c = point x y; r = pos r })

abbrev line_surface : ℤ → ℤ → Surface
line_surface x y = surfaces.Line (record { base = point x y; dir = rightward })

-- the motion that begins at the point a to the right of the centre
abbrev half_motion : ℤ → ℤ → ℕ → ℤ → Motion
half_motion x y r a = motion ready (position_at (x +ℤ a) y (pos 0)) (circle_surface x y r) signs.Plus stops.On (line_surface x y)

nothing : (x y : ℤ) → displacement (point x y) (point x y) ≡ none
nothing x y i = way (self x i) (self y i)

-- it ends at b
half_ends : (x y a b : ℤ) (r R : ℕ) → Size r R → Half R a b → end_point (half_motion x y r a) ≡ point (x +ℤ b) y
half_ends x y a b r R size half =
    let d = beside x y a in
    let z = nothing x y in
    (λ i. from (point x y) (end_way (size.around i) (z i) (d i)))
    ∙ (λ i. from (point x y) (half.ends i))
    ∙ (λ i. point (x +ℤ b) (plus_zero y i))

-- no case refuses it
half_fine : (x y a b : ℤ) (r R : ℕ) → Size r R → Half R a b → is_in_range (point (x +ℤ b) y) ≡ true → first_of (motion_cases (half_motion x y r a)) ≡ None
half_fine x y a b r R size half inside =
    let d = beside x y a in
    let z = nothing x y in
    let near : not (is_near_round (pos r -ℤ neg_ℤ (pos 25000)) (pos 3) (displacement (point x y) (point (x +ℤ a) y))) ≡ false = (λ i. not (is_near_round (size.around i) (pos 3) (d i))) ∙ (λ i. not (half.near i)) in
    let parallel : is_parallel (meeting_by (pos r -ℤ neg_ℤ (pos 25000)) (displacement (point x y) (point x y))) ≡ false = (λ i. is_parallel (meeting_by (size.around i) (z i))) ∙ size.parallel in
    let apart : is_apart (meeting_by (pos r -ℤ neg_ℤ (pos 25000)) (displacement (point x y) (point x y))) ≡ false = (λ i. is_apart (meeting_by (size.around i) (z i))) ∙ size.apart in
    let past : is_past_line (displacement (point x y) (point (x +ℤ a) y)) ≡ false = (λ i. is_past_line (d i)) ∙ half.past in
    let within : not (is_in_range (end_point (half_motion x y r a))) ≡ false = (λ i. not (is_in_range (half_ends x y a b r R size half i))) ∙ (λ i. not (inside i)) in
    none_first (motion_cases (half_motion x y r a)) (size.room, (refl, (near, (refl, (parallel, (apart, (past, (within, tt))))))))

-- its arc
half_arc_is : (x y a b : ℤ) (r R : ℕ) → Size r R → Half R a b → arc_on (half_motion x y r a) (point x y) (pos r -ℤ neg_ℤ (pos 25000)) ≡ half_arc x y R a b
half_arc_is x y a b r R size half =
    (λ i. record {
      track = circle_about (point x y) (size.around i);
      sense = pos 1;
      axis = perp rightward;
      sag = lesser (size.around i -ℤ ((pos r +ℤ pos 25000) -ℤ pos 8)) (pos (unsigned_abs (size.around i) / 4));
      start = point (x +ℤ a) y;
      end = half_ends x y a b r R size half i;
    })
    ∙ (λ i. record { track = circle_about (point x y) (pos R); sense = pos 1; axis = perp rightward; sag = size.sag i; start = point (x +ℤ a) y; end = point (x +ℤ b) y })

-- the step that asks for it
pub half_step : (f : Dir) (x y a b : ℤ) (r R n : ℕ) (go : Go) → Size r R → Half R a b → turn f (perp (way a (pos 0))) go ≡ signs.Plus
    → is_in_range (point (x +ℤ b) y) ≡ true → length (divided (half_arc x y R a b)) ≡ n
    → Passes (standing ready (position_at (x +ℤ a) y (pos 0)) f (figures_about x y r)) (deeds.Contour (contouring None go (codes "C") stops.On (codes "L")) (pos 1000000)) n
    (standing ready (position_at (x +ℤ b) y (pos 0)) (heading (pos 1) (perp (way b (pos 0)))) (figures_about x y r))
unfolding motion_at
half_step f x y a b r R n go size half turns inside count =
    let start = position_at (x +ℤ a) y (pos 0) in
    let turned : turn f (perp (displacement (point x y) (point (x +ℤ a) y))) go ≡ signs.Plus = (λ i. turn f (perp (beside x y a i)) go) ∙ turns in
    let ends = half_ends x y a b r R size half in
    record {
      effect = effects.Cuts (half_motion x y r a) legs.One;
      fine = (λ i. first_of (turned_cases legs.One ready start (circle_surface x y r) (turned i) stops.On (line_surface x y))) ∙ half_fine x y a b r R size half inside;
      asked = λ i. cuts legs.One (if_turned ready start (circle_surface x y r) (turned i) stops.On (line_surface x y));
      count = (λ i. length (divided (half_arc_is x y a b r R size half i)) + 0) ∙ plus_none (length (divided (half_arc x y R a b))) ∙ count;
      leaves = (λ i. standing ready (at_height (pos 0) (ends i)) (heading (pos 1) (perp (displacement (point x y) (ends i)))) (figures_about x y r))
          ∙ (λ i. standing ready (position_at (x +ℤ b) y (pos 0)) (heading (pos 1) (perp (beside x y b i))) (figures_about x y r));
    }
