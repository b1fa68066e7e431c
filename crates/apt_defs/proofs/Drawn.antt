-- The figures of definitions are drawn as their statements say.
use Rattle.std.proofs.Common.{◌≡◌, inl, inr, ◌∙◌, refl, ℕ, ◌^◌, ◌≤◌, ℤ, pos, negsuc, neg_ℤ, ◌+ℤ◌, ◌-ℤ◌, ◌*ℤ◌, ◌≤ℤ◌, ◌<ℤ◌, unsigned_abs, int_lt, Bool, true, false, List, Option, Some, None, Result, Ok, Err, IfOk, IsOkAnd, arith}
use Rattle.std.specs.Prelude.{IsSomeAnd, ◌==◌, ◌&&◌, ◌||◌, not, if◌then◌else◌}
use Rattle.std.proofs.lemmas.Int.{ints}
use Rattle.std.proofs.lemmas.Bool.Decides.{nat_tests}
use Rattle.apt_num.specs.declared.Sign.{Sign}
use Rattle.apt_num.specs.declared.Sign.TheVariants as signs
use Rattle.apt_words.specs.Chains.{◌>>=◌}
use Rattle.apt_words.specs.declared.Case.{Case}
use Rattle.apt_words.specs.declared.Pick.{Pick}
use Rattle.apt_words.specs.declared.Pick.TheVariants as picks
use Rattle.apt_words.specs.declared.Units.{Units}
use Rattle.apt_scalar.specs.Scalars.{grid_units}
use Rattle.apt_num.proofs.Ring.{as_diff, diff-pos, diff-same, differences}
use Rattle.apt_num.proofs.Squares.{size_neg}
use Rattle.apt_plane.specs.declared.figures.Pt.{Pt}
use Rattle.apt_plane.specs.declared.figures.Line.{Line}
use Rattle.apt_plane.specs.declared.figures.Circ.{Circ}
use Rattle.apt_plane.specs.declared.figures.Surface.{Surface}
use Rattle.apt_plane.specs.declared.figures.Surface.TheVariants as surfaces
use Rattle.apt_plane.specs.Ranges.{IsPoint, IsDir, IsLine, IsMoved, IsCircle, IsRound, IsSurface, IsSense}
use Rattle.apt_plane.proofs.Frames.{cross_perp_self}
use Rattle.apt_plane.specs.Vectors.{displacement, length_squared, perp}
use Rattle.apt_canon.specs.declared.FormFault.{FormFault}
use Rattle.apt_canon.specs.declared.FormFault.TheVariants as faults
use Rattle.apt_canon.specs.Scale.{from, in_range, IsNearLine}
use Rattle.apt_canon.specs.Meeting.{line_line}
use Rattle.apt_canon.specs.Circles.{line_circle, are_concentric, circle_circle}
use Rattle.apt_canon.specs.Feet.{side_picked, offset_picked, parallel_point, based_on, parallel_at}
use Rattle.apt_canon.specs.Tangents.{side_of_circle, tangent_from, tangent_two}
use Rattle.apt_canon.specs.RoundLaws.{IsThrough, IsBeside}
use Rattle.apt_canon.specs.Rounds.{is_too_small, is_too_large, circle, circle_of, about_through, distance_from_line, circle_through, circle_touching, circle_three, corner}
use Rattle.apt_canon.proofs.LineMeetings.OnBoth.{answer_on_a, answer_on_b}
use Rattle.apt_canon.proofs.CircleMeetings.Answers.{answer_on_line, answer_on_circle, answer_further, answer_on_first, answer_on_second, answer_beyond}
use Rattle.apt_canon.proofs.FootPoints.Parallels.{answer_same_dir, answer_on_line as parallel_on_line, answer_beside, answer_away}
use Rattle.apt_canon.proofs.TangentLines.Answers.{from_base, from_touches, from_side, from_onwards, two_base, two_touches_first, two_touches_second, two_side_first, two_side_second, two_onwards}
use Rattle.apt_canon.proofs.DefinedCircles.Laws.{of_centre, of_through, of_touching, three_through, in_radius, in_sides, in_touches}
use Rattle.apt_defs.specs.declared.figure.Figure.{Figure}
use Rattle.apt_defs.specs.declared.figure.Figure.TheVariants as figures
use Rattle.apt_defs.specs.Figures.{Table, AreFigures, figure_named, defined, as_place, as_surface, as_line, as_circle, point_named, surface_named, line_named, circle_named}
use Rattle.apt_defs.specs.Forms.{is_within, within, point_at, coordinate, length_by, height_by, point_by, in_case, a_point, a_line, a_circle, both_meetings, meetings, is_further, is_preferred, picked, line_between, line_through, point_xy, point_lines, point_pick, centre_point, line_xy, line_points, line_parallel, line_perpendicular, line_at, line_tangent, line_two, circle_xyr, circle_points, circle_radius, circle_tangent, circle_by_point, circle_corner}
use Rattle.apt_defs.specs.Drawn.{IsPointOf, IsLineOf, IsCircleOf, IsAt, IsHeight, IsWritten, IsOnBoth, IsOfLine, IsOfCircles, IsMeeting, ComesFirst, LiesPast, IsChosen, RunsTo, RunsToAt, IsParallel, IsSquare, IsParallelAt, RunsBy, IsTangentFrom, IsTangentOf, IsAbout, IsAboutAt, IsAlong, IsAboutThrough, IsInCorner, OfPoint, OfSurface, OfLine, OfCircle, IsPlaceOf, IsSurfaceOf}
use Rattle.apt_defs.proofs.InRange.{then_in, either_in, point_in, surface_in, line_in, circle_in}

-- ---- one step after another

-- what the first gives is there, and the second holds of it
name_drawn : {A : Type 0} (P : A → Type 0) (Q : A → Figure → Type 0) (r : Result A Case) (f : A → Result Figure Case) → IfOk r P → ((a : A) → P a → IfOk (f a) (Q a))
    → IfOk (r >>= f) (λ x. IsOkAnd r (λ a. Q a x))
name_drawn P Q (Ok a) f is more = more a is
name_drawn P Q (Err e) f is more = tt

-- one fact from another
so : {A E : Type 0} (P Q : A → Type 0) (r : Result A E) → IfOk r P → ((a : A) → P a → Q a) → IfOk r Q
so P Q (Ok a) is more = more a is
so P Q (Err e) is more = tt

point_drawn : (P : Pt → Type 0) (r : Result Pt FormFault) → ((p : Pt) → Ok p ≡ r → P p) → IfOk (in_case r >>= a_point) (IsPointOf P)
point_drawn P (Ok p) more = (refl, more p refl)
point_drawn P (Err e) more = tt

line_drawn : (P : Line → Type 0) (r : Result Line FormFault) → ((l : Line) → Ok l ≡ r → P l) → IfOk (in_case r >>= a_line) (IsLineOf P)
line_drawn P (Ok l) more = more l refl
line_drawn P (Err e) more = tt

circle_drawn : (P : Circ → Type 0) (r : Result Circ FormFault) → ((k : Circ) → Ok k ≡ r → P k) → IfOk (in_case r >>= a_circle) (IsCircleOf P)
circle_drawn P (Ok k) more = more k refl
circle_drawn P (Err e) more = tt

-- ---- names

place_of : (P : Pt → Type 0) (o : Option Figure) → IsOkAnd ((defined o >>= as_place) >>= λ p. Ok p.0) P → IsSomeAnd o (IsPlaceOf P)
place_of P None h = absurd h
place_of P (Some (figures.Point xy z)) h = h
place_of P (Some (figures.Shape s)) h = absurd h
place_of P (Some figures.Scalar) h = absurd h

surface_of : (P : Surface → Type 0) (o : Option Figure) → IsOkAnd (defined o >>= as_surface) P → IsSomeAnd o (IsSurfaceOf P)
surface_of P None h = absurd h
surface_of P (Some (figures.Point xy z)) h = absurd h
surface_of P (Some (figures.Shape s)) h = h
surface_of P (Some figures.Scalar) h = absurd h

line_of : (P : Line → Type 0) (o : Option Figure) → IsOkAnd ((defined o >>= as_surface) >>= as_line) P → IsSomeAnd o (IsLineOf P)
line_of P None h = absurd h
line_of P (Some (figures.Point xy z)) h = absurd h
line_of P (Some (figures.Shape (surfaces.Line l))) h = h
line_of P (Some (figures.Shape (surfaces.Circ k))) h = absurd h
line_of P (Some figures.Scalar) h = absurd h

circle_of_name : (P : Circ → Type 0) (o : Option Figure) → IsOkAnd ((defined o >>= as_surface) >>= as_circle) P → IsSomeAnd o (IsCircleOf P)
circle_of_name P None h = absurd h
circle_of_name P (Some (figures.Point xy z)) h = absurd h
circle_of_name P (Some (figures.Shape (surfaces.Line l))) h = absurd h
circle_of_name P (Some (figures.Shape (surfaces.Circ k))) h = h
circle_of_name P (Some figures.Scalar) h = absurd h

from_point : (Q : Pt → Figure → Type 0) (t : Table) (n : List ℕ) (f : Pt → Result Figure Case) → AreFigures t → ((p : Pt) → IsPoint p → IfOk (f p) (Q p))
    → IfOk (point_named t n >>= f) (λ x. OfPoint t n (λ p. Q p x))
from_point Q t n f are more =
    so (λ x. IsOkAnd (point_named t n) (λ p. Q p x)) (λ x. OfPoint t n (λ p. Q p x)) (point_named t n >>= f) (name_drawn IsPoint Q (point_named t n) f (point_in t n are) more)
    (λ x h. place_of (λ p. Q p x) (figure_named t n) h)

from_surface : (Q : Surface → Figure → Type 0) (t : Table) (n : List ℕ) (f : Surface → Result Figure Case) → AreFigures t → ((s : Surface) → IsSurface s → IfOk (f s) (Q s))
    → IfOk (surface_named t n >>= f) (λ x. OfSurface t n (λ s. Q s x))
from_surface Q t n f are more =
    so (λ x. IsOkAnd (surface_named t n) (λ s. Q s x)) (λ x. OfSurface t n (λ s. Q s x)) (surface_named t n >>= f) (name_drawn IsSurface Q (surface_named t n) f (surface_in t n are) more)
    (λ x h. surface_of (λ s. Q s x) (figure_named t n) h)

from_line : (Q : Line → Figure → Type 0) (t : Table) (n : List ℕ) (f : Line → Result Figure Case) → AreFigures t → ((l : Line) → IsLine l → IfOk (f l) (Q l))
    → IfOk (line_named t n >>= f) (λ x. OfLine t n (λ l. Q l x))
from_line Q t n f are more =
    so (λ x. IsOkAnd (line_named t n) (λ l. Q l x)) (λ x. OfLine t n (λ l. Q l x)) (line_named t n >>= f) (name_drawn IsLine Q (line_named t n) f (line_in t n are) more)
    (λ x h. line_of (λ l. Q l x) (figure_named t n) h)

from_circle : (Q : Circ → Figure → Type 0) (t : Table) (n : List ℕ) (f : Circ → Result Figure Case) → AreFigures t → ((k : Circ) → IsCircle k → IfOk (f k) (Q k))
    → IfOk (circle_named t n >>= f) (λ x. OfCircle t n (λ k. Q k x))
from_circle Q t n f are more =
    so (λ x. IsOkAnd (circle_named t n) (λ k. Q k x)) (λ x. OfCircle t n (λ k. Q k x)) (circle_named t n >>= f) (name_drawn IsCircle Q (circle_named t n) f (circle_in t n are) more)
    (λ x h. circle_of_name (λ k. Q k x) (figure_named t n) h)

-- ---- numbers

-- a number in grid units, within a limit
record IsNumber (units : Units) (v : ℤ) (limit : ℕ) (g : ℤ) : Type 0 where
  pub is : g ≡ grid_units units v
  pub small : unsigned_abs g ≤ limit

within_is : (limit : ℕ) (g : ℤ) (units : Units) (v : ℤ) → g ≡ grid_units units v → IfOk (within limit g) (IsNumber units v limit)
within_is limit g units v e =
    either_in (IsNumber units v limit) (is_within limit g) (Ok g) (Err _) (λ fits. record { is = e; small = grind (arith, nat_tests) }) (λ far. tt)

coordinate_is : (units : Units) (v : ℤ) → IfOk (coordinate units v) (IsNumber units v 50000000)
coordinate_is units v = within_is 50000000 (grid_units units v) units v refl

length_is : (units : Units) (v : ℤ) → IfOk (length_by units v) (IsNumber units v (10 ^ 8))
length_is units v = within_is (10 ^ 8) (grid_units units v) units v refl

height_is : (units : Units) (z : Option ℤ) → IfOk (height_by units z) (IsHeight units z)
height_is units None = refl
height_is units (Some z) = so (IsNumber units z 50000000) (IsHeight units (Some z)) (coordinate units z) (coordinate_is units z) (λ h n. n.is)

point_by_is : (units : Units) (x y : ℤ) → IfOk (point_by units x y) (IsAt units x y)
point_by_is units x y =
    then_in (IsNumber units x 50000000) (IsAt units x y) (coordinate units x) (λ gx. coordinate units y >>= λ gy. Ok (point_at gx gy)) (coordinate_is units x)
    (λ gx is_x. then_in (IsNumber units y 50000000) (IsAt units x y) (coordinate units y) (λ gy. Ok (point_at gx gy)) (coordinate_is units y)
    (λ gy is_y. record { x = is_x.is; y = is_y.is }))

-- ---- POINT

pub point_xy_drawn : (units : Units) (x y : ℤ) (z : Option ℤ) → IfOk (point_xy units x y z) (IsWritten units x y z)
point_xy_drawn units x y z =
    then_in (IsAt units x y) (IsWritten units x y z) (point_by units x y) (λ p. height_by units z >>= λ h. Ok (figures.Point p h)) (point_by_is units x y)
    (λ p at. then_in (IsHeight units z) (IsWritten units x y z) (height_by units z) (λ h. Ok (figures.Point p h)) (height_is units z) (λ h up. (at, up)))

none_small : unsigned_abs (pos 0) ≤ 10 ^ 8
none_small = omega (arith, ints)

pub point_lines_drawn : (t : Table) (a b : List ℕ) → AreFigures t → IfOk (point_lines t a b) (λ f. OfLine t a (λ l. OfLine t b (λ m. IsPointOf (IsOnBoth l m) f)))
point_lines_drawn t a b are =
    from_line (λ l f. OfLine t b (λ m. IsPointOf (IsOnBoth l m) f)) t a (λ l. line_named t b >>= λ m. in_case (line_line l (pos 0) m (pos 0)) >>= a_point) are
    (λ l is_l. from_line (λ m. IsPointOf (IsOnBoth l m)) t b (λ m. in_case (line_line l (pos 0) m (pos 0)) >>= a_point) are
    (λ m is_m. point_drawn (IsOnBoth l m) (line_line l (pos 0) m (pos 0)) (λ p e. record {
      first = answer_on_a (Ok p) l m (pos 0) (pos 0) is_l is_m none_small none_small e;
      second = answer_on_b (Ok p) l m (pos 0) (pos 0) is_l is_m none_small none_small e;
    })))

-- both points in which curves meet
formed_is : (P : Pt → Type 0) (r : Result Pt FormFault) → ((p : Pt) → Ok p ≡ r → P p) → IfOk (in_case r) P
formed_is P (Ok p) more = more p refl
formed_is P (Err e) more = tt

both_are : (P : ℤ → Pt → Type 0) (meeting : ℤ → Result Pt FormFault) → ((sigma : ℤ) → IsSense sigma → (p : Pt) → Ok p ≡ meeting sigma → P sigma p)
    → IfOk (both_meetings meeting) (λ m. P (pos 1) m.0 × P (negsuc 0) m.1)
both_are P meeting each_is =
    let Q : Pt × Pt → Type 0 = λ m. P (pos 1) m.0 × P (negsuc 0) m.1 in
    then_in (P (pos 1)) Q (in_case (meeting (pos 1))) (λ p. in_case (meeting (negsuc 0)) >>= λ q. Ok (p, q)) (formed_is (P (pos 1)) (meeting (pos 1)) (each_is (pos 1) (inl refl)))
    (λ p is_p. then_in (P (negsuc 0)) Q (in_case (meeting (negsuc 0))) (λ q. Ok (p, q)) (formed_is (P (negsuc 0)) (meeting (negsuc 0)) (each_is (negsuc 0) (inr refl)))
    (λ q is_q. (is_p, is_q)))

round : (c : Circ) → IsCircle c → IsRound c
round c is = record { centre = is.centre; least = omega (arith, ints, is.least); most = omega (arith, ints, is.least, is.x) }

unmoved : (l : Line) → IsLine l → IsMoved (record { line = l; off = pos 0 })
unmoved l is = record { line = is; off = none_small }

of_line : (l : Line) (c : Circ) → IsLine l → IsCircle c → (sigma : ℤ) → IsSense sigma → (p : Pt) → Ok p ≡ line_circle l (pos 0) c sigma → IsOfLine l c sigma p
of_line l c is_l is_c sigma sense p e = record {
  on_line = answer_on_line (Ok p) (record { line = l; off = pos 0 }) c sigma (unmoved l is_l) (round c is_c) e;
  on_circle = answer_on_circle (Ok p) (record { line = l; off = pos 0 }) c sigma (unmoved l is_l) (round c is_c) sense e;
  along = answer_further (Ok p) l (pos 0) c sigma is_l sense e;
}

of_circles : (c d : Circ) → IsCircle c → IsCircle d → (sigma : ℤ) → IsSense sigma → (p : Pt) → Ok p ≡ circle_circle c d sigma → IsOfCircles c d sigma p
of_circles c d is_c is_d sigma sense p e = record {
  on_first = answer_on_first (Ok p) c d sigma (round c is_c) (round d is_d) is_c.least is_d.least sense e;
  on_second = answer_on_second (Ok p) c d sigma (round c is_c) (round d is_d) is_c.least is_d.least sense e;
  across = answer_beyond (Ok p) c d sigma is_c.centre is_d.centre sense e;
}

abbrev AreMeetings : Surface → Surface → Pt × Pt → Type 0
AreMeetings s r m = IsMeeting s r (pos 1) m.0 × IsMeeting s r (negsuc 0) m.1

meetings_are : (s r : Surface) → IsSurface s → IsSurface r → IfOk (meetings s r) (AreMeetings s r)
meetings_are (surfaces.Line l) (surfaces.Line m) is_s is_r = tt
meetings_are (surfaces.Line l) (surfaces.Circ c) is_s is_r = both_are (IsOfLine l c) (λ sigma. line_circle l (pos 0) c sigma) (of_line l c is_s is_r)
meetings_are (surfaces.Circ c) (surfaces.Line l) is_s is_r = both_are (IsOfLine l c) (λ sigma. line_circle l (pos 0) c sigma) (of_line l c is_r is_s)
meetings_are (surfaces.Circ c) (surfaces.Circ d) is_s is_r =
    either_in (AreMeetings (surfaces.Circ c) (surfaces.Circ d)) (are_concentric c d) (Err _) (both_meetings (λ sigma. circle_circle c d sigma)) (λ same. tt)
    (λ apart. both_are (IsOfCircles c d) (λ sigma. circle_circle c d sigma) (of_circles c d is_s is_r))

-- the one that a modifier takes
is_less : (a b : ℤ) → int_lt a b ≡ true → a <ℤ b
is_less a b h = grind (arith, ints)

is_no_less : (a b : ℤ) → int_lt a b ≡ false → b ≤ℤ a
is_no_less a b h = grind (arith, ints)

are_same : (a b : ℤ) → b ≤ℤ a → a ≤ℤ b → a ≡ b
are_same a b p q = omega (arith, ints, p, q)

less_at_most : (a b : ℤ) → a <ℤ b → a ≤ℤ b
less_at_most a b h = omega (arith, ints, h)

further_by : (a b c d : ℤ) (x y z : Bool) → int_lt b a ≡ x → int_lt a b ≡ y → int_lt d c ≡ z → (x || (not y && z)) ≡ true → ComesFirst a b c d
further_by a b c d true y z e f g h = inl (is_less b a e)
further_by a b c d false true z e f g h = absurd cc
further_by a b c d false false true e f g h = inr (are_same a b (is_no_less a b f) (is_no_less b a e), less_at_most d c (is_less d c g))
further_by a b c d false false false e f g h = absurd cc

no_further_by : (a b c d : ℤ) (x y z : Bool) → int_lt b a ≡ x → int_lt a b ≡ y → int_lt d c ≡ z → (x || (not y && z)) ≡ false → ComesFirst b a d c
no_further_by a b c d true y z e f g h = absurd cc
no_further_by a b c d false true z e f g h = inl (is_less a b f)
no_further_by a b c d false false true e f g h = absurd cc
no_further_by a b c d false false false e f g h = inr (are_same b a (is_no_less b a e) (is_no_less a b f), is_no_less d c g)

further : (a b c d : ℤ) → is_further a b c d ≡ true → ComesFirst a b c d
further a b c d h = further_by a b c d (int_lt b a) (int_lt a b) (int_lt d c) refl refl refl h

no_further : (a b c d : ℤ) → is_further a b c d ≡ false → ComesFirst b a d c
no_further a b c d h = no_further_by a b c d (int_lt b a) (int_lt a b) (int_lt d c) refl refl refl h

preferred : (pick : Pick) (p q : Pt) → is_preferred pick p q ≡ true → LiesPast pick p q
preferred picks.XLarge p q h = further p.x q.x p.y q.y h
preferred picks.XSmall p q h = further q.x p.x q.y p.y h
preferred picks.YLarge p q h = further p.y q.y p.x q.x h
preferred picks.YSmall p q h = further q.y p.y q.x p.x h

not_preferred : (pick : Pick) (p q : Pt) → is_preferred pick q p ≡ false → LiesPast pick p q
not_preferred picks.XLarge p q h = no_further q.x p.x q.y p.y h
not_preferred picks.XSmall p q h = no_further p.x q.x p.y q.y h
not_preferred picks.YLarge p q h = no_further q.y p.y q.x p.x h
not_preferred picks.YSmall p q h = no_further p.y q.y p.x q.x h

-- no further than itself
equal : (a b : ℤ) → ComesFirst a a b b
equal a b = inr (refl, omega (arith, ints))

as_far : (pick : Pick) (p : Pt) → LiesPast pick p p
as_far picks.XLarge p = equal p.x p.y
as_far picks.XSmall p = equal p.x p.y
as_far picks.YLarge p = equal p.y p.x
as_far picks.YSmall p = equal p.y p.x

chosen_by : (s r : Surface) (pick : Pick) (p q : Pt) (b : Bool) → IsMeeting s r (pos 1) p → IsMeeting s r (negsuc 0) q → is_preferred pick q p ≡ b
    → IsChosen s r pick (if b then q else p)
chosen_by s r pick p q true is_p is_q e = record {
  ahead = p;
  back = q;
  is_ahead = is_p;
  is_back = is_q;
  is_one = inr refl;
  past_ahead = preferred pick q p e;
  past_back = as_far pick q;
}
chosen_by s r pick p q false is_p is_q e = record {
  ahead = p;
  back = q;
  is_ahead = is_p;
  is_back = is_q;
  is_one = inl refl;
  past_ahead = as_far pick p;
  past_back = not_preferred pick p q e;
}

pub point_pick_drawn : (t : Table) (pick : Pick) (a b : List ℕ) → AreFigures t
    → IfOk (point_pick t pick a b) (λ f. OfSurface t a (λ s. OfSurface t b (λ r. IsPointOf (IsChosen s r pick) f)))
point_pick_drawn t pick a b are =
    from_surface (λ s f. OfSurface t b (λ r. IsPointOf (IsChosen s r pick) f)) t a (λ s. surface_named t b >>= λ r. meetings s r >>= λ m. a_point (picked pick m.0 m.1)) are
    (λ s is_s. from_surface (λ r. IsPointOf (IsChosen s r pick)) t b (λ r. meetings s r >>= λ m. a_point (picked pick m.0 m.1)) are
    (λ r is_r. then_in (AreMeetings s r) (IsPointOf (IsChosen s r pick)) (meetings s r) (λ m. a_point (picked pick m.0 m.1)) (meetings_are s r is_s is_r)
    (λ m is. (refl, chosen_by s r pick m.0 m.1 (is_preferred pick m.1 m.0) is.0 is.1 refl))))

pub centre_point_drawn : (t : Table) (c : List ℕ) → AreFigures t → IfOk (centre_point t c) (λ f. OfCircle t c (λ k. IsPointOf (λ p. p ≡ k.c) f))
centre_point_drawn t c are = from_circle (λ k. IsPointOf (λ p. p ≡ k.c)) t c (λ k. a_point k.c) are (λ k is. (refl, refl))

-- ---- LINE

back : (x y : ℤ) → x +ℤ (y -ℤ x) ≡ y
back x y = omega (arith, ints)

leads : (p q : Pt) → from p (displacement p q) ≡ q
leads p q = rw (back p.x q.x, back p.y q.y) refl

through_drawn : (P : Line → Type 0) (p q : Pt) → P (line_between p q) → IfOk (line_through p q) (IsLineOf P)
through_drawn P p q is = either_in (IsLineOf P) (length_squared (displacement p q) == 0) (Err _) (a_line (line_between p q)) (λ same. tt) (λ apart. is)

runs_to : (p q : Pt) → RunsTo p q (line_between p q)
runs_to p q = record { base = refl; to = leads p q }

pub line_xy_drawn : (units : Units) (x y u v : ℤ) → IfOk (line_xy units x y u v) (IsLineOf (RunsToAt units x y u v))
line_xy_drawn units x y u v =
    then_in (IsAt units x y) (IsLineOf (RunsToAt units x y u v)) (point_by units x y) (λ p. point_by units u v >>= λ q. line_through p q) (point_by_is units x y)
    (λ p at_p. then_in (IsAt units u v) (IsLineOf (RunsToAt units x y u v)) (point_by units u v) (λ q. line_through p q) (point_by_is units u v)
    (λ q at_q. through_drawn (RunsToAt units x y u v) p q (record { base = at_p; to = rw (leads p q) at_q })))

pub line_points_drawn : (t : Table) (a b : List ℕ) → AreFigures t → IfOk (line_points t a b) (λ f. OfPoint t a (λ p. OfPoint t b (λ q. IsLineOf (RunsTo p q) f)))
line_points_drawn t a b are =
    from_point (λ p f. OfPoint t b (λ q. IsLineOf (RunsTo p q) f)) t a (λ p. point_named t b >>= λ q. line_through p q) are
    (λ p is_p. from_point (λ q. IsLineOf (RunsTo p q)) t b (λ q. line_through p q) are (λ q is_q. through_drawn (RunsTo p q) p q (runs_to p q)))

pub line_parallel_drawn : (t : Table) (a b : List ℕ) → AreFigures t → IfOk (line_parallel t a b) (λ f. OfPoint t a (λ p. OfLine t b (λ m. IsLineOf (IsParallel p m) f)))
line_parallel_drawn t a b are =
    from_point (λ p f. OfLine t b (λ m. IsLineOf (IsParallel p m) f)) t a (λ p. line_named t b >>= λ m. a_line (record { base = p; dir = m.dir })) are
    (λ p is_p. from_line (λ m. IsLineOf (IsParallel p m)) t b (λ m. a_line (record { base = p; dir = m.dir })) are (λ m is_m. record { base = refl; dir = refl }))

square_parts : (x y : ℤ) → (x *ℤ neg_ℤ y) +ℤ (y *ℤ x) ≡ pos 0
square_parts x y = rw (as_diff x, as_diff y, diff-pos 0) (simp differences (diff-same _ _ _ _ (omega arith)))

turned : (p : Pt) (m : Line) → IsDir m.dir → IsSquare p m (record { base = p; dir = perp m.dir })
turned p m is = record {
  base = refl;
  square = square_parts m.dir.dx m.dir.dy;
  left = rw (cross_perp_self m.dir) (omega (arith, ints, is.length));
  length = rw (size_neg m.dir.dy) (omega arith);
}

pub line_perpendicular_drawn : (t : Table) (a b : List ℕ) → AreFigures t → IfOk (line_perpendicular t a b) (λ f. OfPoint t a (λ p. OfLine t b (λ m. IsLineOf (IsSquare p m) f)))
line_perpendicular_drawn t a b are =
    from_point (λ p f. OfLine t b (λ m. IsLineOf (IsSquare p m) f)) t a (λ p. line_named t b >>= λ m. a_line (record { base = p; dir = perp m.dir })) are
    (λ p is_p. from_line (λ m. IsLineOf (IsSquare p m)) t b (λ m. a_line (record { base = p; dir = perp m.dir })) are (λ m is_m. turned p m is_m.dir))

-- a parallel lies on the side that its modifier names
beside : (s : Sign) (m l : Line) (d : ℤ) (below : Bool) (f : ℤ → Result Line FormFault) → IfOk (offset_picked s d) (λ h. IsNearLine m h (pos 1) l.base)
    → Ok l ≡ (if below then Err faults.Degenerate else (offset_picked s d >>= f)) → IsBeside s m d l.base
beside signs.Plus m l d below f near e = near
beside signs.Zero m l d true f near e = absurd cc
beside signs.Zero m l d false f near e = absurd cc
beside signs.Minus m l d below f near e = near

parallel_is : (m : Line) (pick : Pick) (d : ℤ) (l : Line) → IsLine m → unsigned_abs d ≤ 10 ^ 8 → Ok l ≡ parallel_at m pick d → IsParallelAt m pick d l
parallel_is m pick d l is small e = record {
  dir = answer_same_dir (Ok l) m pick d e;
  beside = beside (side_picked m pick) m l d (int_lt d (pos 0)) (λ h. in_range (parallel_point m h) >>= based_on m.dir) (parallel_on_line (Ok l) m pick d is small e) e;
  away = answer_away (Ok l) m pick d is small e;
  side = answer_beside (Ok l) m pick d is small e;
}

pub line_at_drawn : (units : Units) (t : Table) (a : List ℕ) (pick : Pick) (v : ℤ) → AreFigures t
    → IfOk (line_at units t a pick v) (λ f. OfLine t a (λ m. IsLineOf (IsParallelAt m pick (grid_units units v)) f))
line_at_drawn units t a pick v are =
    from_line (λ m. IsLineOf (IsParallelAt m pick (grid_units units v))) t a (λ m. length_by units v >>= λ d. in_case (parallel_at m pick d) >>= a_line) are
    (λ m is. then_in (IsNumber units v (10 ^ 8)) (IsLineOf (IsParallelAt m pick (grid_units units v))) (length_by units v) (λ d. in_case (parallel_at m pick d) >>= a_line) (length_is units v)
    (λ d n. line_drawn (IsParallelAt m pick (grid_units units v)) (parallel_at m pick d) (λ l e. rw (← n.is) (parallel_is m pick d l is n.small e))))

-- the circle is on the right of a line that passes it on the left
by_left : (r : ℤ) → neg_ℤ (pos 1 *ℤ r) ≡ neg_ℤ r
by_left r = omega (arith, ints)

by_right : (r : ℤ) → neg_ℤ (neg_ℤ (pos 1) *ℤ r) ≡ r
by_right r = omega (arith, ints)

runs_by : (left : Bool) (c : Circ) (l : Line) → IsNearLine l (neg_ℤ (side_of_circle left *ℤ c.r)) (pos 2) c.c → RunsBy left c l
runs_by true c l near = rw (by_left c.r) at near
runs_by false c l near = rw (by_right c.r) at near

pub line_tangent_drawn : (t : Table) (a : List ℕ) (left : Bool) (b : List ℕ) → AreFigures t
    → IfOk (line_tangent t a left b) (λ f. OfPoint t a (λ p. OfCircle t b (λ c. IsLineOf (IsTangentFrom p left c) f)))
line_tangent_drawn t a left b are =
    from_point (λ p f. OfCircle t b (λ c. IsLineOf (IsTangentFrom p left c) f)) t a (λ p. circle_named t b >>= λ c. in_case (tangent_from p left c) >>= a_line) are
    (λ p is_p. from_circle (λ c. IsLineOf (IsTangentFrom p left c)) t b (λ c. in_case (tangent_from p left c) >>= a_line) are
    (λ c is_c. line_drawn (IsTangentFrom p left c) (tangent_from p left c) (λ l e. record {
      base = from_base (Ok l) p left c e;
      tangent = record { touches = runs_by left c l (from_touches (Ok l) p left c is_p is_c e); side = from_side (Ok l) p left c is_p is_c e };
      onwards = from_onwards (Ok l) p left c is_p is_c e;
    })))

pub line_two_drawn : (t : Table) (left_c : Bool) (a : List ℕ) (left_d : Bool) (b : List ℕ) → AreFigures t
    → IfOk (line_two t left_c a left_d b) (λ f. OfCircle t a (λ c. OfCircle t b (λ d. IsLineOf (IsTangentOf c left_c d left_d) f)))
line_two_drawn t left_c a left_d b are =
    from_circle (λ c f. OfCircle t b (λ d. IsLineOf (IsTangentOf c left_c d left_d) f)) t a (λ c. circle_named t b >>= λ d. in_case (tangent_two c left_c d left_d) >>= a_line) are
    (λ c is_c. from_circle (λ d. IsLineOf (IsTangentOf c left_c d left_d)) t b (λ d. in_case (tangent_two c left_c d left_d) >>= a_line) are
    (λ d is_d. line_drawn (IsTangentOf c left_c d left_d) (tangent_two c left_c d left_d) (λ l e. record {
      base = two_base (Ok l) c left_c d left_d is_c is_d e;
      first = record { touches = runs_by left_c c l (two_touches_first (Ok l) c left_c d left_d is_c is_d e); side = two_side_first (Ok l) c left_c d left_d is_c is_d e };
      second = record { touches = runs_by left_d d l (two_touches_second (Ok l) c left_c d left_d is_c is_d e); side = two_side_second (Ok l) c left_c d left_d is_c is_d e };
      onwards = two_onwards (Ok l) c left_c d left_d is_c is_d e;
    })))

-- ---- CIRCLE

about : (c : Pt) (r : ℤ) → IfOk (circle_of c r) (IsAbout c r)
about c r =
    either_in (IsAbout c r) (is_too_small r) (Err faults.Degenerate) (if is_too_large c r then Err faults.TooLarge else Ok (circle c r)) (λ small. tt)
    (λ least. either_in (IsAbout c r) (is_too_large c r) (Err faults.TooLarge) (Ok (circle c r)) (λ large. tt) (λ fits. record { centre = refl; radius = refl }))

about_is : (c : Pt) (r : ℤ) (k : Circ) → Ok k ≡ circle_of c r → IsAbout c r k
about_is c r k e =
    let is : IfOk (circle_of c r) (IsAbout c r) = about c r in
    rw (← e) at is

pub circle_xyr_drawn : (units : Units) (x y r : ℤ) → IfOk (circle_xyr units x y r) (IsCircleOf (IsAboutAt units x y r))
circle_xyr_drawn units x y r =
    then_in (IsAt units x y) (IsCircleOf (IsAboutAt units x y r)) (point_by units x y) (λ c. length_by units r >>= λ g. in_case (circle_of c g) >>= a_circle) (point_by_is units x y)
    (λ c at. then_in (IsNumber units r (10 ^ 8)) (IsCircleOf (IsAboutAt units x y r)) (length_by units r) (λ g. in_case (circle_of c g) >>= a_circle) (length_is units r)
    (λ g n. circle_drawn (IsAboutAt units x y r) (circle_of c g) (λ k e.
    let is = about_is c g k e in
    record { centre = rw is.centre at; radius = is.radius ∙ n.is })))

pub circle_radius_drawn : (units : Units) (t : Table) (a : List ℕ) (r : ℤ) → AreFigures t
    → IfOk (circle_radius units t a r) (λ f. OfPoint t a (λ p. IsCircleOf (IsAbout p (grid_units units r)) f))
circle_radius_drawn units t a r are =
    from_point (λ p. IsCircleOf (IsAbout p (grid_units units r))) t a (λ p. length_by units r >>= λ g. in_case (circle_of p g) >>= a_circle) are
    (λ p is_p. then_in (IsNumber units r (10 ^ 8)) (IsCircleOf (IsAbout p (grid_units units r))) (length_by units r) (λ g. in_case (circle_of p g) >>= a_circle) (length_is units r)
    (λ g n. circle_drawn (IsAbout p (grid_units units r)) (circle_of p g) (λ k e. rw (← n.is) (about_is p g k e))))

pub circle_points_drawn : (t : Table) (a b c : List ℕ) → AreFigures t
    → IfOk (circle_points t a b c) (λ f. OfPoint t a (λ p. OfPoint t b (λ q. OfPoint t c (λ r. IsCircleOf (IsThrough p q r) f))))
circle_points_drawn t a b c are =
    from_point (λ p f. OfPoint t b (λ q. OfPoint t c (λ r. IsCircleOf (IsThrough p q r) f))) t a
    (λ p. point_named t b >>= λ q. point_named t c >>= λ r. in_case (circle_three p q r) >>= a_circle) are
    (λ p is_p. from_point (λ q f. OfPoint t c (λ r. IsCircleOf (IsThrough p q r) f)) t b (λ q. point_named t c >>= λ r. in_case (circle_three p q r) >>= a_circle) are
    (λ q is_q. from_point (λ r. IsCircleOf (IsThrough p q r)) t c (λ r. in_case (circle_three p q r) >>= a_circle) are
    (λ r is_r. circle_drawn (IsThrough p q r) (circle_three p q r) (λ k e. three_through (Ok k) p q r is_p e))))

pub circle_tangent_drawn : (t : Table) (a b : List ℕ) → AreFigures t → IfOk (circle_tangent t a b) (λ f. OfPoint t a (λ p. OfLine t b (λ l. IsCircleOf (IsAlong p l) f)))
circle_tangent_drawn t a b are =
    from_point (λ p f. OfLine t b (λ l. IsCircleOf (IsAlong p l) f)) t a (λ p. line_named t b >>= λ l. in_case (circle_touching p l) >>= a_circle) are
    (λ p is_p. from_line (λ l. IsCircleOf (IsAlong p l)) t b (λ l. in_case (circle_touching p l) >>= a_circle) are
    (λ l is_l. circle_drawn (IsAlong p l) (circle_touching p l) (λ k e. record {
      centre = of_centre (Ok k) p (distance_from_line p l) e;
      touches = of_touching (Ok k) p l is_p is_l e;
    })))

pub circle_by_point_drawn : (t : Table) (a b : List ℕ) → AreFigures t
    → IfOk (circle_by_point t a b) (λ f. OfPoint t a (λ p. OfPoint t b (λ q. IsCircleOf (IsAboutThrough p q) f)))
circle_by_point_drawn t a b are =
    from_point (λ p f. OfPoint t b (λ q. IsCircleOf (IsAboutThrough p q) f)) t a (λ p. point_named t b >>= λ q. in_case (circle_through p q) >>= a_circle) are
    (λ p is_p. from_point (λ q. IsCircleOf (IsAboutThrough p q)) t b (λ q. in_case (circle_through p q) >>= a_circle) are
    (λ q is_q. circle_drawn (IsAboutThrough p q) (circle_through p q) (λ k e. record {
      centre = of_centre (Ok k) p (about_through p q).r e;
      through = of_through (Ok k) p q is_p is_q e;
    })))

in_corner : (l : Line) (pick_l : Pick) (m : Line) (pick_m : Pick) (r : ℤ) (k : Circ) → IsLine l → IsLine m → unsigned_abs r ≤ 10 ^ 8 → Ok k ≡ corner l pick_l m pick_m r
    → IsInCorner l pick_l m pick_m r k
in_corner l pick_l m pick_m r k is_l is_m small e =
    let touch = in_touches (Ok k) l m pick_l pick_m r is_l is_m small e in
    let sides = in_sides (Ok k) l m pick_l pick_m r is_l is_m small e in
    record { radius = in_radius (Ok k) l m pick_l pick_m r e; first = touch.0; second = touch.1; side_first = sides.0; side_second = sides.1 }

pub circle_corner_drawn : (units : Units) (t : Table) (pick_a : Pick) (a : List ℕ) (pick_b : Pick) (b : List ℕ) (r : ℤ) → AreFigures t
    → IfOk (circle_corner units t pick_a a pick_b b r) (λ f. OfLine t a (λ l. OfLine t b (λ m. IsCircleOf (IsInCorner l pick_a m pick_b (grid_units units r)) f)))
circle_corner_drawn units t pick_a a pick_b b r are =
    let d = grid_units units r in
    from_line (λ l f. OfLine t b (λ m. IsCircleOf (IsInCorner l pick_a m pick_b d) f)) t a (λ l. line_named t b >>= λ m. length_by units r >>= λ g. in_case (corner l pick_a m pick_b g) >>= a_circle) are
    (λ l is_l. from_line (λ m. IsCircleOf (IsInCorner l pick_a m pick_b d)) t b (λ m. length_by units r >>= λ g. in_case (corner l pick_a m pick_b g) >>= a_circle) are
    (λ m is_m. then_in (IsNumber units r (10 ^ 8)) (IsCircleOf (IsInCorner l pick_a m pick_b d)) (length_by units r) (λ g. in_case (corner l pick_a m pick_b g) >>= a_circle) (length_is units r)
    (λ g n. circle_drawn (IsInCorner l pick_a m pick_b d) (corner l pick_a m pick_b g) (λ k e. rw (← n.is) (in_corner l pick_a m pick_b g k is_l is_m n.small e)))))
