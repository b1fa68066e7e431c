-- The first name that has a case refuses a definition, and a number that leaves its limit where no name has one.
use Rattle.std.proofs.Common.{◌≡◌, ◌∙◌, refl, ap, ℕ, ℤ, pos, unsigned_abs, nat_lt, Bool, true, false, List, [], ◌∷◌, Option, Some, None, Result, Ok, Err, arith}
use Rattle.std.specs.Prelude.{◌||◌, if◌then◌else◌}
use Rattle.std.specs.Option.{option_or}
use Rattle.std.proofs.lemmas.Bool.Decides.{nat_tests}
use Rattle.apt_words.specs.Chains.{◌>>=◌}
use Rattle.apt_words.specs.declared.Case.{Case}
use Rattle.apt_words.specs.declared.Case.TheVariants as cases
use Rattle.apt_words.specs.declared.Pick.{Pick}
use Rattle.apt_words.specs.declared.Units.{Units}
use Rattle.apt_scalar.specs.Scalars.{grid_units}
use Rattle.apt_plane.specs.declared.figures.Pt.{Pt}
use Rattle.apt_plane.specs.declared.figures.Surface.TheVariants as surfaces
use Rattle.apt_plane.specs.Vectors.{perp}
use Rattle.apt_canon.specs.Meeting.{line_line}
use Rattle.apt_canon.specs.Feet.{parallel_at}
use Rattle.apt_canon.specs.Tangents.{tangent_from, tangent_two}
use Rattle.apt_canon.specs.Rounds.{circle_of, circle_through, circle_touching, circle_three, corner}
use Rattle.apt_defs.specs.declared.figure.Figure.{Figure}
use Rattle.apt_defs.specs.declared.figure.Figure.TheVariants as figures
use Rattle.apt_defs.specs.Figures.{Table, figure_named, defined, as_place, as_surface, as_line, as_circle, point_named, surface_named, line_named, circle_named}
use Rattle.apt_defs.specs.Forms.{is_within, within, coordinate, length_by, height_by, point_at, point_by, in_case, a_point, a_line, a_circle, meetings, picked, line_through, point_xy, point_lines, point_pick, centre_point, line_xy, line_points, line_parallel, line_perpendicular, line_at, line_tangent, line_two, circle_xyr, circle_points, circle_radius, circle_tangent, circle_by_point, circle_corner}
use Rattle.apt_defs.specs.Names as names
use Rattle.apt_defs.specs.Names.{APoint, ALine, ACircle, ASurface, kind_case, name_case, first_case, is_far, is_too_long, is_too_high}

-- ---- a name

-- the case that refuses
abbrev refusal : {A : Type 0} → Result A Case → Option Case
refusal (Ok a) = None
refusal (Err c) = Some c

as_point_case : (o : Option Figure) → refusal ((defined o >>= as_place) >>= λ p. Ok p.0) ≡ kind_case APoint o
as_point_case None = refl
as_point_case (Some (figures.Point xy z)) = refl
as_point_case (Some (figures.Shape s)) = refl
as_point_case (Some figures.Scalar) = refl

as_surface_case : (o : Option Figure) → refusal (defined o >>= as_surface) ≡ kind_case ASurface o
as_surface_case None = refl
as_surface_case (Some (figures.Point xy z)) = refl
as_surface_case (Some (figures.Shape s)) = refl
as_surface_case (Some figures.Scalar) = refl

as_line_case : (o : Option Figure) → refusal ((defined o >>= as_surface) >>= as_line) ≡ kind_case ALine o
as_line_case None = refl
as_line_case (Some (figures.Point xy z)) = refl
as_line_case (Some (figures.Shape (surfaces.Line l))) = refl
as_line_case (Some (figures.Shape (surfaces.Circ c))) = refl
as_line_case (Some figures.Scalar) = refl

as_circle_case : (o : Option Figure) → refusal ((defined o >>= as_surface) >>= as_circle) ≡ kind_case ACircle o
as_circle_case None = refl
as_circle_case (Some (figures.Point xy z)) = refl
as_circle_case (Some (figures.Shape (surfaces.Line l))) = refl
as_circle_case (Some (figures.Shape (surfaces.Circ c))) = refl
as_circle_case (Some figures.Scalar) = refl

pub point_case : (t : Table) (n : List ℕ) → refusal (point_named t n) ≡ name_case t (names.a_point n)
point_case t n = as_point_case (figure_named t n)

pub surface_case : (t : Table) (n : List ℕ) → refusal (surface_named t n) ≡ name_case t (names.a_surface n)
surface_case t n = as_surface_case (figure_named t n)

pub line_case : (t : Table) (n : List ℕ) → refusal (line_named t n) ≡ name_case t (names.a_line n)
line_case t n = as_line_case (figure_named t n)

pub circle_case : (t : Table) (n : List ℕ) → refusal (circle_named t n) ≡ name_case t (names.a_circle n)
circle_case t n = as_circle_case (figure_named t n)

-- ---- names in their order

same_case : (c d : Case) → Some c ≡ Some d → c ≡ d
same_case c d e = cc

name_first : {A B : Type 0} (r : Result A Case) (f : A → Result B Case) (o rest : Option Case) (c : Case) → refusal r ≡ o → option_or o rest ≡ Some c
    → ((a : A) → rest ≡ Some c → f a ≡ Err c) → (r >>= f) ≡ Err c
name_first (Ok a) f o rest c e h more = more a (rw (← e) at h)
name_first (Err d) f o rest c e h more = ap (λ x. Err x) (same_case d c (rw (← e) at h))

pub one_name : {A B : Type 0} (r : Result A Case) (f : A → Result B Case) (o : Option Case) (c : Case) → refusal r ≡ o → option_or o None ≡ Some c → (r >>= f) ≡ Err c
one_name r f o c e h = name_first r f o None c e h (λ a none. absurd cc)

pub two_names : {A B D : Type 0} (r : Result A Case) (q : Result B Case) (f : A → B → Result D Case) (o p : Option Case) (c : Case) → refusal r ≡ o → refusal q ≡ p
    → option_or o (option_or p None) ≡ Some c → (r >>= λ a. q >>= λ b. f a b) ≡ Err c
two_names r q f o p c e g h = name_first r (λ a. q >>= λ b. f a b) o (option_or p None) c e h (λ a rest. one_name q (f a) p c g rest)

pub three_names : {A B D E : Type 0} (r : Result A Case) (q : Result B Case) (s : Result D Case) (f : A → B → D → Result E Case) (o p m : Option Case) (c : Case)
    → refusal r ≡ o → refusal q ≡ p → refusal s ≡ m → option_or o (option_or p (option_or m None)) ≡ Some c → (r >>= λ a. q >>= λ b. s >>= λ d. f a b d) ≡ Err c
three_names r q s f o p m c e g i h =
    name_first r (λ a. q >>= λ b. s >>= λ d. f a b d) o (option_or p (option_or m None)) c e h (λ a rest. two_names q s (f a) p m c g i rest)

-- ---- numbers

-- a number refuses where it leaves its limit, and lets the next ones refuse where it does not
far_by : {A : Type 0} (limit : ℕ) (g : ℤ) (f : ℤ → Result A Case) (rest fits : Bool) → is_within limit g ≡ fits → (nat_lt limit (unsigned_abs g) || rest) ≡ true
    → (rest ≡ true → f g ≡ Err cases.OutOfRange) → ((if fits then Ok g else Err cases.OutOfRange) >>= f) ≡ Err cases.OutOfRange
far_by limit g f rest true e h more =
    let near : nat_lt limit (unsigned_abs g) ≡ false = grind (arith, nat_tests) in
    more (rw near at h)
far_by limit g f rest false e h more = refl

pub far_first : {A : Type 0} (limit : ℕ) (g : ℤ) (f : ℤ → Result A Case) (rest : Bool) → (nat_lt limit (unsigned_abs g) || rest) ≡ true
    → (rest ≡ true → f g ≡ Err cases.OutOfRange) → (within limit g >>= f) ≡ Err cases.OutOfRange
far_first limit g f rest h more = far_by limit g f rest (is_within limit g) refl h more

or_false : (b : Bool) → (b || false) ≡ b
or_false true = refl
or_false false = refl

or_none : (b : Bool) → b ≡ true → (b || false) ≡ true
or_none b h = or_false b ∙ h

pub far_alone : {A : Type 0} (limit : ℕ) (g : ℤ) (f : ℤ → Result A Case) → nat_lt limit (unsigned_abs g) ≡ true → (within limit g >>= f) ≡ Err cases.OutOfRange
far_alone limit g f h = far_first limit g f false (or_none (nat_lt limit (unsigned_abs g)) h) (λ no. absurd cc)

-- one step after two is two steps after one
pub regroup : {A B D : Type 0} (r : Result A Case) (f : A → Result B Case) (g : B → Result D Case) → ((r >>= f) >>= g) ≡ (r >>= λ a. f a >>= g)
regroup (Ok a) f g = refl
regroup (Err c) f g = refl

-- a name without a case lets the numbers refuse
pub name_passes : {A B : Type 0} (r : Result A Case) (f : A → Result B Case) (o : Option Case) (c : Case) → refusal r ≡ o → o ≡ None → ((a : A) → f a ≡ Err c) → (r >>= f) ≡ Err c
name_passes (Ok a) f o c e none more = more a
name_passes (Err d) f o c e none more = absurd cc

pub first_none : (o rest : Option Case) → option_or o rest ≡ None → (o ≡ None) × (rest ≡ None)
first_none None rest h = (refl, h)
first_none (Some c) rest h = absurd cc

-- ---- each form: its names

pub point_lines_names : (t : Table) (a b : List ℕ) (c : Case) → first_case t (names.a_line a ∷ names.a_line b ∷ []) ≡ Some c → point_lines t a b ≡ Err c
point_lines_names t a b c h =
    two_names (line_named t a) (line_named t b) (λ l m. in_case (line_line l (pos 0) m (pos 0)) >>= a_point) (name_case t (names.a_line a)) (name_case t (names.a_line b)) c (line_case t a) (line_case t b) h

pub point_pick_names : (t : Table) (pick : Pick) (a b : List ℕ) (c : Case) → first_case t (names.a_surface a ∷ names.a_surface b ∷ []) ≡ Some c → point_pick t pick a b ≡ Err c
point_pick_names t pick a b c h =
    two_names (surface_named t a) (surface_named t b) (λ s r. meetings s r >>= λ m. a_point (picked pick m.0 m.1)) (name_case t (names.a_surface a)) (name_case t (names.a_surface b)) c (surface_case t a) (surface_case t b) h

pub centre_point_names : (t : Table) (a : List ℕ) (c : Case) → first_case t (names.a_circle a ∷ []) ≡ Some c → centre_point t a ≡ Err c
centre_point_names t a c h = one_name (circle_named t a) (λ k. a_point k.c) (name_case t (names.a_circle a)) c (circle_case t a) h

pub line_points_names : (t : Table) (a b : List ℕ) (c : Case) → first_case t (names.a_point a ∷ names.a_point b ∷ []) ≡ Some c → line_points t a b ≡ Err c
line_points_names t a b c h =
    two_names (point_named t a) (point_named t b) line_through (name_case t (names.a_point a)) (name_case t (names.a_point b)) c (point_case t a) (point_case t b) h

pub line_parallel_names : (t : Table) (a b : List ℕ) (c : Case) → first_case t (names.a_point a ∷ names.a_line b ∷ []) ≡ Some c → line_parallel t a b ≡ Err c
line_parallel_names t a b c h =
    two_names (point_named t a) (line_named t b) (λ p m. a_line (record { base = p; dir = m.dir })) (name_case t (names.a_point a)) (name_case t (names.a_line b)) c (point_case t a) (line_case t b) h

pub line_perpendicular_names : (t : Table) (a b : List ℕ) (c : Case) → first_case t (names.a_point a ∷ names.a_line b ∷ []) ≡ Some c → line_perpendicular t a b ≡ Err c
line_perpendicular_names t a b c h =
    two_names (point_named t a) (line_named t b) (λ p m. a_line (record { base = p; dir = perp m.dir })) (name_case t (names.a_point a)) (name_case t (names.a_line b)) c (point_case t a) (line_case t b) h

pub line_at_names : (units : Units) (t : Table) (a : List ℕ) (pick : Pick) (v : ℤ) (c : Case) → first_case t (names.a_line a ∷ []) ≡ Some c → line_at units t a pick v ≡ Err c
line_at_names units t a pick v c h =
    one_name (line_named t a) (λ m. length_by units v >>= λ d. in_case (parallel_at m pick d) >>= a_line) (name_case t (names.a_line a)) c (line_case t a) h

pub line_tangent_names : (t : Table) (a : List ℕ) (left : Bool) (b : List ℕ) (c : Case) → first_case t (names.a_point a ∷ names.a_circle b ∷ []) ≡ Some c → line_tangent t a left b ≡ Err c
line_tangent_names t a left b c h =
    two_names (point_named t a) (circle_named t b) (λ p k. in_case (tangent_from p left k) >>= a_line) (name_case t (names.a_point a)) (name_case t (names.a_circle b)) c (point_case t a) (circle_case t b) h

pub line_two_names : (t : Table) (left_a : Bool) (a : List ℕ) (left_b : Bool) (b : List ℕ) (c : Case) → first_case t (names.a_circle a ∷ names.a_circle b ∷ []) ≡ Some c → line_two t left_a a left_b b ≡ Err c
line_two_names t left_a a left_b b c h =
    two_names (circle_named t a) (circle_named t b) (λ j k. in_case (tangent_two j left_a k left_b) >>= a_line) (name_case t (names.a_circle a)) (name_case t (names.a_circle b)) c (circle_case t a) (circle_case t b) h

pub circle_points_names : (t : Table) (a b d : List ℕ) (c : Case) → first_case t (names.a_point a ∷ names.a_point b ∷ names.a_point d ∷ []) ≡ Some c → circle_points t a b d ≡ Err c
circle_points_names t a b d c h =
    three_names (point_named t a) (point_named t b) (point_named t d) (λ p q r. in_case (circle_three p q r) >>= a_circle)
    (name_case t (names.a_point a)) (name_case t (names.a_point b)) (name_case t (names.a_point d)) c (point_case t a) (point_case t b) (point_case t d) h

pub circle_radius_names : (units : Units) (t : Table) (a : List ℕ) (r : ℤ) (c : Case) → first_case t (names.a_point a ∷ []) ≡ Some c → circle_radius units t a r ≡ Err c
circle_radius_names units t a r c h =
    one_name (point_named t a) (λ p. length_by units r >>= λ g. in_case (circle_of p g) >>= a_circle) (name_case t (names.a_point a)) c (point_case t a) h

pub circle_tangent_names : (t : Table) (a b : List ℕ) (c : Case) → first_case t (names.a_point a ∷ names.a_line b ∷ []) ≡ Some c → circle_tangent t a b ≡ Err c
circle_tangent_names t a b c h =
    two_names (point_named t a) (line_named t b) (λ p l. in_case (circle_touching p l) >>= a_circle) (name_case t (names.a_point a)) (name_case t (names.a_line b)) c (point_case t a) (line_case t b) h

pub circle_by_point_names : (t : Table) (a b : List ℕ) (c : Case) → first_case t (names.a_point a ∷ names.a_point b ∷ []) ≡ Some c → circle_by_point t a b ≡ Err c
circle_by_point_names t a b c h =
    two_names (point_named t a) (point_named t b) (λ p q. in_case (circle_through p q) >>= a_circle) (name_case t (names.a_point a)) (name_case t (names.a_point b)) c (point_case t a) (point_case t b) h

pub circle_corner_names : (units : Units) (t : Table) (pick_a : Pick) (a : List ℕ) (pick_b : Pick) (b : List ℕ) (r : ℤ) (c : Case) → first_case t (names.a_line a ∷ names.a_line b ∷ []) ≡ Some c
    → circle_corner units t pick_a a pick_b b r ≡ Err c
circle_corner_names units t pick_a a pick_b b r c h =
    two_names (line_named t a) (line_named t b) (λ l m. length_by units r >>= λ g. in_case (corner l pick_a m pick_b g) >>= a_circle)
    (name_case t (names.a_line a)) (name_case t (names.a_line b)) c (line_case t a) (line_case t b) h

-- ---- and its numbers

point_far : {A : Type 0} (units : Units) (x y : ℤ) (f : Pt → Result A Case) (rest : Bool) → (is_far units x || (is_far units y || rest)) ≡ true
    → (rest ≡ true → (p : Pt) → f p ≡ Err cases.OutOfRange) → (point_by units x y >>= f) ≡ Err cases.OutOfRange
point_far units x y f rest h more =
    let gx = grid_units units x in
    let gy = grid_units units y in
    regroup (coordinate units x) (λ a. coordinate units y >>= λ b. Ok (point_at a b)) f
    ∙ far_first 50000000 gx (λ a. (coordinate units y >>= λ b. Ok (point_at a b)) >>= f) (is_far units y || rest) h (λ next.
    regroup (coordinate units y) (λ b. Ok (point_at gx b)) f ∙ far_first 50000000 gy (λ b. f (point_at gx b)) rest next (λ last. more last (point_at gx gy)))

height_far : (units : Units) (z : Option ℤ) (p : Pt) → is_too_high units z ≡ true → (height_by units z >>= λ h. Ok (figures.Point p h)) ≡ Err cases.OutOfRange
height_far units None p h = absurd cc
height_far units (Some z) p h = far_alone 50000000 (grid_units units z) (λ g. Ok (figures.Point p g)) h

pub point_xy_far : (units : Units) (x y : ℤ) (z : Option ℤ) → (is_far units x || (is_far units y || is_too_high units z)) ≡ true → point_xy units x y z ≡ Err cases.OutOfRange
point_xy_far units x y z h = point_far units x y (λ p. height_by units z >>= λ g. Ok (figures.Point p g)) (is_too_high units z) h (λ up p. height_far units z p up)

pub line_xy_far : (units : Units) (x y u v : ℤ) → (is_far units x || (is_far units y || (is_far units u || is_far units v))) ≡ true → line_xy units x y u v ≡ Err cases.OutOfRange
line_xy_far units x y u v h =
    point_far units x y (λ p. point_by units u v >>= λ q. line_through p q) (is_far units u || is_far units v) h
    (λ next p. point_far units u v (λ q. line_through p q) false (rw (or_false (is_far units v)) next) (λ no q. absurd cc))

length_far : {A : Type 0} (units : Units) (v : ℤ) (f : ℤ → Result A Case) → is_too_long units v ≡ true → (length_by units v >>= f) ≡ Err cases.OutOfRange
length_far units v f h = far_alone 100000000 (grid_units units v) f h

pub circle_xyr_far : (units : Units) (x y r : ℤ) → (is_far units x || (is_far units y || is_too_long units r)) ≡ true → circle_xyr units x y r ≡ Err cases.OutOfRange
circle_xyr_far units x y r h =
    point_far units x y (λ c. length_by units r >>= λ g. in_case (circle_of c g) >>= a_circle) (is_too_long units r) h
    (λ long c. length_far units r (λ g. in_case (circle_of c g) >>= a_circle) long)

pub line_at_far : (units : Units) (t : Table) (a : List ℕ) (pick : Pick) (v : ℤ) → first_case t (names.a_line a ∷ []) ≡ None → is_too_long units v ≡ true → line_at units t a pick v ≡ Err cases.OutOfRange
line_at_far units t a pick v none h =
    name_passes (line_named t a) (λ m. length_by units v >>= λ d. in_case (parallel_at m pick d) >>= a_line) (name_case t (names.a_line a)) cases.OutOfRange (line_case t a)
    (first_none (name_case t (names.a_line a)) None none).0 (λ m. length_far units v (λ d. in_case (parallel_at m pick d) >>= a_line) h)

pub circle_radius_far : (units : Units) (t : Table) (a : List ℕ) (r : ℤ) → first_case t (names.a_point a ∷ []) ≡ None → is_too_long units r ≡ true → circle_radius units t a r ≡ Err cases.OutOfRange
circle_radius_far units t a r none h =
    name_passes (point_named t a) (λ p. length_by units r >>= λ g. in_case (circle_of p g) >>= a_circle) (name_case t (names.a_point a)) cases.OutOfRange (point_case t a)
    (first_none (name_case t (names.a_point a)) None none).0 (λ p. length_far units r (λ g. in_case (circle_of p g) >>= a_circle) h)

pub circle_corner_far : (units : Units) (t : Table) (pick_a : Pick) (a : List ℕ) (pick_b : Pick) (b : List ℕ) (r : ℤ) → first_case t (names.a_line a ∷ names.a_line b ∷ []) ≡ None
    → is_too_long units r ≡ true → circle_corner units t pick_a a pick_b b r ≡ Err cases.OutOfRange
circle_corner_far units t pick_a a pick_b b r none h =
    let first = first_none (name_case t (names.a_line a)) (first_case t (names.a_line b ∷ [])) none in
    name_passes (line_named t a) (λ l. line_named t b >>= λ m. length_by units r >>= λ g. in_case (corner l pick_a m pick_b g) >>= a_circle) (name_case t (names.a_line a)) cases.OutOfRange (line_case t a) first.0
    (λ l. name_passes (line_named t b) (λ m. length_by units r >>= λ g. in_case (corner l pick_a m pick_b g) >>= a_circle) (name_case t (names.a_line b)) cases.OutOfRange (line_case t b)
    (first_none (name_case t (names.a_line b)) None first.1).0 (λ m. length_far units r (λ g. in_case (corner l pick_a m pick_b g) >>= a_circle) h))
