-- What definitions give is in range.
use Rattle.std.proofs.Common.{◌≡◌, ℕ, ◌≤◌, ◌+◌, ℤ, pos, negsuc, unsigned_abs, nat_lt, int_lt, Bool, true, false, List, Option, Some, None, Result, Ok, Err, IfOk, IfSome, refl, arith}
use Rattle.std.specs.Prelude.{◌==◌, if◌then◌else◌}
use Rattle.std.proofs.lemmas.Int.{ints}
use Rattle.std.proofs.lemmas.Bool.{or_parts, eqb-false}
use Rattle.std.proofs.lemmas.Bool.Decides.{nat_tests}
use Rattle.apt_num.specs.Root.{root_near}
use Rattle.apt_words.specs.Chains.{◌>>=◌}
use Rattle.apt_words.specs.declared.Case.TheVariants as cases
use Rattle.apt_words.specs.declared.Pick.{Pick}
use Rattle.apt_words.specs.declared.Units.{Units}
use Rattle.apt_words.specs.declared.ask.CircleForm.TheVariants as circles
use Rattle.apt_words.specs.declared.ask.Form.{Form}
use Rattle.apt_words.specs.declared.ask.Form.TheVariants as forms
use Rattle.apt_words.specs.declared.ask.LineForm.TheVariants as lines
use Rattle.apt_words.specs.declared.ask.PointForm.TheVariants as points
use Rattle.apt_scalar.specs.Scalars.{grid_units}
use Rattle.apt_plane.specs.declared.figures.Pt.{Pt}
use Rattle.apt_plane.specs.declared.figures.Dir.{Dir}
use Rattle.apt_plane.specs.declared.figures.Line.{Line}
use Rattle.apt_plane.specs.declared.figures.Circ.{Circ}
use Rattle.apt_plane.specs.declared.figures.Surface.{Surface}
use Rattle.apt_plane.specs.declared.figures.Surface.TheVariants as surfaces
use Rattle.apt_plane.specs.Ranges.{IsPoint, IsDir, IsLine, IsCircle, IsSurface}
use Rattle.apt_plane.specs.Vectors.{displacement, cross, length_squared, perp}
use Rattle.apt_plane.proofs.Turned.{perp_dir}
use Rattle.apt_canon.specs.declared.FormFault.{FormFault}
use Rattle.apt_canon.specs.declared.FormFault.TheVariants as faults
use Rattle.apt_canon.specs.Scale.{nearest, from, is_in_range, in_range}
use Rattle.apt_canon.specs.Meeting.{are_parallel, meeting_point, line_line}
use Rattle.apt_canon.specs.Circles.{reaches, line_circle_point, line_circle, are_concentric, overlap, circle_circle_point, circle_circle}
use Rattle.apt_canon.specs.Feet.{side_picked, offset_picked, parallel_point, based_on, parallel_at}
use Rattle.apt_canon.specs.Tangents.{tangent_from, tangent_two}
use Rattle.apt_canon.specs.Rounds.{is_too_small, is_too_large, about_through, distance_from_line, circle, is_far, centre_way, centre_divisor, circle_of, circle_through, circle_touching, circle_about, circle_three, corner}
use Rattle.apt_canon.proofs.TangentLines.Answers.{from_range, two_range}
use Rattle.apt_defs.specs.declared.figure.Figure.{Figure}
use Rattle.apt_defs.specs.declared.figure.Figure.TheVariants as figures
use Rattle.apt_defs.specs.Figures.{Table, IsPointAtHeight, IsFigure, AreFigures, figure_named, defined, as_place, as_surface, as_line, as_circle, place_named, point_named, surface_named, line_named, circle_named}
use Rattle.apt_defs.specs.Forms.{is_within, within, coordinate, length_by, height_by, point_by, point_at, in_case, a_point, a_line, a_circle, both_meetings, meetings, is_preferred, picked, line_between, line_through, point_xy, point_lines, point_pick, centre_point, line_xy, line_points, line_parallel, line_perpendicular, line_at, line_tangent, line_two, circle_xyr, circle_points, circle_radius, circle_tangent, circle_by_point, circle_corner}
use Rattle.apt_defs.specs.Definitions.{figure_of}
use Rattle.apt_defs.proofs.Ends.{displacement_in_range}
use Rattle.apt_defs.proofs.Tables.{looked_up}

-- ---- one step after another

pub then_in : {A B E : Type 0} (P : A → Type 0) (Q : B → Type 0) (r : Result A E) (f : A → Result B E) → IfOk r P → ((a : A) → P a → IfOk (f a) Q) → IfOk (r >>= f) Q
then_in P Q (Ok a) f is more = more a is
then_in P Q (Err e) f is more = tt

pub either_in : {A E : Type 0} (P : A → Type 0) (b : Bool) (r q : Result A E) → (b ≡ true → IfOk r P) → (b ≡ false → IfOk q P) → IfOk (if b then r else q) P
either_in P true r q is other = is refl
either_in P false r q is other = other refl

any_in : {A B E : Type 0} (Q : B → Type 0) (r : Result A E) (f : A → Result B E) → ((a : A) → IfOk (f a) Q) → IfOk (r >>= f) Q
any_in Q (Ok a) f more = more a
any_in Q (Err e) f more = tt

formed_in : {A : Type 0} (P : A → Type 0) (r : Result A FormFault) → IfOk r P → IfOk (in_case r) P
formed_in P (Ok a) is = is
formed_in P (Err e) is = tt

-- ---- names

defined_in : (o : Option Figure) → IfSome o IsFigure → IfOk (defined o) IsFigure
defined_in None is = tt
defined_in (Some f) is = is

as_place_in : (f : Figure) → IsFigure f → IfOk (as_place f) (λ p. IsPointAtHeight p.0 p.1)
as_place_in (figures.Point xy z) is = is
as_place_in (figures.Shape s) is = tt
as_place_in figures.Scalar is = tt

as_surface_in : (f : Figure) → IsFigure f → IfOk (as_surface f) IsSurface
as_surface_in (figures.Point xy z) is = tt
as_surface_in (figures.Shape s) is = is
as_surface_in figures.Scalar is = tt

as_line_in : (s : Surface) → IsSurface s → IfOk (as_line s) IsLine
as_line_in (surfaces.Line l) is = is
as_line_in (surfaces.Circ c) is = tt

as_circle_in : (s : Surface) → IsSurface s → IfOk (as_circle s) IsCircle
as_circle_in (surfaces.Line l) is = tt
as_circle_in (surfaces.Circ c) is = is

named_in : (t : Table) (n : List ℕ) → AreFigures t → IfOk (defined (figure_named t n)) IsFigure
named_in t n are = defined_in (figure_named t n) (looked_up t n are)

place_in : (t : Table) (n : List ℕ) → AreFigures t → IfOk (place_named t n) (λ p. IsPointAtHeight p.0 p.1)
place_in t n are = then_in IsFigure (λ p. IsPointAtHeight p.0 p.1) (defined (figure_named t n)) as_place (named_in t n are) as_place_in

pub point_in : (t : Table) (n : List ℕ) → AreFigures t → IfOk (point_named t n) IsPoint
point_in t n are = then_in (λ p. IsPointAtHeight p.0 p.1) IsPoint (place_named t n) (λ p. Ok p.0) (place_in t n are) (λ p is. is.xy)

pub surface_in : (t : Table) (n : List ℕ) → AreFigures t → IfOk (surface_named t n) IsSurface
surface_in t n are = then_in IsFigure IsSurface (defined (figure_named t n)) as_surface (named_in t n are) as_surface_in

pub line_in : (t : Table) (n : List ℕ) → AreFigures t → IfOk (line_named t n) IsLine
line_in t n are = then_in IsSurface IsLine (surface_named t n) as_line (surface_in t n are) as_line_in

pub circle_in : (t : Table) (n : List ℕ) → AreFigures t → IfOk (circle_named t n) IsCircle
circle_in t n are = then_in IsSurface IsCircle (surface_named t n) as_circle (surface_in t n are) as_circle_in

-- ---- numbers

abbrev IsShort : ℤ → Type 0
IsShort g = unsigned_abs g ≤ 50000000

within_in : (limit : ℕ) (g : ℤ) → IfOk (within limit g) (λ h. unsigned_abs h ≤ limit)
within_in limit g = either_in (λ h. unsigned_abs h ≤ limit) (is_within limit g) (Ok g) (Err _) (λ e. grind (arith, nat_tests)) (λ e. tt)

coordinate_in : (units : Units) (v : ℤ) → IfOk (coordinate units v) IsShort
coordinate_in units v = within_in 50000000 (grid_units units v)

height_in : (units : Units) (z : Option ℤ) → IfOk (height_by units z) IsShort
height_in units None = omega (arith, ints)
height_in units (Some z) = coordinate_in units z

point_by_in : (units : Units) (x y : ℤ) → IfOk (point_by units x y) IsPoint
point_by_in units x y =
    then_in IsShort IsPoint (coordinate units x) (λ gx. coordinate units y >>= λ gy. Ok (point_at gx gy)) (coordinate_in units x)
    (λ gx is_x. then_in IsShort IsPoint (coordinate units y) (λ gy. Ok (point_at gx gy)) (coordinate_in units y) (λ gy is_y. record { x = is_x; y = is_y }))

-- ---- formulas

in_range_in : (p : Pt) → IfOk (in_range p) IsPoint
in_range_in p =
    either_in IsPoint (is_in_range p) (Ok p) (Err faults.OutOfRange)
    (λ e. record { x = grind (arith, nat_tests); y = grind (arith, nat_tests) }) (λ e. tt)

line_line_in : (l : Line) (h : ℤ) (m : Line) (k : ℤ) → IfOk (line_line l h m k) IsPoint
line_line_in l h m k = either_in IsPoint (are_parallel l m) (Err faults.NoMeeting) (in_range (meeting_point l h m k)) (λ e. tt) (λ e. in_range_in (meeting_point l h m k))

line_circle_in : (l : Line) (h : ℤ) (c : Circ) (sigma : ℤ) → IfOk (line_circle l h c sigma) IsPoint
line_circle_in l h c sigma =
    either_in IsPoint (reaches l h c) (in_range (line_circle_point l h c sigma)) (Err faults.NoMeeting) (λ e. in_range_in (line_circle_point l h c sigma)) (λ e. tt)

circle_circle_in : (c d : Circ) (sigma : ℤ) → IfOk (circle_circle c d sigma) IsPoint
circle_circle_in c d sigma =
    either_in IsPoint (are_concentric c d) (Err faults.Degenerate) (if overlap c d then in_range (circle_circle_point c d sigma) else Err faults.NoMeeting) (λ e. tt)
    (λ e. either_in IsPoint (overlap c d) (in_range (circle_circle_point c d sigma)) (Err faults.NoMeeting) (λ e. in_range_in (circle_circle_point c d sigma)) (λ e. tt))

based_in : (d : Dir) (p : Pt) → IsDir d → IsPoint p → IfOk (based_on d p) IsLine
based_in d p is is_p = record { base = is_p; dir = is }

parallel_in : (l : Line) (pick : Pick) (d : ℤ) → IsLine l → IfOk (parallel_at l pick d) IsLine
parallel_in l pick d is =
    either_in IsLine (int_lt d (pos 0)) (Err faults.Degenerate) (offset_picked (side_picked l pick) d >>= λ h. in_range (parallel_point l h) >>= based_on l.dir) (λ e. tt)
    (λ e. any_in IsLine (offset_picked (side_picked l pick) d) (λ h. in_range (parallel_point l h) >>= based_on l.dir)
    (λ h. then_in IsPoint IsLine (in_range (parallel_point l h)) (based_on l.dir) (in_range_in (parallel_point l h)) (λ p is_p. based_in l.dir p is.dir is_p)))

tangent_from_in : (p : Pt) (left : Bool) (c : Circ) → IsPoint p → IsCircle c → IfOk (tangent_from p left c) IsLine
tangent_from_in p left c is_p is_c = from_range (tangent_from p left c) p left c is_p is_c refl

tangent_two_in : (c : Circ) (left_c : Bool) (d : Circ) (left_d : Bool) → IsCircle c → IsCircle d → IfOk (tangent_two c left_c d left_d) IsLine
tangent_two_in c left_c d left_d is_c is_d = two_range (tangent_two c left_c d left_d) c left_c d left_d is_c is_d refl

within_limits : (c : Pt) (r : ℤ) → is_too_small r ≡ false → is_too_large c r ≡ false → IsCircle (circle c r)
within_limits c r least most =
    let parts = or_parts (nat_lt 49000000 (unsigned_abs c.x + unsigned_abs r)) (nat_lt 49000000 (unsigned_abs c.y + unsigned_abs r)) most in
    let x : unsigned_abs c.x + unsigned_abs r ≤ 49000000 = grind (arith, nat_tests) in
    let y : unsigned_abs c.y + unsigned_abs r ≤ 49000000 = grind (arith, nat_tests) in
    record { centre = record { x = omega (arith, x); y = omega (arith, y) }; least = grind (arith, ints); x = x; y = y }

circle_of_in : (c : Pt) (r : ℤ) → IfOk (circle_of c r) IsCircle
circle_of_in c r =
    either_in IsCircle (is_too_small r) (Err faults.Degenerate) (if is_too_large c r then Err faults.TooLarge else Ok (circle c r)) (λ e. tt)
    (λ least. either_in IsCircle (is_too_large c r) (Err faults.TooLarge) (Ok (circle c r)) (λ e. tt) (λ most. within_limits c r least most))

circle_about_in : (p : Pt) (v : Dir) → IfOk (circle_about p v) IsCircle
circle_about_in p v = either_in IsCircle (is_far v) (Err faults.TooLarge) (circle_of (from p v) (pos (root_near (length_squared v)))) (λ e. tt)
    (λ e. circle_of_in (from p v) (pos (root_near (length_squared v))))

circle_three_in : (p q r : Pt) → IfOk (circle_three p q r) IsCircle
circle_three_in p q r =
    let b = displacement p q in
    let c = displacement p r in
    either_in IsCircle (unsigned_abs (cross b c) == 0) (Err faults.Degenerate) (circle_about p (nearest (centre_way b c) (centre_divisor b c))) (λ e. tt)
    (λ e. circle_about_in p (nearest (centre_way b c) (centre_divisor b c)))

corner_in : (l : Line) (pick_a : Pick) (m : Line) (pick_b : Pick) (r : ℤ) → IfOk (corner l pick_a m pick_b r) IsCircle
corner_in l pick_a m pick_b r =
    either_in IsCircle (is_too_small r) (Err faults.Degenerate)
    (offset_picked (side_picked l pick_a) r >>= λ ha. offset_picked (side_picked m pick_b) r >>= λ hb. line_line l ha m hb >>= λ c. circle_of c r) (λ e. tt)
    (λ e. any_in IsCircle (offset_picked (side_picked l pick_a) r) (λ ha. offset_picked (side_picked m pick_b) r >>= λ hb. line_line l ha m hb >>= λ c. circle_of c r)
    (λ ha. any_in IsCircle (offset_picked (side_picked m pick_b) r) (λ hb. line_line l ha m hb >>= λ c. circle_of c r)
    (λ hb. any_in IsCircle (line_line l ha m hb) (λ c. circle_of c r) (λ c. circle_of_in c r))))

-- ---- figures

a_point_in : (p : Pt) → IsPoint p → IfOk (a_point p) IsFigure
a_point_in p is = record { xy = is; z = omega (arith, ints) }

both_in : (meeting : ℤ → Result Pt FormFault) → ((sigma : ℤ) → IfOk (meeting sigma) IsPoint) → IfOk (both_meetings meeting) (λ m. IsPoint m.0 × IsPoint m.1)
both_in meeting is =
    then_in IsPoint (λ m. IsPoint m.0 × IsPoint m.1) (in_case (meeting (pos 1))) (λ p. in_case (meeting (negsuc 0)) >>= λ q. Ok (p, q)) (formed_in IsPoint (meeting (pos 1)) (is (pos 1)))
    (λ p is_p. then_in IsPoint (λ m. IsPoint m.0 × IsPoint m.1) (in_case (meeting (negsuc 0))) (λ q. Ok (p, q)) (formed_in IsPoint (meeting (negsuc 0)) (is (negsuc 0))) (λ q is_q. (is_p, is_q)))

meetings_in : (s r : Surface) → IfOk (meetings s r) (λ m. IsPoint m.0 × IsPoint m.1)
meetings_in (surfaces.Line l) (surfaces.Line m) = tt
meetings_in (surfaces.Line l) (surfaces.Circ c) = both_in (λ sigma. line_circle l (pos 0) c sigma) (λ sigma. line_circle_in l (pos 0) c sigma)
meetings_in (surfaces.Circ c) (surfaces.Line l) = both_in (λ sigma. line_circle l (pos 0) c sigma) (λ sigma. line_circle_in l (pos 0) c sigma)
meetings_in (surfaces.Circ c) (surfaces.Circ d) =
    either_in (λ m. IsPoint m.0 × IsPoint m.1) (are_concentric c d) (Err cases.NoMeeting) (both_meetings (λ sigma. circle_circle c d sigma)) (λ e. tt)
    (λ e. both_in (λ sigma. circle_circle c d sigma) (λ sigma. circle_circle_in c d sigma))

either_point : (b : Bool) (p q : Pt) → IsPoint p → IsPoint q → IsPoint (if b then p else q)
either_point true p q is_p is_q = is_p
either_point false p q is_p is_q = is_q

picked_in : (pick : Pick) (p q : Pt) → IsPoint p → IsPoint q → IfOk (a_point (picked pick p q)) IsFigure
picked_in pick p q is_p is_q = a_point_in (picked pick p q) (either_point (is_preferred pick q p) q p is_q is_p)

line_through_in : (p q : Pt) → IsPoint p → IsPoint q → IfOk (line_through p q) IsFigure
line_through_in p q is_p is_q =
    let n = length_squared (displacement p q) in
    either_in IsFigure (n == 0) (Err cases.Degenerate) (a_line (line_between p q)) (λ e. tt)
    (λ e. record { base = is_p; dir = displacement_in_range p q is_p is_q (λ z. eqb-false n 0 e z) })

line_formed : (r : Result Line FormFault) → IfOk r IsLine → IfOk (in_case r >>= a_line) IsFigure
line_formed (Ok l) is = is
line_formed (Err e) is = tt

circle_formed : (r : Result Circ FormFault) → IfOk r IsCircle → IfOk (in_case r >>= a_circle) IsFigure
circle_formed (Ok c) is = is
circle_formed (Err e) is = tt

-- ---- a line for each form

point_xy_in : (units : Units) (x y : ℤ) (z : Option ℤ) → IfOk (point_xy units x y z) IsFigure
point_xy_in units x y z =
    then_in IsPoint IsFigure (point_by units x y) (λ p. height_by units z >>= λ h. Ok (figures.Point p h)) (point_by_in units x y)
    (λ p is. then_in IsShort IsFigure (height_by units z) (λ h. Ok (figures.Point p h)) (height_in units z) (λ h is_h. record { xy = is; z = is_h }))

point_lines_in : (t : Table) (a b : List ℕ) → IfOk (point_lines t a b) IsFigure
point_lines_in t a b =
    any_in IsFigure (line_named t a) (λ l. line_named t b >>= λ m. in_case (line_line l (pos 0) m (pos 0)) >>= a_point)
    (λ l. any_in IsFigure (line_named t b) (λ m. in_case (line_line l (pos 0) m (pos 0)) >>= a_point)
    (λ m. then_in IsPoint IsFigure (in_case (line_line l (pos 0) m (pos 0))) a_point (formed_in IsPoint (line_line l (pos 0) m (pos 0)) (line_line_in l (pos 0) m (pos 0))) a_point_in))

point_pick_in : (t : Table) (pick : Pick) (a b : List ℕ) → IfOk (point_pick t pick a b) IsFigure
point_pick_in t pick a b =
    any_in IsFigure (surface_named t a) (λ s. surface_named t b >>= λ r. meetings s r >>= λ m. a_point (picked pick m.0 m.1))
    (λ s. any_in IsFigure (surface_named t b) (λ r. meetings s r >>= λ m. a_point (picked pick m.0 m.1))
    (λ r. then_in (λ m. IsPoint m.0 × IsPoint m.1) IsFigure (meetings s r) (λ m. a_point (picked pick m.0 m.1)) (meetings_in s r) (λ m is. picked_in pick m.0 m.1 is.0 is.1)))

centre_point_in : (t : Table) (c : List ℕ) → AreFigures t → IfOk (centre_point t c) IsFigure
centre_point_in t c are = then_in IsCircle IsFigure (circle_named t c) (λ k. a_point k.c) (circle_in t c are) (λ k is. a_point_in k.c is.centre)

line_xy_in : (units : Units) (x y u v : ℤ) → IfOk (line_xy units x y u v) IsFigure
line_xy_in units x y u v =
    then_in IsPoint IsFigure (point_by units x y) (λ p. point_by units u v >>= λ q. line_through p q) (point_by_in units x y)
    (λ p is_p. then_in IsPoint IsFigure (point_by units u v) (λ q. line_through p q) (point_by_in units u v) (λ q is_q. line_through_in p q is_p is_q))

line_points_in : (t : Table) (p q : List ℕ) → AreFigures t → IfOk (line_points t p q) IsFigure
line_points_in t p q are =
    then_in IsPoint IsFigure (point_named t p) (λ a. point_named t q >>= λ b. line_through a b) (point_in t p are)
    (λ a is_a. then_in IsPoint IsFigure (point_named t q) (λ b. line_through a b) (point_in t q are) (λ b is_b. line_through_in a b is_a is_b))

line_parallel_in : (t : Table) (p l : List ℕ) → AreFigures t → IfOk (line_parallel t p l) IsFigure
line_parallel_in t p l are =
    then_in IsPoint IsFigure (point_named t p) (λ a. line_named t l >>= λ m. a_line (record { base = a; dir = m.dir })) (point_in t p are)
    (λ a is_a. then_in IsLine IsFigure (line_named t l) (λ m. a_line (record { base = a; dir = m.dir })) (line_in t l are) (λ m is. record { base = is_a; dir = is.dir }))

line_perpendicular_in : (t : Table) (p l : List ℕ) → AreFigures t → IfOk (line_perpendicular t p l) IsFigure
line_perpendicular_in t p l are =
    then_in IsPoint IsFigure (point_named t p) (λ a. line_named t l >>= λ m. a_line (record { base = a; dir = perp m.dir })) (point_in t p are)
    (λ a is_a. then_in IsLine IsFigure (line_named t l) (λ m. a_line (record { base = a; dir = perp m.dir })) (line_in t l are) (λ m is. record { base = is_a; dir = perp_dir m.dir is.dir }))

line_at_in : (units : Units) (t : Table) (l : List ℕ) (pick : Pick) (v : ℤ) → AreFigures t → IfOk (line_at units t l pick v) IsFigure
line_at_in units t l pick v are =
    then_in IsLine IsFigure (line_named t l) (λ m. length_by units v >>= λ d. in_case (parallel_at m pick d) >>= a_line) (line_in t l are)
    (λ m is. any_in IsFigure (length_by units v) (λ d. in_case (parallel_at m pick d) >>= a_line) (λ d. line_formed (parallel_at m pick d) (parallel_in m pick d is)))

line_tangent_in : (t : Table) (p : List ℕ) (left : Bool) (c : List ℕ) → AreFigures t → IfOk (line_tangent t p left c) IsFigure
line_tangent_in t p left c are =
    then_in IsPoint IsFigure (point_named t p) (λ a. circle_named t c >>= λ k. in_case (tangent_from a left k) >>= a_line) (point_in t p are)
    (λ a is_a. then_in IsCircle IsFigure (circle_named t c) (λ k. in_case (tangent_from a left k) >>= a_line) (circle_in t c are)
    (λ k is. line_formed (tangent_from a left k) (tangent_from_in a left k is_a is)))

line_two_in : (t : Table) (left_c : Bool) (c : List ℕ) (left_d : Bool) (d : List ℕ) → AreFigures t → IfOk (line_two t left_c c left_d d) IsFigure
line_two_in t left_c c left_d d are =
    then_in IsCircle IsFigure (circle_named t c) (λ j. circle_named t d >>= λ k. in_case (tangent_two j left_c k left_d) >>= a_line) (circle_in t c are)
    (λ j is_j. then_in IsCircle IsFigure (circle_named t d) (λ k. in_case (tangent_two j left_c k left_d) >>= a_line) (circle_in t d are)
    (λ k is_k. line_formed (tangent_two j left_c k left_d) (tangent_two_in j left_c k left_d is_j is_k)))

circle_xyr_in : (units : Units) (x y r : ℤ) → IfOk (circle_xyr units x y r) IsFigure
circle_xyr_in units x y r =
    any_in IsFigure (point_by units x y) (λ c. length_by units r >>= λ g. in_case (circle_of c g) >>= a_circle)
    (λ c. any_in IsFigure (length_by units r) (λ g. in_case (circle_of c g) >>= a_circle) (λ g. circle_formed (circle_of c g) (circle_of_in c g)))

circle_points_in : (t : Table) (a b c : List ℕ) → IfOk (circle_points t a b c) IsFigure
circle_points_in t a b c =
    any_in IsFigure (point_named t a) (λ p. point_named t b >>= λ q. point_named t c >>= λ r. in_case (circle_three p q r) >>= a_circle)
    (λ p. any_in IsFigure (point_named t b) (λ q. point_named t c >>= λ r. in_case (circle_three p q r) >>= a_circle)
    (λ q. any_in IsFigure (point_named t c) (λ r. in_case (circle_three p q r) >>= a_circle) (λ r. circle_formed (circle_three p q r) (circle_three_in p q r))))

circle_radius_in : (units : Units) (t : Table) (p : List ℕ) (r : ℤ) → IfOk (circle_radius units t p r) IsFigure
circle_radius_in units t p r =
    any_in IsFigure (point_named t p) (λ c. length_by units r >>= λ g. in_case (circle_of c g) >>= a_circle)
    (λ c. any_in IsFigure (length_by units r) (λ g. in_case (circle_of c g) >>= a_circle) (λ g. circle_formed (circle_of c g) (circle_of_in c g)))

circle_tangent_in : (t : Table) (p l : List ℕ) → IfOk (circle_tangent t p l) IsFigure
circle_tangent_in t p l =
    any_in IsFigure (point_named t p) (λ c. line_named t l >>= λ m. in_case (circle_touching c m) >>= a_circle)
    (λ c. any_in IsFigure (line_named t l) (λ m. in_case (circle_touching c m) >>= a_circle) (λ m. circle_formed (circle_touching c m) (circle_of_in c (distance_from_line c m))))

circle_by_point_in : (t : Table) (p q : List ℕ) → IfOk (circle_by_point t p q) IsFigure
circle_by_point_in t p q =
    any_in IsFigure (point_named t p) (λ c. point_named t q >>= λ a. in_case (circle_through c a) >>= a_circle)
    (λ c. any_in IsFigure (point_named t q) (λ a. in_case (circle_through c a) >>= a_circle) (λ a. circle_formed (circle_through c a) (circle_of_in c (about_through c a).r)))

circle_corner_in : (units : Units) (t : Table) (pick_a : Pick) (a : List ℕ) (pick_b : Pick) (b : List ℕ) (r : ℤ) → IfOk (circle_corner units t pick_a a pick_b b r) IsFigure
circle_corner_in units t pick_a a pick_b b r =
    any_in IsFigure (line_named t a) (λ l. line_named t b >>= λ m. length_by units r >>= λ g. in_case (corner l pick_a m pick_b g) >>= a_circle)
    (λ l. any_in IsFigure (line_named t b) (λ m. length_by units r >>= λ g. in_case (corner l pick_a m pick_b g) >>= a_circle)
    (λ m. any_in IsFigure (length_by units r) (λ g. in_case (corner l pick_a m pick_b g) >>= a_circle) (λ g. circle_formed (corner l pick_a m pick_b g) (corner_in l pick_a m pick_b g))))

-- what a form gives is in range, whatever it is
pub figure_in : (units : Units) (t : Table) (form : Form) → AreFigures t → IfOk (figure_of units t form) IsFigure
figure_in units t (forms.Number v) are = tt
figure_in units t (forms.Point (points.Xy x y z)) are = point_xy_in units x y z
figure_in units t (forms.Point (points.Lines a b)) are = point_lines_in t a b
figure_in units t (forms.Point (points.Picked k a b)) are = point_pick_in t k a b
figure_in units t (forms.Point (points.Centre c)) are = centre_point_in t c are
figure_in units t (forms.Line (lines.Xy x y u v)) are = line_xy_in units x y u v
figure_in units t (forms.Line (lines.Points p q)) are = line_points_in t p q are
figure_in units t (forms.Line (lines.Parallel p l)) are = line_parallel_in t p l are
figure_in units t (forms.Line (lines.Square p l)) are = line_perpendicular_in t p l are
figure_in units t (forms.Line (lines.Beside l k v)) are = line_at_in units t l k v are
figure_in units t (forms.Line (lines.Past p h c)) are = line_tangent_in t p h c are
figure_in units t (forms.Line (lines.PastTwo h c k d)) are = line_two_in t h c k d are
figure_in units t (forms.Circle (circles.Xyr x y r)) are = circle_xyr_in units x y r
figure_in units t (forms.Circle (circles.Points a b c)) are = circle_points_in t a b c
figure_in units t (forms.Circle (circles.Radius p r)) are = circle_radius_in units t p r
figure_in units t (forms.Circle (circles.Along p l)) are = circle_tangent_in t p l
figure_in units t (forms.Circle (circles.Through p q)) are = circle_by_point_in t p q
figure_in units t (forms.Circle (circles.Corner j a k b r)) are = circle_corner_in units t j a k b r
