-- The forms of definitions: what each gives, or the first case that refuses it. Names come from left to right, then numbers, then the figure's own case.
use Rattle.std.specs.Prelude.{ℕ, ℤ, pos, negsuc, nat_le, int_lt, unsigned_abs, ◌==◌, ◌&&◌, ◌||◌, not, Bool, List, Option, Some, None, Result, Ok, Err, if◌then◌else◌}
use Rattle.apt_words.specs.Chains.{◌>>=◌}
use Rattle.apt_words.specs.declared.Case.{Case}
use Rattle.apt_words.specs.declared.Case.TheVariants as cases
use Rattle.apt_words.specs.declared.Pick.{Pick}
use Rattle.apt_words.specs.declared.Pick.TheVariants as picks
use Rattle.apt_words.specs.declared.Units.{Units}
use Rattle.apt_scalar.specs.Scalars.{grid_units}
use Rattle.apt_plane.specs.declared.figures.Pt.{Pt}
use Rattle.apt_plane.specs.declared.figures.Line.{Line}
use Rattle.apt_plane.specs.declared.figures.Circ.{Circ}
use Rattle.apt_plane.specs.declared.figures.Surface.{Surface}
use Rattle.apt_plane.specs.declared.figures.Surface.TheVariants as surfaces
use Rattle.apt_plane.specs.Vectors.{displacement, length_squared, perp}
use Rattle.apt_canon.specs.declared.FormFault.{FormFault}
use Rattle.apt_canon.specs.declared.FormFault.TheVariants as faults
use Rattle.apt_canon.specs.Meeting.{line_line}
use Rattle.apt_canon.specs.Circles.{line_circle, circle_circle, are_concentric}
use Rattle.apt_canon.specs.Feet.{parallel_at}
use Rattle.apt_canon.specs.Tangents.{tangent_from, tangent_two}
use Rattle.apt_canon.specs.Rounds.{circle_of, circle_through, circle_touching, circle_three, corner}
use Rattle.apt_defs.specs.declared.figure.Figure.{Figure}
use Rattle.apt_defs.specs.declared.figure.Figure.TheVariants as figures
use Rattle.apt_defs.specs.Figures.{Table, point_named, line_named, circle_named, surface_named}

-- ---- numbers, in grid units

abbrev pub is_within : ℕ → ℤ → Bool
is_within limit g = nat_le (unsigned_abs g) limit

-- the coordinate limit
abbrev pub is_in_reach : ℤ → Bool
is_in_reach g = is_within 50000000 g

abbrev pub within : ℕ → ℤ → Result ℤ Case
within limit g = if is_within limit g then Ok g else Err cases.OutOfRange

abbrev pub coordinate : Units → ℤ → Result ℤ Case
coordinate units v = within 50000000 (grid_units units v)

abbrev pub length_by : Units → ℤ → Result ℤ Case
length_by units v = within 100000000 (grid_units units v)

-- the height is 0 where it is left out
abbrev pub height_by : Units → Option ℤ → Result ℤ Case
height_by units None = Ok (pos 0)
height_by units (Some z) = coordinate units z

abbrev pub point_at : ℤ → ℤ → Pt
point_at x y = record { x = x; y = y }

abbrev pub point_by : Units → ℤ → ℤ → Result Pt Case
point_by units x y = coordinate units x >>= λ gx. coordinate units y >>= λ gy. Ok (point_at gx gy)

-- ---- figures

-- why a formula gives no figure
abbrev pub case_of : FormFault → Case
case_of faults.OutOfRange = cases.OutOfRange
case_of faults.Degenerate = cases.Degenerate
case_of faults.NoMeeting = cases.NoMeeting
case_of faults.TooLarge = cases.CircleTooLarge

abbrev pub in_case : {A : Type 0} → Result A FormFault → Result A Case
in_case (Ok a) = Ok a
in_case (Err fault) = Err (case_of fault)

-- a point at height 0
abbrev pub a_point : Pt → Result Figure Case
a_point p = Ok (figures.Point p (pos 0))

abbrev pub a_line : Line → Result Figure Case
a_line l = Ok (figures.Shape (surfaces.Line l))

abbrev pub a_circle : Circ → Result Figure Case
a_circle c = Ok (figures.Shape (surfaces.Circ c))

abbrev pub line_formed : Result Line FormFault → Result Figure Case
line_formed l = in_case l >>= a_line

abbrev pub circle_formed : Result Circ FormFault → Result Figure Case
circle_formed c = in_case c >>= a_circle

-- ---- POINT

abbrev pub point_xy : Units → ℤ → ℤ → Option ℤ → Result Figure Case
point_xy units x y z = point_by units x y >>= λ p. height_by units z >>= λ h. Ok (figures.Point p h)

abbrev pub point_lines : Table → List ℕ → List ℕ → Result Figure Case
point_lines t a b = line_named t a >>= λ l. line_named t b >>= λ m. in_case (line_line l (pos 0) m (pos 0)) >>= a_point

-- the two points in which two curves meet, for sigma 1 and -1
abbrev pub both_meetings : (ℤ → Result Pt FormFault) → Result (Pt × Pt) Case
both_meetings meeting = in_case (meeting (pos 1)) >>= λ p. in_case (meeting (negsuc 0)) >>= λ q. Ok (p, q)

abbrev pub meetings : Surface → Surface → Result (Pt × Pt) Case
meetings (surfaces.Line l) (surfaces.Line m) = Err cases.WrongKind
meetings (surfaces.Line l) (surfaces.Circ c) = both_meetings (λ sigma. line_circle l (pos 0) c sigma)
meetings (surfaces.Circ c) (surfaces.Line l) = both_meetings (λ sigma. line_circle l (pos 0) c sigma)
meetings (surfaces.Circ c) (surfaces.Circ d) =
    if are_concentric c d then Err cases.NoMeeting else both_meetings (λ sigma. circle_circle c d sigma)

-- a is greater than b, or equal and c is greater than d
abbrev pub is_further : ℤ → ℤ → ℤ → ℤ → Bool
is_further a b c d = int_lt b a || (not (int_lt a b) && int_lt d c)

-- a modifier takes the point that lies further its way; of two as far, the one with the greater or smaller other coordinate
abbrev pub is_preferred : Pick → Pt → Pt → Bool
is_preferred picks.XLarge p q = is_further p.x q.x p.y q.y
is_preferred picks.XSmall p q = is_further q.x p.x q.y p.y
is_preferred picks.YLarge p q = is_further p.y q.y p.x q.x
is_preferred picks.YSmall p q = is_further q.y p.y q.x p.x

abbrev pub picked : Pick → Pt → Pt → Pt
picked pick p q = if is_preferred pick q p then q else p

abbrev pub point_pick : Table → Pick → List ℕ → List ℕ → Result Figure Case
point_pick t pick a b = surface_named t a >>= λ s. surface_named t b >>= λ r. meetings s r >>= λ m. a_point (picked pick m.0 m.1)

abbrev pub centre_point : Table → List ℕ → Result Figure Case
centre_point t c = circle_named t c >>= λ k. a_point k.c

-- ---- LINE

abbrev pub line_between : Pt → Pt → Line
line_between p q = record { base = p; dir = displacement p q }

-- through two points that differ
abbrev pub line_through : Pt → Pt → Result Figure Case
line_through p q = if length_squared (displacement p q) == 0 then Err cases.Degenerate else a_line (line_between p q)

abbrev pub line_on : Units → Pt → ℤ → ℤ → Result Figure Case
line_on units p u v = point_by units u v >>= λ q. line_through p q

abbrev pub line_xy : Units → ℤ → ℤ → ℤ → ℤ → Result Figure Case
line_xy units x y u v = point_by units x y >>= λ p. line_on units p u v

abbrev pub line_points : Table → List ℕ → List ℕ → Result Figure Case
line_points t p q = point_named t p >>= λ a. point_named t q >>= λ b. line_through a b

abbrev pub line_parallel : Table → List ℕ → List ℕ → Result Figure Case
line_parallel t p l = point_named t p >>= λ a. line_named t l >>= λ m. a_line (record { base = a; dir = m.dir })

abbrev pub line_perpendicular : Table → List ℕ → List ℕ → Result Figure Case
line_perpendicular t p l = point_named t p >>= λ a. line_named t l >>= λ m. a_line (record { base = a; dir = perp m.dir })

-- parallel at a distance
abbrev pub line_at : Units → Table → List ℕ → Pick → ℤ → Result Figure Case
line_at units t l pick v = line_named t l >>= λ m. length_by units v >>= λ d. line_formed (parallel_at m pick d)

abbrev pub line_tangent : Table → List ℕ → Bool → List ℕ → Result Figure Case
line_tangent t p left c = point_named t p >>= λ a. circle_named t c >>= λ k. line_formed (tangent_from a left k)

abbrev pub line_two : Table → Bool → List ℕ → Bool → List ℕ → Result Figure Case
line_two t left_c c left_d d = circle_named t c >>= λ j. circle_named t d >>= λ k. line_formed (tangent_two j left_c k left_d)

-- ---- CIRCLE

abbrev pub circle_xyr : Units → ℤ → ℤ → ℤ → Result Figure Case
circle_xyr units x y r = point_by units x y >>= λ c. length_by units r >>= λ g. circle_formed (circle_of c g)

abbrev pub circle_points : Table → List ℕ → List ℕ → List ℕ → Result Figure Case
circle_points t a b c = point_named t a >>= λ p. point_named t b >>= λ q. point_named t c >>= λ r. circle_formed (circle_three p q r)

abbrev pub circle_radius : Units → Table → List ℕ → ℤ → Result Figure Case
circle_radius units t p r = point_named t p >>= λ c. length_by units r >>= λ g. circle_formed (circle_of c g)

abbrev pub circle_tangent : Table → List ℕ → List ℕ → Result Figure Case
circle_tangent t p l = point_named t p >>= λ c. line_named t l >>= λ m. circle_formed (circle_touching c m)

abbrev pub circle_by_point : Table → List ℕ → List ℕ → Result Figure Case
circle_by_point t p q = point_named t p >>= λ c. point_named t q >>= λ a. circle_formed (circle_through c a)

abbrev pub circle_corner : Units → Table → Pick → List ℕ → Pick → List ℕ → ℤ → Result Figure Case
circle_corner units t pick_a a pick_b b r =
    line_named t a >>= λ l. line_named t b >>= λ m. length_by units r >>= λ g. circle_formed (corner l pick_a m pick_b g)
