-- Start-up on one surface or on two.
use Rattle.std.specs.Prelude.{ℕ, nat_lt, pos, neg_ℤ, ◌==◌, ◌&&◌, not, Bool, List, [], ◌∷◌, ◌++◌, Option, Some, None, if◌then◌else◌}
use Rattle.apt_num.specs.declared.Sign.{Sign}
use Rattle.apt_num.specs.declared.Sign.TheVariants as signs
use Rattle.apt_words.specs.declared.Case.{Case}
use Rattle.apt_words.specs.declared.Case.TheVariants as cases
use Rattle.apt_words.specs.Rows.{Row}
use Rattle.apt_plane.specs.declared.figures.Pt.{Pt}
use Rattle.apt_plane.specs.declared.figures.Dir.{Dir}
use Rattle.apt_plane.specs.Vectors.{displacement, length_squared}
use Rattle.apt_canon.specs.Scale.{is_in_range, way}
use Rattle.apt_canon.specs.Feet.{ray_point, foot_point}
use Rattle.apt_offset.specs.declared.Target.{Target}
use Rattle.apt_offset.specs.declared.Target.TheVariants as targets
use Rattle.apt_offset.specs.Sides.{side_at_check, is_on_check}
use Rattle.apt_offset.specs.Targets.{offset_surface, lacks_room}
use Rattle.apt_contact.specs.Meetings.{line_on, circle_about, meeting_cases}
use Rattle.apt_contact.specs.Contacts.{contact_point}
use Rattle.apt_startup.specs.declared.Goal.{Goal}
use Rattle.apt_startup.specs.declared.StartUp.{StartUp}

-- ---- one of its surfaces

-- the place of the cutter there: on the side of the start under TO, on the other under PAST
abbrev pub goal_side : StartUp → Goal → Sign
goal_side u g = side_at_check g.surface g.how u.start g.surface signs.Zero

-- the surface moved by the cutter's radius to that place
abbrev pub goal_target : StartUp → Goal → Target
goal_target u g = offset_surface g.surface (goal_side u g) u.radius

-- TO and PAST need a start that is not on the surface
abbrev pub is_on : StartUp → Goal → Bool
is_on u g = is_on_check g.how (goal_side u g)

-- inside a circle that is too small
abbrev pub has_no_room : StartUp → Goal → Bool
has_no_room u g = not (is_on u g) && lacks_room (goal_target u g)

-- ---- where it ends

-- a way, or one to the right where it has no length
abbrev pub way_or_right : Dir → Dir
way_or_right d = if length_squared d == 0 then way (pos 1) (pos 0) else d

-- the point of a target nearest to another: on a line its foot, on a circle where the ray from the centre through it leaves
abbrev pub nearest_on : Pt → Target → Pt
nearest_on p (targets.Line b d h) = foot_point p (line_on b d) h
nearest_on p (targets.Circ c r) = ray_point (circle_about c r) (way_or_right (displacement c p))

abbrev pub distance_squared : Pt → Pt → ℕ
distance_squared p q = length_squared (displacement p q)

-- the second of two points where it is nearer to a third, else the first
abbrev pub nearer_to : Pt → Pt → Pt → Pt
nearer_to p a b = if nat_lt (distance_squared p b) (distance_squared p a) then b else a

-- the nearer contact of two targets; of two that are as near the one for sigma -1
abbrev pub meeting_near : Pt → Target → Target → Pt
meeting_near p a b = nearer_to p (contact_point a b (neg_ℤ (pos 1))) (contact_point a b (pos 1))

-- on the first surface alone, or on a second one too
abbrev pub point_by : StartUp → Option Goal → Pt
point_by u None = nearest_on u.start (goal_target u u.first)
point_by u (Some g) = meeting_near u.start (goal_target u u.first) (goal_target u g)

abbrev pub start_point : StartUp → Pt
start_point u = point_by u u.second

-- ---- what refuses it

abbrev pub range_cases : Pt → List Row
range_cases p = (not (is_in_range p), cases.OutOfRange) ∷ []

-- what refuses each of some surfaces, with one case
abbrev pub rows_of : (Goal → Bool) → Case → List Goal → List Row
rows_of P case [] = []
rows_of P case (g ∷ gs) = (P g, case) ∷ rows_of P case gs

abbrev pub goals_by : StartUp → Option Goal → List Goal
goals_by u None = u.first ∷ []
goals_by u (Some g) = u.first ∷ g ∷ []

abbrev pub meeting_cases_by : StartUp → Option Goal → List Row
meeting_cases_by u None = []
meeting_cases_by u (Some g) = meeting_cases (goal_target u u.first) (goal_target u g)

-- room at each surface, then whether the start is on one, then how they meet, and where
abbrev pub cases_by : StartUp → Option Goal → List Row
cases_by u second =
    rows_of (has_no_room u) cases.NoRoom (goals_by u second)
    ++ rows_of (is_on u) cases.OnCheck (goals_by u second)
    ++ meeting_cases_by u second ++ range_cases (point_by u second)

abbrev pub start_up_cases : StartUp → List Row
start_up_cases u = cases_by u u.second
