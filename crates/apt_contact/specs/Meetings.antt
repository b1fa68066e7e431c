-- In how many points two targets meet, exactly: by signs and squares, without a root.
use Rattle.std.specs.Prelude.{ℕ, nat_lt, nat_eq, ℤ, ◌+ℤ◌, ◌-ℤ◌, ◌||◌, Bool, true, false, List, [], ◌∷◌, if◌then◌else◌}
use Rattle.apt_num.specs.declared.Sign.{Sign}
use Rattle.apt_num.specs.declared.Sign.TheVariants as signs
use Rattle.apt_num.specs.Sign.{square, root_sign_of}
use Rattle.apt_words.specs.declared.Case.TheVariants as cases
use Rattle.apt_words.specs.Rows.{Row}
use Rattle.apt_plane.specs.declared.figures.Pt.{Pt}
use Rattle.apt_plane.specs.declared.figures.Dir.{Dir}
use Rattle.apt_plane.specs.declared.figures.Line.{Line}
use Rattle.apt_plane.specs.declared.figures.Circ.{Circ}
use Rattle.apt_plane.specs.Vectors.{displacement, cross, length_squared}
use Rattle.apt_canon.specs.Meeting.{are_parallel}
use Rattle.apt_canon.specs.Circles.{are_concentric}
use Rattle.apt_offset.specs.declared.Target.{Target}
use Rattle.apt_offset.specs.declared.Target.TheVariants as targets
use Rattle.apt_contact.specs.declared.Meeting.{Meeting}
use Rattle.apt_contact.specs.declared.Meeting.TheVariants as meetings

abbrev pub line_on : Pt → Dir → Line
line_on base dir = record { base = base; dir = dir }

abbrev pub circle_about : Pt → ℤ → Circ
circle_about c r = record { c = c; r = r }

abbrev pub of_lines : Line → Line → Meeting
of_lines a b = if are_parallel a b then meetings.Parallel else meetings.One

-- a line meets a circle by where the centre lies: against the far side of the moved line, a radius to its left, and the near side, a radius to its right
abbrev pub by_sides : Sign → Sign → Meeting
by_sides signs.Plus right = meetings.Apart
by_sides signs.Zero right = meetings.One
by_sides signs.Minus signs.Minus = meetings.Apart
by_sides signs.Minus signs.Zero = meetings.One
by_sides signs.Minus signs.Plus = meetings.Two

abbrev pub of_line_and_circle : Line → ℤ → Circ → Meeting
of_line_and_circle l h c =
    let k = cross l.dir (displacement l.base c.c) in
    by_sides (root_sign_of k (h +ℤ c.r) (length_squared l.dir)) (root_sign_of k (h -ℤ c.r) (length_squared l.dir))

-- two circles meet by how far their centres are apart, against the difference and the sum of their radii
abbrev pub by_distance : ℕ → ℕ → ℕ → Meeting
by_distance least n most =
    if nat_lt n least || nat_lt most n then meetings.Apart else (if nat_eq n least || nat_eq n most then meetings.One else meetings.Two)

abbrev pub of_circles : Circ → Circ → Meeting
of_circles a b =
    if are_concentric a b then meetings.Parallel
    else by_distance (square (a.r -ℤ b.r)) (length_squared (displacement a.c b.c)) (square (a.r +ℤ b.r))

abbrev pub meeting_of : Target → Target → Meeting
meeting_of (targets.Line b d h) (targets.Line e f k) = of_lines (line_on b d) (line_on e f)
meeting_of (targets.Line b d h) (targets.Circ c r) = of_line_and_circle (line_on b d) h (circle_about c r)
meeting_of (targets.Circ c r) (targets.Line b d h) = of_line_and_circle (line_on b d) h (circle_about c r)
meeting_of (targets.Circ c r) (targets.Circ d q) = of_circles (circle_about c r) (circle_about d q)

-- ---- what refuses two targets that do not meet

abbrev pub is_parallel : Meeting → Bool
is_parallel meetings.Parallel = true
is_parallel meetings.Apart = false
is_parallel meetings.One = false
is_parallel meetings.Two = false

abbrev pub is_apart : Meeting → Bool
is_apart meetings.Parallel = false
is_apart meetings.Apart = true
is_apart meetings.One = false
is_apart meetings.Two = false

abbrev pub meeting_cases : Target → Target → List Row
meeting_cases a b = (is_parallel (meeting_of a b), cases.Parallel) ∷ (is_apart (meeting_of a b), cases.NoContact) ∷ []
