-- Where two lines meet that are moved to their left.
use Rattle.std.specs.Prelude.{ℤ, ◌-ℤ◌, ◌*ℤ◌, unsigned_abs, ◌==◌, Bool, Result, Err, if◌then◌else◌}
use Rattle.apt_plane.specs.declared.figures.Pt.{Pt}
use Rattle.apt_plane.specs.declared.figures.Dir.{Dir}
use Rattle.apt_plane.specs.declared.figures.Line.{Line}
use Rattle.apt_plane.specs.Vectors.{displacement, cross}
use Rattle.apt_canon.specs.declared.FormFault.{FormFault}
use Rattle.apt_canon.specs.declared.FormFault.TheVariants as faults
use Rattle.apt_canon.specs.Scale.{unit, length_of, way, nearest, from, in_range}

-- lines are parallel where the cross product of their directions is 0
abbrev pub are_parallel : Line → Line → Bool
are_parallel a b = unsigned_abs (cross a.dir b.dir) == 0

-- the way from the base of the first line to the meeting point, in units, times the cross product of the directions
abbrev pub meeting_displacement : Line → ℤ → Line → ℤ → Dir
meeting_displacement a ha b hb =
    let ea = ha *ℤ length_of a.dir in
    let eb = (hb *ℤ length_of b.dir) -ℤ (cross b.dir (displacement b.base a.base) *ℤ unit) in
    way ((b.dir.dx *ℤ ea) -ℤ (a.dir.dx *ℤ eb)) ((b.dir.dy *ℤ ea) -ℤ (a.dir.dy *ℤ eb))

-- the meeting point of two lines moved to their left, rounded to the grid
abbrev pub meeting_point : Line → ℤ → Line → ℤ → Pt
meeting_point a ha b hb = from a.base (nearest (meeting_displacement a ha b hb) (cross a.dir b.dir *ℤ unit))

abbrev pub line_line : Line → ℤ → Line → ℤ → Result Pt FormFault
line_line a ha b hb = if are_parallel a b then Err faults.NoMeeting else in_range (meeting_point a ha b hb)
