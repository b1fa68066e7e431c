-- The path that a CL file says, read off its records alone, from left to right, as an inspector reads them with the file in hand.
use Rattle.std.specs.Prelude.{◌+◌, ◌/◌, ℤ, pos, neg_ℤ, ◌-ℤ◌, ◌*ℤ◌, unsigned_abs, int_lt, ◌&&◌, Bool, true, false, List, [], ◌∷◌, ◌++◌, map, Option, Some, None, if◌then◌else◌}
use Rattle.std.specs.Ordering.{int_eq}
use Rattle.apt_words.specs.Asks.{listed}
use Rattle.apt_num.specs.declared.Sign.{Sign}
use Rattle.apt_words.specs.declared.Side.{Side}
use Rattle.apt_words.specs.declared.Stop.{Stop}
use Rattle.apt_words.specs.declared.Units.{Units}
use Rattle.apt_words.specs.declared.Units.TheVariants as the_units
use Rattle.apt_words.specs.Options.{◌>>=◌}
use Rattle.apt_plane.specs.declared.figures.Pt.{Pt}
use Rattle.apt_plane.specs.declared.figures.Dir.{Dir}
use Rattle.apt_plane.specs.declared.figures.Surface.{Surface}
use Rattle.apt_plane.specs.declared.figures.Surface.TheVariants as surfaces
use Rattle.apt_offset.specs.Turns.{opposite}
use Rattle.apt_offset.specs.Sides.{side_at_drive, side_at_check}
use Rattle.apt_records.specs.declared.record.Note.{Note}
use Rattle.apt_records.specs.declared.record.Note.TheVariants as notes
use Rattle.apt_records.specs.declared.record.Position.{Position}
use Rattle.apt_records.specs.declared.record.Reach.{Reach}
use Rattle.apt_records.specs.declared.record.Reach.TheVariants as reaches
use Rattle.apt_records.specs.declared.record.Record.{Record}
use Rattle.apt_records.specs.declared.record.Record.TheVariants as records
use Rattle.apt_certify.specs.Legs.{IsBounded}
use Rattle.apt_certify.specs.Legal.{IsLegal, last_of}
use Rattle.apt_meaning.specs.declared.motion.Motion.{Motion}
use Rattle.apt_meaning.specs.Motions.{stop_side, leg_on, onward}

-- ---- what the records say so far

-- a drive surface, the side of the cutter, and the sense along it
pub record Drive : Type 0 where
  pub surface : Surface
  pub side : Side
  pub sense : ℤ

-- the leg of a contour that is due: its motion, and the side of the stop on which it runs
pub record Due : Type 0 where
  pub motion : Motion
  pub side : Sign

-- the units; the cutter's diameter, INTOL and OUTTOL in grid units, and the feed in tenths, as they were said last; whether a RAPID is pending; where
-- the tool stands, and which way is forward; the last drive surface; and the leg that is due behind the last check surface
pub record Told : Type 0 where
  pub units : Units
  pub diameter : ℤ
  pub intol : ℤ
  pub outtol : ℤ
  pub feed : ℤ
  pub rapid : Bool
  pub position : Option Position
  pub forward : Dir
  pub drive : Option Drive
  pub due : Option Due

-- before the first record: inches, a cutter without a diameter, INTOL 0, OUTTOL 50 units, no feed, no position and no way forward
abbrev pub nothing_said : Told
nothing_said = record {
  units = the_units.Inch;
  diameter = pos 0;
  intol = pos 0;
  outtol = pos 50;
  feed = pos 0;
  rapid = false;
  position = None;
  forward = record { dx = pos 0; dy = pos 0 };
  drive = None;
  due = None;
}

-- ---- moves

-- the way from a point to another
abbrev pub way_from : Pt → Pt → Dir
way_from a b = record { dx = b.x -ℤ a.x; dy = b.y -ℤ a.y }

abbrev pub is_nowhere : Dir → Bool
is_nowhere d = int_eq d.dx (pos 0) && int_eq d.dy (pos 0)

-- forward behind a way in x and y: the way, unless it leads nowhere, as a plunge
abbrev pub forward_along : Dir → Dir → Dir
forward_along forward d = if is_nowhere d then forward else d

-- a move from nowhere, as a GOTO without FROM, leaves forward as it was
abbrev pub forward_to : Option Position → Pt → Dir → Dir
forward_to None to forward = forward
forward_to (Some from) to forward = forward_along forward (way_from from.xy to)

-- forward on a surface at a point: a line's direction, or a circle's tangent anticlockwise, in the sense
abbrev pub forward_on : Surface → ℤ → Pt → Dir
forward_on (surfaces.Line l) sense p = record { dx = sense *ℤ l.dir.dx; dy = sense *ℤ l.dir.dy }
forward_on (surfaces.Circ c) sense p = record { dx = sense *ℤ neg_ℤ (p.y -ℤ c.c.y); dy = sense *ℤ (p.x -ℤ c.c.x) }

-- behind a move the tool stands there, and forward is its way
abbrev pub moved : Told → Position → Told
moved s to = record s { position = Some to; forward = forward_to s.position to.xy s.forward }

-- GOTO, GODLTA and GO spend a pending RAPID, which FROM leaves
abbrev pub with_point : Told → Reach → Position → Told
with_point s reaches.From to = moved s to
with_point s reaches.Goto to = record (moved s to) { rapid = false }
with_point s reaches.Godlta to = record (moved s to) { rapid = false }
with_point s reaches.Start to = record (moved s to) { rapid = false }

-- ---- contours

-- a tolerance counts as at least one grid step of 8 units
abbrev pub counted : ℤ → ℤ
counted t = if int_lt t (pos 8) then pos 8 else t

-- half a diameter, rounded up
abbrev pub radius_by : ℤ → ℤ
radius_by d = pos ((unsigned_abs d + 1) / 2)

-- a leg of a contour: the motion that is said of it, the side of the stop on which it runs, and its vertices
pub record Contour : Type 0 where
  pub motion : Motion
  pub side : Sign
  pub vertices : List Pt

abbrev pub at_points : List Position → List Pt
at_points ps = map (λ p. p.xy) ps

-- from where the tool stands, along the last drive surface, to a check surface
abbrev pub motion_said : Told → Position → Drive → Surface → Stop → Motion
motion_said s start drive check how = record {
  start = start;
  drive = drive.surface;
  side = drive.side;
  sense = drive.sense;
  check = check;
  how = how;
  check_side = side_at_check check how start.xy drive.surface (side_at_drive drive.side drive.sense);
  radius = radius_by s.diameter;
  inner = counted s.intol;
  outer = counted s.outtol;
}

-- the first leg runs on the side of its start, or on that into which it heads
abbrev pub first_leg : Motion → Due
first_leg m = record { motion = m; side = stop_side m }

-- the first leg is due behind a check record, where the tool stands somewhere and a drive surface was said
abbrev pub due_said : Told → Surface → Stop → Option Due
due_said s check how = do
  start ← s.position
  drive ← s.drive
  Some (first_leg (motion_said s start drive check how))

-- the leg behind one runs from its last vertex, on the other side of the stop
abbrev pub next_leg : Due → List Pt → Due
next_leg d vertices = record { motion = onward d.motion (last_of d.motion.start.xy vertices); side = opposite d.side }

-- behind a contour record the next leg is due, where one was
abbrev pub due_behind : Option Due → List Position → Option Due
due_behind None vertices = None
due_behind (Some d) vertices = Some (next_leg d (at_points vertices))

-- the leg that is due, with these vertices
abbrev pub cut_on : Due → List Pt → Contour
cut_on d vertices = record { motion = d.motion; side = d.side; vertices = vertices }

-- the leg that a contour record says, where one is due
abbrev pub contour_said : Option Due → List Position → Option Contour
contour_said None vertices = None
contour_said (Some d) vertices = Some (cut_on d (at_points vertices))

-- the last of some positions, behind one
abbrev pub last_position : Option Position → List Position → Option Position
last_position p [] = p
last_position p (v ∷ vs) = last_position (Some v) vs

abbrev pub forward_there : Option Drive → Option Position → Dir → Dir
forward_there None p forward = forward
forward_there (Some d) None forward = forward
forward_there (Some d) (Some p) forward = forward_on d.surface d.sense p.xy

-- behind a contour the tool stands at its last vertex, and forward is that of its drive surface there
abbrev pub with_contour : Told → List Position → Told
with_contour s vertices =
    record s {
      position = last_position s.position vertices;
      forward = forward_there s.drive (last_position s.position vertices) s.forward;
      due = due_behind s.due vertices;
    }

-- ---- the walk over records

-- units, cutter, tolerances, feed and RAPID as a note says them; the other notes change nothing
abbrev pub with_note : Told → Note → Told
with_note s (notes.Units units) = record s { units = units }
with_note s (notes.Cutter d) = record s { diameter = d }
with_note s (notes.Intol t) = record s { intol = t }
with_note s (notes.Outtol t) = record s { outtol = t }
with_note s (notes.Feed f) = record s { feed = f }
with_note s notes.Rapid = record s { rapid = true }
with_note s _ = s

-- what is said behind one record more
abbrev pub with_record : Told → Record → Told
with_record s (records.Statement line step) = s
with_record s (records.Note note) = with_note s note
with_record s (records.Drive surface side sense) = record s { drive = Some (record { surface = surface; side = side; sense = sense }) }
with_record s (records.Check surface how) = record s { due = due_said s surface how }
with_record s (records.Point reach to) = with_point s reach to
with_record s (records.Contour vertices) = with_contour s vertices

-- what a list of records says, behind what was said before
abbrev pub said_behind : Told → List Record → Told
said_behind s [] = s
said_behind s (r ∷ rs) = said_behind (with_record s r) rs

abbrev pub said_of : List Record → Told
said_of rs = said_behind nothing_said rs

abbrev pub record_contours : Told → Record → List Contour
record_contours s (records.Contour vertices) = listed (contour_said s.due vertices)
record_contours s _ = []

-- the legs that records say, behind what was said before
abbrev pub contours_behind : Told → List Record → List Contour
contours_behind s [] = []
contours_behind s (r ∷ rs) = record_contours s r ++ contours_behind (with_record s r) rs

-- the contours of a CL file, leg by leg
abbrev pub contours_of : List Record → List Contour
contours_of rs = contours_behind nothing_said rs

-- ---- legal contours

-- a leg that has an edge that it must not pass, or an axis on which it ends, and is legal from its start through its vertices
pub record IsLegalCut (c : Contour) : Type 0 where
  pub bounded : IsBounded (leg_on c.motion c.side)
  pub legal : IsLegal (leg_on c.motion c.side) c.motion.start.xy c.vertices

-- a fact of every contour
abbrev pub EveryContour : (Contour → Type 0) → List Contour → Type 0
EveryContour P [] = Unit {0}
EveryContour P (c ∷ cs) = P c × EveryContour P cs
