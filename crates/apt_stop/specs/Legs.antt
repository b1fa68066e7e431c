-- The legs of a contour with one stop: where they end, and what refuses them.
use Rattle.std.specs.Prelude.{◌≡◌, ℕ, ℤ, pos, ◌<ℤ◌, ◌&&◌, Bool, true, false, List, ◌∷◌, ◌++◌, Some, None, unwrap_or, IfSome}
use Rattle.apt_num.specs.declared.Sign.{Sign}
use Rattle.apt_words.specs.declared.Case.TheVariants as cases
use Rattle.apt_words.specs.Rows.{Row, NoneHolds}
use Rattle.apt_plane.specs.declared.figures.Pt.{Pt}
use Rattle.apt_plane.specs.declared.figures.Surface.{Surface}
use Rattle.apt_plane.specs.declared.figures.Surface.TheVariants as surfaces
use Rattle.apt_plane.specs.Ranges.{IsPoint}
use Rattle.apt_offset.specs.Turns.{opposite}
use Rattle.apt_offset.specs.Sides.{side_at_check, is_on_check, StopsAside}
use Rattle.apt_offset.specs.Targets.{offset_surface}
use Rattle.apt_contact.specs.Contacts.{IsNearTarget}
use Rattle.apt_stop.specs.declared.course.Course.{Course}
use Rattle.apt_stop.specs.declared.legs.Legs.{Legs}
use Rattle.apt_stop.specs.declared.legs.Legs.TheVariants as legs
use Rattle.apt_stop.specs.declared.legs.Ends.{Ends}
use Rattle.apt_stop.specs.Courses.{starts_near_stop, kept_side}
use Rattle.apt_stop.specs.Choices.{end_of, stop_cases, way_cases}
use Rattle.apt_stop.specs.Ends.{IsEndOn}

abbrev pub leg_count : Legs → ℕ
leg_count legs.One = 1
leg_count legs.Two = 2

-- the leg behind a course: to the same stop, from where the course ends
abbrev pub next_leg : Course → Course
next_leg c = record c { start = end_of c }

-- ---- what refuses so many legs

abbrev pub is_round : Surface → Bool
is_round (surfaces.Line l) = false
is_round (surfaces.Circ c) = true

-- round a circle from near its stop, two legs would turn fully
abbrev pub turns_fully : Course → Bool
turns_fully c = is_round c.drive && starts_near_stop c

-- whether each leg leads to its end, within the coordinate limit
abbrev pub ways_of : Legs → Course → List Row
ways_of legs.One c = way_cases c
ways_of legs.Two c = (turns_fully c, cases.FullTurn) ∷ way_cases c ++ way_cases (next_leg c)

abbrev pub leg_cases : Legs → Course → List Row
leg_cases n c = stop_cases c ++ ways_of n c

abbrev pub IsRound : Surface → Type 0
IsRound (surfaces.Line l) = ⊥
IsRound (surfaces.Circ c) = Unit {0}

-- two legs round a circle turn fully where they start at most 8 grid units from their stop, and nothing refuses the stop
pub record IsFullTurn (n : Legs) (c : Course) : Type 0 where
  pub two : n ≡ legs.Two
  pub round : IsRound c.drive
  pub near : IsNearTarget c.stop (pos 8) c.start
  pub free : NoneHolds (stop_cases c)

-- ---- where they end

abbrev pub ends_of : Legs → Course → Ends
ends_of legs.One c = record { first = end_of c; second = None }
ends_of legs.Two c = record { first = end_of c; second = Some (end_of (next_leg c)) }

abbrev pub last_end : Ends → Pt
last_end e = unwrap_or e.second e.first

abbrev pub AreEnds : Ends → Type 0
AreEnds e = IsPoint e.first × IfSome e.second IsPoint

-- the second leg runs on the other side of the stop, to its own end
pub record IsSecond (c : Course) (q : Pt) : Type 0 where
  pub side : kept_side (next_leg c) ≡ opposite (kept_side c)
  pub end : IsEndOn c.track (next_leg c) q

abbrev pub LegsEnd : Course → Ends → Type 0
LegsEnd c e = IsEndOn c.track c e.first × IfSome e.second (IsSecond c)

-- ---- on which side

-- the stop is that of the start, by a cutter's radius of more than a unit: the check surface, moved to the place at which a motion stops that starts off it
pub record IsStopOfStart (c : Course) : Type 0 where
  pub at_drive : Sign
  pub radius : ℤ
  pub more : pos 1 <ℤ radius
  pub off : is_on_check c.how (side_at_check c.check c.how c.start c.drive at_drive) ≡ false
  pub stop : c.stop ≡ offset_surface c.check (side_at_check c.check c.how c.start c.drive at_drive) radius

-- each leg ends on the side of the check surface on which the first starts under TO, and on the other under PAST
abbrev pub LegsStopAside : Course → Ends → Type 0
LegsStopAside c e = StopsAside c.check c.how c.start e.first × IfSome e.second (StopsAside c.check c.how c.start)
