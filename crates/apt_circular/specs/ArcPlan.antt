-- The acts that records ask for on a machine that cuts a leg round a circle as one arc.
use Rattle.std.specs.Prelude.{ℤ, Bool, true, false, List, [], ◌∷◌, ◌++◌, map, Option, Some, None, if◌then◌else◌}
use Rattle.apt_words.specs.declared.Units.{Units}
use Rattle.apt_plane.specs.declared.figures.Surface.{Surface}
use Rattle.apt_plane.specs.declared.figures.Surface.TheVariants as surfaces
use Rattle.apt_records.specs.declared.record.Position.{Position}
use Rattle.apt_records.specs.declared.record.Reach.{Reach}
use Rattle.apt_records.specs.declared.record.Reach.TheVariants as reaches
use Rattle.apt_records.specs.declared.record.Record.{Record}
use Rattle.apt_records.specs.declared.record.Record.TheVariants as records
use Rattle.apt_control.specs.declared.Act.TheVariants as acts
use Rattle.apt_post.specs.declared.planning.Pending.{Pending}
use Rattle.apt_post.specs.Plan.{nothing_pending, cut_to, note_acts, point_acts, note_pending, point_pending, units_of, units_acts}
use Rattle.apt_circular.specs.declared.ArcAct.{ArcAct}
use Rattle.apt_circular.specs.declared.ArcAct.TheVariants.{Plain, Arc}
use Rattle.apt_circular.specs.declared.planning.Round.{Round}
use Rattle.apt_circular.specs.declared.planning.Coming.{Coming}

-- the circle of a drive surface with the sense of the motion round it, none along a line
abbrev pub round_on : Surface → ℤ → Option Round
round_on (surfaces.Line l) sense = None
round_on (surfaces.Circ c) sense = Some (record { centre = c.c; sense = sense })

-- before the first record nothing is pending, the tape has given no position, and there is no drive surface
abbrev pub nothing_coming : Coming
nothing_coming = record { pending = nothing_pending; moved = false; round = None }

-- ---- a contour

-- the last of a vertex and those behind it
abbrev pub last_from : Position → List Position → Position
last_from p [] = p
last_from p (v ∷ vs) = last_from v vs

-- an arc about the centre to a position, in the sense of the motion, with the feed that holds
abbrev pub arc_to : Pending → Round → Position → ArcAct
arc_to p r to = Arc r.sense to.xy.x to.xy.y to.z r.centre.x r.centre.y p.feed

abbrev pub plain_cut : Pending → Position → ArcAct
plain_cut p to = Plain (cut_to p to)

-- along a line each vertex is cut to, round a circle the last one at once
abbrev pub cut_acts : Pending → Option Round → List Position → List ArcAct
cut_acts p None vertices = map (plain_cut p) vertices
cut_acts p (Some r) [] = []
cut_acts p (Some r) (v ∷ vs) = arc_to p r (last_from v vs) ∷ []

-- the circle round which a contour is cut as one arc: only from a position that the tape has given
abbrev pub turning : Coming → Option Round
turning c = if c.moved then c.round else None

abbrev pub contour_acts : Coming → List Position → List ArcAct
contour_acts c vertices = cut_acts c.pending (turning c) vertices

-- ---- the walk over records

-- the acts of one record: those of the plain plan, but for contours
abbrev pub record_arcs : Coming → Record → List ArcAct
record_arcs c (records.Statement line step) = []
record_arcs c (records.Note note) = map Plain (note_acts c.pending note)
record_arcs c (records.Drive surface side sense) = []
record_arcs c (records.Check surface how) = []
record_arcs c (records.Point reach to) = map Plain (point_acts c.pending reach to)
record_arcs c (records.Contour vertices) = contour_acts c vertices

-- a move gives the tape a position, FROM does not
abbrev pub moved_by : Bool → Reach → Bool
moved_by moved reaches.From = moved
moved_by moved reaches.Goto = true
moved_by moved reaches.Godlta = true
moved_by moved reaches.Start = true

-- what holds behind one record: the circle is that of the last drive surface
abbrev pub coming_behind : Coming → Record → Coming
coming_behind c (records.Statement line step) = c
coming_behind c (records.Note note) = record c { pending = note_pending c.pending note }
coming_behind c (records.Drive surface side sense) = record c { round = round_on surface sense }
coming_behind c (records.Check surface how) = c
coming_behind c (records.Point reach to) = record c { pending = point_pending c.pending reach; moved = moved_by c.moved reach }
coming_behind c (records.Contour vertices) = record c { moved = true }

-- the acts of records, in order
abbrev pub arcs_from : Coming → List Record → List ArcAct
arcs_from c [] = []
arcs_from c (r ∷ rs) = record_arcs c r ++ arcs_from (coming_behind c r) rs

-- the act of units that are still to be given
abbrev pub plain_units : Option Units → List ArcAct
plain_units units = map Plain (units_acts units)

-- the plan of records with arcs: the units, and the acts of each record in order
abbrev pub plan_arcs : List Record → List ArcAct
plan_arcs rs = Plain (acts.Units (units_of rs)) ∷ arcs_from nothing_coming rs
