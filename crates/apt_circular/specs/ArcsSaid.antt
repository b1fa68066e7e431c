-- The acts that a CL file asks for on a machine that cuts a leg round a circle as one arc, read off its records alone. What a record asks for is told by the records in front of it, looked back over from the latest.
use Rattle.std.specs.Prelude.{Bool, true, false, List, [], ◌∷◌, ◌++◌, map, Option, Some, None, if◌then◌else◌}
use Rattle.apt_records.specs.declared.record.Position.{Position}
use Rattle.apt_records.specs.declared.record.Reach.TheVariants as reaches
use Rattle.apt_records.specs.declared.record.Record.{Record}
use Rattle.apt_records.specs.declared.record.Record.TheVariants as records
use Rattle.apt_control.specs.declared.Act.TheVariants as acts
use Rattle.apt_post.specs.Said.{feed_said, units_said, record_said}
use Rattle.apt_circular.specs.declared.ArcAct.{ArcAct}
use Rattle.apt_circular.specs.declared.ArcAct.TheVariants.{Plain, Arc}
use Rattle.apt_circular.specs.declared.planning.Round.{Round}
use Rattle.apt_circular.specs.ArcPlan.{round_on}

-- the circle of the drive surface that was said last, with the sense of the motion round it; a line is none
abbrev pub round_said : List Record → Option Round
round_said [] = None
round_said (records.Drive surface side sense ∷ before) = round_on surface sense
round_said (_ ∷ before) = round_said before

-- a move was said; FROM is no move
abbrev pub has_moved : List Record → Bool
has_moved [] = false
has_moved (records.Point reaches.Goto to ∷ before) = true
has_moved (records.Point reaches.Godlta to ∷ before) = true
has_moved (records.Point reaches.Start to ∷ before) = true
has_moved (records.Contour vertices ∷ before) = true
has_moved (_ ∷ before) = has_moved before

-- the circle round which a contour is cut: there is none before the first move
abbrev pub circle_by : List Record → Option Round
circle_by before = if has_moved before then round_said before else None

-- one arc to the last vertex, with the feed that was said last
abbrev pub arc_by : List Record → Round → List Position → List ArcAct
arc_by before round [] = []
arc_by before round (to ∷ []) = Arc round.sense to.xy.x to.xy.y to.z round.centre.x round.centre.y (feed_said before) ∷ []
arc_by before round (_ ∷ more) = arc_by before round more

-- what a record asks for: a contour round a circle for one arc, every other record for what it asks for on any machine
abbrev pub arcs_by : List Record → Record → Option Round → List ArcAct
arcs_by before (records.Contour vertices) (Some round) = arc_by before round vertices
arcs_by before r _ = map Plain (record_said before r)

-- what records ask for behind those before them, each by itself
abbrev pub arcs_asked : List Record → List Record → List ArcAct
arcs_asked before [] = []
arcs_asked before (r ∷ rs) = arcs_by before r (circle_by before) ++ arcs_asked (r ∷ before) rs

-- the units first, and then what each record asks for, in order
abbrev pub arcs_of : List Record → List ArcAct
arcs_of rs = Plain (acts.Units (units_said rs)) ∷ arcs_asked [] rs
