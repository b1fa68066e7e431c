-- The arcs of the plan of legal records are those of their contours, and stay by their legs.
use Rattle.std.proofs.Common.{refl, ◌≡◌, inl, inr, List, [], ◌∷◌, Option, None}
use Rattle.apt_words.specs.declared.deed.Step.{Step}
use Rattle.apt_plane.specs.declared.figures.Circ.{Circ}
use Rattle.apt_plane.specs.Sweeps.{Sweep}
use Rattle.apt_records.specs.declared.record.Position.{Position}
use Rattle.apt_records.specs.declared.record.Record.{Record}
use Rattle.apt_certify.specs.Keeping.{sweep_of}
use Rattle.apt_certify.proofs.Sweeps.{arc_within}
use Rattle.apt_meaning.specs.Compiled.{first_refused}
use Rattle.apt_meaning.specs.Motions.{leg_on}
use Rattle.apt_meaning.specs.Paths.{Contour, contours_of, IsLegalCut, EveryContour}
use Rattle.apt_meaning.specs.Records.{Follows}
use Rattle.apt_meaning.specs.Situations.{first_situation}
use Rattle.apt_circular.specs.declared.ArcAct.{ArcAct}
use Rattle.apt_circular.specs.ArcPlan.{plan_arcs}
use Rattle.apt_sweeps.specs.ArcSweeps.{sweeps_behind, sweeps_of, IsArcOf, AreArcsOf}
use Rattle.apt_sweeps.proofs.Walk.{TurnsOn, IsLaw, law_of_plan}

-- a contour without an arc
skip : (ws : List (Option Sweep)) (c : Contour) (cs : List Contour) → AreArcsOf ws cs → AreArcsOf ws (c ∷ cs)
skip [] c cs are = tt
skip (w ∷ ws) c cs are = inr are

arc_of_leg : (d : Circ) (c : Contour) → TurnsOn d c → IsArcOf (sweep_of d.c c.motion.sense c.motion.start.xy c.vertices) c
arc_of_leg d c turns =
    record { surface = d; drive = turns.drive; is = refl; stays = arc_within (leg_on c.motion c.side) d c.motion.start.xy c.vertices turns.drive turns.sense turns.legal.legal }

-- the arcs of acts behind a position are those of contours
abbrev Belong : Option Position → List ArcAct → List Contour → Type 0
Belong at done cs = AreArcsOf (sweeps_behind at done) cs

belonging : IsLaw Belong
belonging = record {
  nothing = λ at. tt;
  plain = λ at act more cs are. are;
  skip = λ at done c cs are. skip (sweeps_behind at done) c cs are;
  arc = λ p d c more cs turns are. inl (arc_of_leg d c turns, are);
}

pub plan_sweeps : (steps : List Step) (written : List Record) → first_refused first_situation steps ≡ None → Follows steps written → EveryContour IsLegalCut (contours_of written)
    → AreArcsOf (sweeps_of (plan_arcs written)) (contours_of written)
plan_sweeps steps written fine follows legal = law_of_plan Belong belonging steps written fine follows legal
