-- The arcs of the plan of legal records can be written.
use Rattle.std.proofs.Common.{refl, ◌≡◌, arith, List, Option, None}
use Rattle.apt_words.specs.declared.deed.Step.{Step}
use Rattle.apt_plane.specs.declared.figures.Circ.{Circ}
use Rattle.apt_records.specs.declared.record.Position.{Position}
use Rattle.apt_records.specs.declared.record.Record.{Record}
use Rattle.apt_certify.proofs.Sweeps.{arc_three}
use Rattle.apt_meaning.specs.Compiled.{first_refused}
use Rattle.apt_meaning.specs.Motions.{leg_on}
use Rattle.apt_meaning.specs.Paths.{Contour, contours_of, IsLegalCut, EveryContour}
use Rattle.apt_meaning.specs.Records.{Follows}
use Rattle.apt_meaning.specs.Situations.{first_situation}
use Rattle.apt_circular.specs.declared.ArcAct.{ArcAct}
use Rattle.apt_circular.specs.ArcPlan.{plan_arcs}
use Rattle.apt_circular.specs.Writable.{CanGo, ArcsCan}
use Rattle.apt_sweeps.proofs.Walk.{TurnsOn, end_of_leg, IsLaw, law_of_plan}

leg_can : (d : Circ) (c : Contour) → TurnsOn d c → CanGo c.motion.start c.motion.sense (end_of_leg c) d.c
leg_can d c turns =
    let three = arc_three (leg_on c.motion c.side) d c.motion.start.xy c.vertices turns.drive turns.sense turns.legal.legal in record {
      sense = turns.sense;
      level = refl;
      start_off = three.start_off;
      end_off = three.end_off;
      apart = three.apart;
      way_x = omega (arith, three.way_x, turns.short);
      way_y = omega (arith, three.way_y, turns.short);
    }

-- acts can go from a position, whatever the contours are
abbrev CanBehind : Option Position → List ArcAct → List Contour → Type 0
CanBehind at done cs = ArcsCan at done

going : IsLaw CanBehind
going = record {
  nothing = λ at. tt;
  plain = λ at act more cs can. can;
  skip = λ at done c cs can. can;
  arc = λ p d c more cs turns can. (leg_can d c turns, can);
}

pub plan_can : (steps : List Step) (written : List Record) → first_refused first_situation steps ≡ None → Follows steps written → EveryContour IsLegalCut (contours_of written) → ArcsCan None (plan_arcs written)
plan_can steps written fine follows legal = law_of_plan CanBehind going steps written fine follows legal
