use Rattle.std.proofs.Common.{rules, refl, ◌≡◌, FitsSigned, w64, ◌∙◌}
use Rattle.std.proofs.lemmas.Int.{to_z-of_z}
use Rattle.apt_canon.specs.Rounds as rounds
use Rattle.apt_canon.proofs.DefinedCircles.Laws.{of_degenerate, of_too_large, of_range, of_centre, of_touching}
use Rattle.apt_canon.proofs.rounds.circle_touching.Goals as goal

value : (c : goal.After-circle_of_value) → c.circle_of_value.result ≡ rounds.circle_touching c.args.c c.args.l.now
value c =
    let fits : FitsSigned w64 c.distance_from_line.result = search rules in
    let made : c.circle_of_value.result ≡ rounds.circle_of c.args.c c.distance_from_line.result = rw (to_z-of_z w64 c.distance_from_line.result fits) at c.circle_of_value.ensures in
    made ∙ rw c.distance_from_line.ensures refl

pub returns-clause-degenerate : goal.returns-clause-degenerate
returns-clause-degenerate c = of_degenerate c.circle_of_value.result c.args.c (rounds.distance_from_line c.args.c c.args.l.now) (value c)

pub returns-clause-too_large : goal.returns-clause-too_large
returns-clause-too_large c = of_too_large c.circle_of_value.result c.args.c (rounds.distance_from_line c.args.c c.args.l.now) (value c)

pub returns-clause-range : goal.returns-clause-range
returns-clause-range c = of_range c.circle_of_value.result c.args.c (rounds.distance_from_line c.args.c c.args.l.now) (value c)

pub returns-clause-centre : goal.returns-clause-centre
returns-clause-centre c = of_centre c.circle_of_value.result c.args.c (rounds.distance_from_line c.args.c c.args.l.now) (value c)

pub returns-clause-touches : goal.returns-clause-touches
returns-clause-touches c = of_touching c.circle_of_value.result c.args.c c.args.l.now c.requires.c c.requires.l (value c)
