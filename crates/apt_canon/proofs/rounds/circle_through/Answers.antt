use Rattle.std.proofs.Common.{rules, refl, ◌≡◌, FitsSigned, w64, ◌∙◌}
use Rattle.std.proofs.lemmas.Int.{to_z-of_z}
use Rattle.apt_canon.specs.Rounds as rounds
use Rattle.apt_canon.proofs.DefinedCircles.Laws.{of_degenerate, of_too_large, of_range, of_centre, of_through}
use Rattle.apt_canon.proofs.rounds.circle_through.Goals as goal

value : (c : goal.After-circle_of_value) → c.circle_of_value.result ≡ rounds.circle_through c.args.c c.args.p
value c =
    let fits : FitsSigned w64 c.length_near.result = search rules in
    let made : c.circle_of_value.result ≡ rounds.circle_of c.args.c c.length_near.result = rw (to_z-of_z w64 c.length_near.result fits) at c.circle_of_value.ensures in
    made ∙ rw (c.length_near.ensures, c.displacement.ensures.value) refl

pub returns-clause-degenerate : goal.returns-clause-degenerate
returns-clause-degenerate c = of_degenerate c.circle_of_value.result c.args.c (rounds.about_through c.args.c c.args.p).r (value c)

pub returns-clause-too_large : goal.returns-clause-too_large
returns-clause-too_large c = of_too_large c.circle_of_value.result c.args.c (rounds.about_through c.args.c c.args.p).r (value c)

pub returns-clause-range : goal.returns-clause-range
returns-clause-range c = of_range c.circle_of_value.result c.args.c (rounds.about_through c.args.c c.args.p).r (value c)

pub returns-clause-centre : goal.returns-clause-centre
returns-clause-centre c = of_centre c.circle_of_value.result c.args.c (rounds.about_through c.args.c c.args.p).r (value c)

pub returns-clause-through : goal.returns-clause-through
returns-clause-through c = of_through c.circle_of_value.result c.args.c c.args.p c.requires.c c.requires.p (value c)
