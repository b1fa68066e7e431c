use Rattle.std.proofs.Common.{◌≡◌, w64}
use Rattle.std.proofs.lemmas.Int.{to_z-of_z}
use Rattle.apt_canon.specs.Rounds as rounds
use Rattle.apt_canon.proofs.DefinedCircles.Laws.{of_degenerate, of_too_large, of_range}
use Rattle.apt_canon.proofs.rounds.circle_of.Goals as goal

value : (c : goal.After-circle_of_value) → c.circle_of_value.result ≡ rounds.circle_of c.args.c c.args.r
value c = rw (to_z-of_z w64 c.args.r c.ranges.r) at c.circle_of_value.ensures

pub returns-clause-degenerate : goal.returns-clause-degenerate
returns-clause-degenerate c = of_degenerate c.circle_of_value.result c.args.c c.args.r (value c)

pub returns-clause-too_large : goal.returns-clause-too_large
returns-clause-too_large c = of_too_large c.circle_of_value.result c.args.c c.args.r (value c)

pub returns-clause-range : goal.returns-clause-range
returns-clause-range c = of_range c.circle_of_value.result c.args.c c.args.r (value c)
