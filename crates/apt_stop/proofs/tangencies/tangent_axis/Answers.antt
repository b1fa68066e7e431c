use Rattle.std.proofs.Common.{rules}
use Rattle.apt_stop.proofs.Axes.{no_axis}
use Rattle.apt_stop.proofs.tangencies.tangent_axis.Goals as goal

pub returns-in-Circ-Circ-clause-none : goal.returns-in-Circ-Circ-clause-none
returns-in-Circ-Circ-clause-none c = no_axis c.axis_of_circles.result c.args.drive.now c.args.check.now (search rules)
