use Rattle.std.proofs.Common.{rules}
use Rattle.apt_plane.proofs.Turns.{order_told}
use Rattle.apt_plane.proofs.order.before.Goals as goal

pub returns-clause-order : goal.returns-clause-order
returns-clause-order c = order_told c.is_earlier.result c.args.s c.args.u c.args.v c.args.sense (search rules)
