use Rattle.std.proofs.Common.{rules}
use Rattle.apt_stop.proofs.TouchTests.{tells_touch}
use Rattle.apt_stop.proofs.gaps.is_touching.Goals as goal

pub returns-in-Line-Circ-clause-touching : goal.returns-in-Line-Circ-clause-touching
returns-in-Line-Circ-clause-touching c = tells_touch c.line_touches.result c.args.drive.now c.args.check.now c.requires.drive c.requires.check (search rules)

pub returns-in-Circ-Line-clause-touching : goal.returns-in-Circ-Line-clause-touching
returns-in-Circ-Line-clause-touching c = tells_touch c.line_touches-in-Circ-Line.result c.args.drive.now c.args.check.now c.requires.drive c.requires.check (search rules)

pub returns-in-Circ-Circ-clause-touching : goal.returns-in-Circ-Circ-clause-touching
returns-in-Circ-Circ-clause-touching c = tells_touch c.circles_touch.result c.args.drive.now c.args.check.now c.requires.drive c.requires.check (search rules)
