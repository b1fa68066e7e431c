use Rattle.apt_canon.proofs.Ways.{way-IsDir}
use Rattle.apt_canon.proofs.circles.way_between.Goals as goal

pub returns-clause-dir : goal.returns-clause-dir
returns-clause-dir c = rw c.displacement.ensures.value (way-IsDir c.args.p c.args.q c.requires.start c.requires.end c.requires.apart)
