use Rattle.std.proofs.Common.{rules}
use Rattle.apt_offset.proofs.Bands.{edge_in}
use Rattle.apt_offset.proofs.targets.band_at.Goals as goal

pub returns-in-Line-clause-edge : goal.returns-in-Line-clause-edge
returns-in-Line-clause-edge c = let a = c.args in edge_in _ a.s.now a.side a.r a.i a.o (search rules)

pub returns-in-Circ-clause-edge : goal.returns-in-Circ-clause-edge
returns-in-Circ-clause-edge c = let a = c.args in edge_in _ a.s.now a.side a.r a.i a.o (search rules)
