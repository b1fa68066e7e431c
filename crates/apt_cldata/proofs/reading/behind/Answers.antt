use Rattle.std.proofs.Common.{◌+◌, Err, ap, sym, ◌∙◌, arith}
use Rattle.apt_cldata.proofs.Heads.{head_cut_short}
use Rattle.apt_cldata.proofs.reading.behind.Goals as goal

pub returns-in-None : goal.returns-in-None
returns-in-None c =
    sym c.places.invariant.read ∙ head_cut_short (c.args.at + c.places.i) c.places.i c.args.due.now c.args.bytes.now (omega arith) (omega (arith, c.in-None.ensures.lookup))
    ∙ ap Err (sym c.new.ensures)
