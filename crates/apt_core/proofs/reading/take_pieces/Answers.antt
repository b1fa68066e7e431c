use Rattle.std.proofs.Common.{rules, ◌++◌, take}
use Rattle.apt_core.proofs.Intakes.{read_more, counted_more}
use Rattle.apt_core.proofs.reading.take_pieces.Goals as goal

pub pieces-preserved : goal.pieces-preserved
pieces-preserved g c =
    let inv = c.pieces.invariant in
    let n = c.in_ok-n.n in
    let buf = c.read_piece.new.buf in
    record {
      read = (
        inv.read.0 ++ take n buf,
        read_more _ _ _ _ n buf _ inv.read.1 c.in_ok-n.ensures.taken,
        counted_more _ n buf _ inv.read.2 c.in_ok-n.ensures.within.0,
        c.with-taken.ensures.has c.args.begun inv.read.0 inv.read.3,
      );
      counted = search rules;
      short = c.in_ok-n.ensures.within.1;
      reading = search rules;
      told = search rules;
      writing = search rules;
      write_faults = search rules;
      later = search rules;
    }
