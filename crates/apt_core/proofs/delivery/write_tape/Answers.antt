use Rattle.std.proofs.Common.{rules, ◌∙◌}
use Rattle.apt_shelf.proofs.ToldLaws.{on_err}
use Rattle.apt_core.proofs.Deliveries.{piece_refused, piece_taken, last_refused, last_written}
use Rattle.apt_core.proofs.delivery.write_tape.Goals as goal

pub pieces-preserved : goal.pieces-preserved
pieces-preserved g c =
    let inv = c.pieces.invariant in
    record {
      written = piece_taken _ _ _ _ _ _ _ _ _ _ _ inv.writing inv.written c.take_piece.ensures.taken (rw c.deref.ensures.0 at c.in_ok-push.ensures.ok.1);
      writing = c.in_ok-push.ensures.ok.0 ∙ inv.writing;
      read_faults = search rules;
      later = search rules;
    }

pub returns-in_err-push-clause-err : goal.returns-in_err-push-clause-err
returns-in_err-push-clause-err g c =
    let inv = c.pieces.invariant in
    on_err _ _ (piece_refused _ _ _ _ _ _ _ _ _ _ inv.writing inv.written c.take_piece.ensures.taken (rw c.deref.ensures.0 at c.in_err-push.ensures.err))

pub returns-in_err-finish-clause-err : goal.returns-in_err-finish-clause-err
returns-in_err-finish-clause-err g c =
    let inv = c.pieces.invariant in
    on_err _ _ (last_refused _ _ _ _ _ _ _ _ inv.writing inv.written c.in_err-finish.ensures.err)

pub returns-clause-ok : goal.returns-clause-ok
returns-clause-ok g c =
    let inv = c.pieces.invariant in
    last_written _ _ _ _ _ _ _ _ inv.writing inv.written (search rules) c.in_ok-finish.ensures.ok.1
