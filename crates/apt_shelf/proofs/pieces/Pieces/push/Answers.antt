use Rattle.std.proofs.Common.{rules, ◌≡◌, ◌++◌, ◌∙◌, append_assoc, length, ap, arith}
use Rattle.std.proofs.lemmas.List.{take-append-drop, length-append}
use Rattle.apt_shelf.proofs.ToldLaws.{adds_behind, keeps_behind, held_more, on_err}
use Rattle.apt_shelf.proofs.pieces.Pieces.push.Goals as goal

pub returns-in_err-append-clause-err : goal.returns-in_err-append-clause-err
returns-in_err-append-clause-err g c =
    let inv = c.pieces.invariant in
    let seam : c.split_at.result.0.now ++ c.split_at.result.1.now ≡ c.pieces.rest.now = rw (c.split_at.ensures.front, c.split_at.ensures.back) (take-append-drop c.room-in-pieces.result c.pieces.rest.now) in
    let joined = held_more _ _ _ _ _ _ _ inv.added.1 seam c.hold.ensures in
    on_err _ _ (keeps_behind _ _ _ _ _ _ _ _ joined inv.added.2 (rw inv.writing at c.in_err-append.ensures.err))

pub pieces-preserved : goal.pieces-preserved
pieces-preserved g c =
    let inv = c.pieces.invariant in
    let seam : c.split_at.result.0.now ++ c.split_at.result.1.now ≡ c.pieces.rest.now = rw (c.split_at.ensures.front, c.split_at.ensures.back) (take-append-drop c.room-in-pieces.result c.pieces.rest.now) in
    let joined = held_more _ _ _ _ _ _ _ inv.added.1 seam c.hold.ensures in
    let full = simp length-append at (ap length c.hold.ensures) in
    record {
      added = (
        inv.added.0 ++ c.hold.new.self,
        rw (c.in_ok-append.ensures.none, append_assoc) joined,
        adds_behind _ _ _ _ _ _ (omega (arith, full, c.split_at.ensures.front_len, c.room-in-pieces.ensures)) inv.added.2 (rw inv.writing at c.in_ok-append.ensures.ok.1),
      );
      writing = c.in_ok-append.ensures.ok.0 ∙ inv.writing;
      reading = search rules;
      left = search rules;
      read_faults = search rules;
      later = search rules;
    }
