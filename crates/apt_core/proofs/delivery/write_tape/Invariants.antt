use Rattle.std.proofs.Common.{◌≡◌, ◌≤◌, Some, length}
use Rattle.apt_core.proofs.Deliveries.{IsWriting}
use Rattle.apt_core.proofs.delivery.write_tape.Given as goal

abbrev pub invariant-pieces : goal.invariant-pieces
invariant-pieces g l =
    let H = g.H.Shelf in
    record {
      written : IsWriting l.fn.name l.fn.tape l.pieces l.left (H.told l.fn.shelf) (H.told l.shelf);
      writing : H.writing l.shelf ≡ Some l.fn.name;
      read_faults : H.read_faults l.shelf ≡ H.read_faults l.fn.shelf;
      later : H.write_faults l.fn.shelf ≤ H.write_faults l.shelf;
    }

abbrev pub decreases-pieces : goal.decreases-pieces
decreases-pieces g l = length l.left
