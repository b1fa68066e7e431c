use Rattle.std.proofs.Common.{◌≡◌, ◌≤◌, ◌+◌, ◌++◌, length}
use Rattle.apt_shelf.specs.Files.{AddsFront}
use Rattle.apt_shelf.proofs.pieces.Pieces.push.Given as goal

abbrev pub invariant-pieces : goal.invariant-pieces
invariant-pieces g l =
    let H = g.H.Shelf in
    record {
      added : AddsFront (H.writing l.fn.shelf) (l.fn.self ++ l.fn.bytes) (l.self ++ l.rest) (H.told l.fn.shelf) (H.told l.shelf);
      writing : H.writing l.shelf ≡ H.writing l.fn.shelf;
      reading : H.reading l.shelf ≡ H.reading l.fn.shelf;
      left : H.left l.shelf ≡ H.left l.fn.shelf;
      read_faults : H.read_faults l.shelf ≡ H.read_faults l.fn.shelf;
      later : H.write_faults l.fn.shelf ≤ H.write_faults l.shelf;
    }

abbrev pub decreases-pieces : goal.decreases-pieces
decreases-pieces g l = length l.self + length l.rest
