use Rattle.std.proofs.Common.{◌≡◌, ◌≤◌, ◌-◌, ◌+◌, true, ℕ, List, length}
use Rattle.apt_shelf.specs.Files.{HasRead}
use Rattle.apt_part.specs.Promise.{file_limit}
use Rattle.apt_core.proofs.reading.take_pieces.Given as goal

abbrev pub invariant-pieces : goal.invariant-pieces
invariant-pieces g l =
    let H = g.H.Shelf in
    let I = g.I.Intake in
    record {
      read : (front : List ℕ) × HasRead (H.told l.fn.shelf) l.fn.name (H.left l.shelf) front × (l.count ≡ length front) × I.has l.fn.begun l.taken front;
      counted : I.count l.taken ≤ l.count;
      short : l.count ≤ file_limit;
      reading : H.reading l.shelf ≡ true;
      told : H.told l.shelf ≡ H.told l.fn.shelf;
      writing : H.writing l.shelf ≡ H.writing l.fn.shelf;
      write_faults : H.write_faults l.shelf ≡ H.write_faults l.fn.shelf;
      later : H.read_faults l.fn.shelf ≤ H.read_faults l.shelf;
    }

abbrev pub decreases-pieces : goal.decreases-pieces
decreases-pieces g l = file_limit + 1 - l.count
