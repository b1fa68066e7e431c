use Rattle.std.proofs.Common.{◌≡◌, ◌≤◌, true, ◌-◌, ◌+◌, vec_len}
use Rattle.apt_shelf.specs.Files.{HasRead}
use Rattle.apt_shelf.proofs.files.read_all.Given as goal

abbrev pub invariant-pieces : goal.invariant-pieces
invariant-pieces g l =
    let H = g.H.Shelf in
    record {
      read : HasRead (H.told l.fn.shelf) l.fn.name (H.left l.shelf) l.bytes.items;
      short : vec_len l.bytes ≤ l.limit;
      reading : H.reading l.shelf ≡ true;
      told : H.told l.shelf ≡ H.told l.fn.shelf;
      writing : H.writing l.shelf ≡ H.writing l.fn.shelf;
      write_faults : H.write_faults l.shelf ≡ H.write_faults l.fn.shelf;
      later : H.read_faults l.fn.shelf ≤ H.read_faults l.shelf;
    }

abbrev pub decreases-pieces : goal.decreases-pieces
decreases-pieces g l = l.limit + 1 - vec_len l.bytes
