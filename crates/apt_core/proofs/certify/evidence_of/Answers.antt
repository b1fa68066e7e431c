use Rattle.std.proofs.lemmas.Result.{err_from_is_err_and}
use Rattle.apt_core.specs.Request.{four_names}
use Rattle.apt_core.specs.Inputs.{files_on}
use Rattle.apt_core.proofs.Judging.{tape_unread, four_read, either_way}
use Rattle.apt_core.proofs.certify.evidence_of.Goals as goal

pub returns-in_err-difference-clause-stopped : goal.returns-in_err-difference-clause-stopped
returns-in_err-difference-clause-stopped g c =
    let error = err_from_is_err_and c.from_residual-in_err-difference.result c.from_residual-in_err-difference.ensures.1 in
    let d = c.in_ok-records.ensures in
    rw (error.1, error.2) (tape_unread (four_names c.args.names) (files_on g.H.Shelf c.args.shelf.now) (files_on g.H.Shelf c.read_input.new.shelf) (files_on g.H.Shelf c.read_input-2.new.shelf) (files_on g.H.Shelf c.records_input.new.shelf) (files_on g.H.Shelf c.difference_on.new.shelf) c.in_ok-text.text.items c.in_ok-table.table.items d.records.0 _
    c.in_ok-text.ensures.read c.in_ok-text.ensures.text c.in_ok-table.ensures.read c.in_ok-table.ensures.text d.read d.records.1 c.in_err-difference.ensures.stopped)

pub returns-clause-evidence : goal.returns-clause-evidence
returns-clause-evidence g c =
    let table = c.in_ok-table.table.items in
    let d = c.in_ok-records.ensures in
    let e = c.in_ok-difference.ensures in (
      table,
      d.records.0,
      e.differs.0,
      four_read (four_names c.args.names) (files_on g.H.Shelf c.args.shelf.now) (files_on g.H.Shelf c.read_input.new.shelf) (files_on g.H.Shelf c.read_input-2.new.shelf) (files_on g.H.Shelf c.records_input.new.shelf) c.in_ok-text.text.items table d.records.0 e.differs.0
          c.in_ok-text.ensures.read c.in_ok-text.ensures.text c.in_ok-table.ensures.read c.in_ok-table.ensures.text d.read d.records.1 e.differs.1,
      record {
        machine = rw c.deref.ensures.value at (either_way c.machine_of-machine.result _ _ c.machine_of-machine.ensures.machine c.machine_of-machine.ensures.none);
        records = d.records.2;
        difference = e.differs.2;
      },
    )
