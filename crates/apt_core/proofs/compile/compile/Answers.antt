use Rattle.std.proofs.Common.{[], ◌∷◌, inl, inr, refl, arith, rules}
use Rattle.std.proofs.lemmas.Result.{err_from_is_err_and}
use Rattle.apt_core.specs.Request.{four_names}
use Rattle.apt_core.specs.Inputs.{Files, files_on, AreRead, input, part_limit, machine_limit, part_inputs, ReadsAll}
use Rattle.apt_core.specs.Outputs.{output_of, IsOutput}
use Rattle.apt_core.proofs.Readings.{read_on, reads_next, stopped_first, stopped_next}
use Rattle.apt_core.proofs.Compiling.{AreWritten, stopped_compiles, none_compiles, whole_compiles, cut_compiles}
use Rattle.apt_core.proofs.compile.compile.Goals as goal

pub returns-in_err-text : goal.returns-in_err-text
returns-in_err-text g c =
    let error = err_from_is_err_and c.from_residual.result c.from_residual.ensures.1 in
    let n = four_names c.args.names in
    let part = input n.part part_limit in
    let machine = input n.machine machine_limit in
    let before : Files = files_on g.H.Shelf c.args.shelf.now in
    let one : Files = files_on g.H.Shelf c.read_input.new.shelf in
    let a = c.in_err-text.ensures in
    rw (error.1, error.2) (stopped_compiles n before one _ a.read (stopped_first part (machine ∷ []) before one _ a.stopped))

pub returns-in_err-table : goal.returns-in_err-table
returns-in_err-table g c =
    let error = err_from_is_err_and c.from_residual-in_err-table.result c.from_residual-in_err-table.ensures.1 in
    let n = four_names c.args.names in
    let part = input n.part part_limit in
    let machine = input n.machine machine_limit in
    let before : Files = files_on g.H.Shelf c.args.shelf.now in
    let one : Files = files_on g.H.Shelf c.read_input.new.shelf in
    let two : Files = files_on g.H.Shelf c.read_input-2.new.shelf in
    let a = c.in_ok-text.ensures in
    let b = c.in_err-table.ensures in
    rw (error.1, error.2) (stopped_compiles n before two _ (read_on before one two a.read b.read)
    (stopped_next before one two part c.in_ok-text.text.items (machine ∷ []) _ a.read a.text b.stopped))

pub returns-in_err-output : goal.returns-in_err-output
returns-in_err-output g c =
    let error = err_from_is_err_and c.from_residual-in_err-output.result c.from_residual-in_err-output.ensures.1 in
    let n = four_names c.args.names in
    let part = input n.part part_limit in
    let machine = input n.machine machine_limit in
    let before : Files = files_on g.H.Shelf c.args.shelf.now in
    let one : Files = files_on g.H.Shelf c.read_input.new.shelf in
    let two : Files = files_on g.H.Shelf c.read_input-2.new.shelf in
    let a = c.in_ok-text.ensures in
    let b = c.in_ok-table.ensures in
    let text = c.in_ok-text.text.items in
    let table = c.in_ok-table.table.items in
    let read : AreRead before two = read_on before one two a.read b.read in
    let reads : ReadsAll before.told (part_inputs n) (text ∷ table ∷ []) = reads_next before one part text (machine ∷ []) (table ∷ []) a.read a.text (b.text, tt) in
    rw (error.1, error.2) (none_compiles n text table before two _ read reads (rw c.deref.ensures.value at c.in_err-output.ensures.none))

pub returns-in-Ok : goal.returns-in-Ok
returns-in-Ok g c =
    let n = four_names c.args.names in
    let part = input n.part part_limit in
    let machine = input n.machine machine_limit in
    let before : Files = files_on g.H.Shelf c.args.shelf.now in
    let one : Files = files_on g.H.Shelf c.read_input.new.shelf in
    let two : Files = files_on g.H.Shelf c.read_input-2.new.shelf in
    let a = c.in_ok-text.ensures in
    let b = c.in_ok-table.ensures in
    let text = c.in_ok-text.text.items in
    let table = c.in_ok-table.table.items in
    let read : AreRead before two = read_on before one two a.read b.read in
    let reads : ReadsAll before.told (part_inputs n) (text ∷ table ∷ []) = reads_next before one part text (machine ∷ []) (table ∷ []) a.read a.text (b.text, tt) in
    let last : Files = files_on g.H.Shelf c.deliver.new.shelf in
    let output = output_of c.in_ok-output.output.machine c.in_ok-output.output.records.items in
    let is : IsOutput text table output = rw c.deref.ensures.value at c.in_ok-output.ensures.output in
    let w = c.in-Ok.ensures in
    let counts : AreWritten before last = record { reads_later = omega (arith, read.later, w.read_faults); writes_later = omega (arith, read.unfailed, w.later) } in
    rw w.told (whole_compiles n text table before two last output c.requires.apart read counts reads is w.whole)

pub returns-in-Err-Fault : goal.returns-in-Err-Fault
returns-in-Err-Fault g c =
    let n = four_names c.args.names in
    let part = input n.part part_limit in
    let machine = input n.machine machine_limit in
    let before : Files = files_on g.H.Shelf c.args.shelf.now in
    let one : Files = files_on g.H.Shelf c.read_input.new.shelf in
    let two : Files = files_on g.H.Shelf c.read_input-2.new.shelf in
    let a = c.in_ok-text.ensures in
    let b = c.in_ok-table.ensures in
    let text = c.in_ok-text.text.items in
    let table = c.in_ok-table.table.items in
    let read : AreRead before two = read_on before one two a.read b.read in
    let reads : ReadsAll before.told (part_inputs n) (text ∷ table ∷ []) = reads_next before one part text (machine ∷ []) (table ∷ []) a.read a.text (b.text, tt) in
    let last : Files = files_on g.H.Shelf c.deliver.new.shelf in
    let output = output_of c.in_ok-output.output.machine c.in_ok-output.output.records.items in
    let is : IsOutput text table output = rw c.deref.ensures.value at c.in_ok-output.ensures.output in
    let w = c.in-Err-Fault.ensures in
    let counts : AreWritten before last = record { reads_later = omega (arith, read.later, w.read_faults); writes_later = omega (arith, read.unfailed, w.later) } in
    cut_compiles n text table before two last output _ read counts reads is w.front (inl (refl, w.fault (search rules)))

pub returns : goal.returns
returns g c =
    let n = four_names c.args.names in
    let part = input n.part part_limit in
    let machine = input n.machine machine_limit in
    let before : Files = files_on g.H.Shelf c.args.shelf.now in
    let one : Files = files_on g.H.Shelf c.read_input.new.shelf in
    let two : Files = files_on g.H.Shelf c.read_input-2.new.shelf in
    let a = c.in_ok-text.ensures in
    let b = c.in_ok-table.ensures in
    let text = c.in_ok-text.text.items in
    let table = c.in_ok-table.table.items in
    let read : AreRead before two = read_on before one two a.read b.read in
    let reads : ReadsAll before.told (part_inputs n) (text ∷ table ∷ []) = reads_next before one part text (machine ∷ []) (table ∷ []) a.read a.text (b.text, tt) in
    let last : Files = files_on g.H.Shelf c.deliver.new.shelf in
    let output = output_of c.in_ok-output.output.machine c.in_ok-output.output.records.items in
    let is : IsOutput text table output = rw c.deref.ensures.value at c.in_ok-output.ensures.output in
    let w = c.in-Err-NoMemory.ensures in
    let counts : AreWritten before last = record { reads_later = omega (arith, read.later, w.read_faults); writes_later = omega (arith, read.unfailed, w.later) } in
    cut_compiles n text table before two last output _ read counts reads is w.front (inr refl)
