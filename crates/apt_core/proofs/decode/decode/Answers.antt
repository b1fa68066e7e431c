use Rattle.std.proofs.Common.{◌≡◌, [], ◌∷◌, Ok}
use Rattle.apt_machine.specs.Tables.{table_of}
use Rattle.apt_part.specs.Promise.{file_limit}
use Rattle.apt_core.specs.Request.{tape_names}
use Rattle.apt_core.specs.Inputs.{Files, files_on, input, machine_limit}
use Rattle.apt_core.proofs.Readings.{read_on, reads_next}
use Rattle.apt_core.proofs.Decoding.{said_decodes}
use Rattle.apt_core.proofs.decode.decode.Goals as goal

pub returns-in-Ok : goal.returns-in-Ok
returns-in-Ok g c =
    let n = tape_names c.args.names in
    let before : Files = files_on g.H.Shelf c.args.shelf.now in
    let one : Files = files_on g.H.Shelf c.read_input.new.shelf in
    let two : Files = files_on g.H.Shelf c.run_input.new.shelf in
    let table = c.in_ok-table.table.items in
    let a = c.in_ok-table.ensures in
    let b = c.in_ok-run-in-Ok.ensures in
    let tabled : table_of table ≡ Ok c.in-Ok.machine = rw c.deref.ensures.value at c.in-Ok.ensures.machine in
    said_decodes n table b.run.0 before two _ (read_on before one two a.read b.read)
    (reads_next before one (input n.machine machine_limit) table (input n.tape file_limit ∷ []) (b.run.0 ∷ []) a.read a.text (b.run.1, tt))
    (c.list_acts.ensures c.in-Ok.machine table b.run.0 c.none-none.result tabled b.run.2)
