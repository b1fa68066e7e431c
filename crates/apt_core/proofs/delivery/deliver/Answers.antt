use Rattle.std.specs.FinMap.{insert}
use Rattle.apt_shelf.specs.Files.{WritesPrefix}
use Rattle.apt_shelf.specs.Told.{Steps}
use Rattle.apt_shelf.proofs.ToldLaws.{on_err}
use Rattle.apt_core.specs.Outputs.{Output, output_of}
use Rattle.apt_core.proofs.Deliveries.{tape_cut, both_whole}
use Rattle.apt_core.proofs.delivery.deliver.Goals as goal

pub returns-in_err-write_tape-clause-front : goal.returns-in_err-write_tape-clause-front
returns-in_err-write_tape-clause-front g c =
    let told = g.H.Shelf.told in
    let o : Output = output_of c.args.output.now.machine c.args.output.now.records.items in
    let middle = told c.write_cl.new.shelf in
    let whole : Steps (λ m. insert m c.args.cl.now o.cl) (told c.args.shelf.now) middle = rw (c.of.ensures.bytes, c.as_slice-records.ensures.value) at c.in_ok-write_cl.ensures.ok in
    let front : WritesPrefix c.args.tape.now o.tape middle (told c.write_tape.new.shelf) = rw (c.of-2.ensures.bytes, c.as_slice-records.ensures.value) at c.in_err-write_tape.ensures.err in
    on_err _ _ (tape_cut c.args.cl.now c.args.tape.now o _ middle _ whole front)

pub returns-clause-whole : goal.returns-clause-whole
returns-clause-whole g c =
    let told = g.H.Shelf.told in
    let o : Output = output_of c.args.output.now.machine c.args.output.now.records.items in
    let middle = told c.write_cl.new.shelf in
    let after = told c.write_tape.new.shelf in
    let whole : Steps (λ m. insert m c.args.cl.now o.cl) (told c.args.shelf.now) middle = rw (c.of.ensures.bytes, c.as_slice-records.ensures.value) at c.in_ok-write_cl.ensures.ok in
    let taped : Steps (λ m. insert m c.args.tape.now o.tape) middle after = rw (c.of-2.ensures.bytes, c.as_slice-records.ensures.value) at c.in_ok-write_tape.ensures.ok in
    both_whole c.args.cl.now c.args.tape.now o (told c.args.shelf.now) middle after whole taped
