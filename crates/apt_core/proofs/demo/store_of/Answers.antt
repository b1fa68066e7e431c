use Rattle.std.proofs.Common.{◌∙◌, Some}
use Rattle.apt_shelf.specs.Entries.{contents}
use Rattle.apt_shelf.specs.Sure.{files_of}
use Rattle.apt_core.proofs.Shown.{two_files, told_holds, part_has}
use Rattle.apt_core.proofs.demo.store_of.Goals as goal

pub returns-clause-holds : goal.returns-clause-holds
returns-clause-holds c =
    told_holds (λ store. Some (files_of store)) c.args.n c.new.result (contents c.push-2.new.self.items) c.new.ensures.told
    (rw (c.in_ok-push-2.ensures.items, c.in_ok-push.ensures.items, c.new-files.ensures.items)
    (two_files c.args.n (c.in_ok-from_str.field-0, c.in_ok-demo_part.field-0) (c.in_ok-from_str-2.field-0, c.in_ok-from_slice.field-0) c.in_ok-from_str.ensures.ok c.in_ok-from_str-2.ensures.ok
    c.in_ok-demo_part.ensures.text (c.in_ok-from_slice.ensures.items ∙ c.as_bytes.ensures.value)))

pub returns-clause-records : goal.returns-clause-records
returns-clause-records c = part_has c.args.n c.in_ok-demo_part.field-0.items c.new.result c.in_ok-demo_part.ensures.text c.in_ok-demo_part.ensures.records
