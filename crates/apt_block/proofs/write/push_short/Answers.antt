use Rattle.std.proofs.Common.{rules, ◌≡◌, unsigned_abs, true, false}
use Rattle.apt_block.specs.Block.{forms, form_in, sign}
use Rattle.apt_block.proofs.Shortened.{signed_written, unsigned_written}
use Rattle.apt_block.proofs.write.push_short.Goals as goal

pub returns-in-78-clause-items : goal.returns-in-78-clause-items
returns-in-78-clause-items g c =
    let letter = c.args.letter in
    let plain : (form_in forms letter).signed ≡ false = search rules in
    let fewest : (form_in forms letter).fewest ≡ 1 = search rules in
    let most : (form_in forms letter).digits ≡ 4 = search rules in
    let size : c.unsigned_abs.result ≡ unsigned_abs c.args.value = search rules in
    unsigned_written g.H.Hand.written c.args.text.now.items c.push_up_to_four.new.text.items letter c.unsigned_abs.result c.args.value plain fewest most size c.push_up_to_four.ensures.items

pub returns-in-88-clause-items : goal.returns-in-88-clause-items
returns-in-88-clause-items g c =
    let letter = c.args.letter in
    let signed : (form_in forms letter).signed ≡ true = search rules in
    let fewest : (form_in forms letter).fewest ≡ 1 = search rules in
    let most : (form_in forms letter).digits ≡ 8 = search rules in
    let is : c.sign.result ≡ sign c.args.value = search rules in
    let size : c.unsigned_abs-in-88.result ≡ unsigned_abs c.args.value = search rules in
    signed_written g.H.Hand.written c.args.text.now.items c.push_short_signed.new.text.items letter c.sign.result c.unsigned_abs-in-88.result c.args.value signed fewest most is size c.push_short_signed.ensures.items
