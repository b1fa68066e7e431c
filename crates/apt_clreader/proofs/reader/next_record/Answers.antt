use Rattle.std.proofs.Common.{rules, ◌<◌, ℕ, get_or}
use Rattle.apt_clreader.proofs.FirstLaws.{next_is}
use Rattle.apt_clreader.proofs.reader.next_record.Goals as goal

pub returns : goal.returns
returns c =
    let small : (i : ℕ) → get_or c.args.bytes.now i 0 < 256 = search rules in
    next_is c.args.seq c.args.at c.args.bytes.now c.first_record.result small c.first_record.ensures.value c.first_record.ensures.there
