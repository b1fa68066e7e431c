use Rattle.std.proofs.Common.{rules, ◌≡◌, ◌+◌, ◌<◌, length, drop, get_or, Some}
use Rattle.apt_block.specs.Machine.{FrontPart, taken}
use Rattle.apt_block.specs.declared.machine.Want.TheVariants as wants
use Rattle.apt_block.proofs.Ending.{end_read}
use Rattle.apt_block.proofs.machine.BlockReader.whole_block.Goals as goal

pub returns-then-is_end-clause-taken : goal.returns-then-is_end-clause-taken
returns-then-is_end-clause-taken g c =
    let character = g.A.Alphabet.character in
    let bytes = c.args.bytes.now in
    let n = c.whole_words-count.result in
    let b : FrontPart = record { words = c.self.inside.words; letters = c.self.inside.letters; used = c.self.inside.used; want = c.self.inside.want } in
    let letter : b.want ≡ wants.Letter = search rules in
    let within : n < length bytes = search rules in
    let end : character (get_or bytes n 0) ≡ Some 10 = search rules in
    let before : taken character b (c.args.at + n) (drop n bytes) ≡ taken character c.args.self.now c.args.at bytes = search rules in
    end_read character b c.args.at n 0 bytes _ letter within end before
