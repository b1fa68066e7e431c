use Rattle.std.proofs.Common.{◌≡◌, drop}
use Rattle.apt_cldata.specs.Reading.{numbers_of}
use Rattle.apt_cldata.specs.Records.{text_by}
use Rattle.apt_cldata.proofs.Chains.{behind}
use Rattle.apt_cldata.proofs.entries.text_by.Given as goal

abbrev pub invariant-words : goal.invariant-words
invariant-words l = behind l.bytes.items (text_by l.i (numbers_of (drop l.i l.words))) ≡ text_by 0 (numbers_of l.fn.words)
