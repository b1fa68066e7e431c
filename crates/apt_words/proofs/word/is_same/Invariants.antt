use Rattle.std.proofs.Common.{◌≡◌, length, bytes_eq}
use Rattle.apt_words.proofs.Same.{same_from}
use Rattle.apt_words.proofs.word.is_same.Given as goal

abbrev pub invariant-bytes : goal.invariant-bytes
invariant-bytes l =
    record {
      lengths : length l.a ≡ length l.b;
      read : same_from l.a l.b l.i ≡ bytes_eq l.a l.b;
    }
