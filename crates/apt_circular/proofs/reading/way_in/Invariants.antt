use Rattle.std.proofs.Common.{◌≡◌, ◌<◌, ◌≤◌, ◌^◌, drop, length, unsigned_abs, IfSome}
use Rattle.apt_control.specs.Control.{said_of}
use Rattle.apt_circular.proofs.reading.way_in.Given as goal

abbrev pub invariant-words : goal.invariant-words
invariant-words l = record {
  left : l.left ≤ length l.words;
  i : l.way.i ≡ (said_of (drop l.left l.words)).i;
  j : l.way.j ≡ (said_of (drop l.left l.words)).j;
  short_i : IfSome l.way.i (λ v. unsigned_abs v < 10 ^ 8);
  short_j : IfSome l.way.j (λ v. unsigned_abs v < 10 ^ 8);
}

abbrev pub decreases-words : goal.decreases-words
decreases-words l = l.left
