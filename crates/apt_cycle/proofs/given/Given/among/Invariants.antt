use Rattle.std.proofs.Common.{◌≡◌, ◌<◌, ◌≤◌, ◌^◌, drop, length, is_some, unsigned_abs, IfSome}
use Rattle.apt_control.specs.Control.{said_of}
use Rattle.apt_cycle.proofs.given.Given.among.Given as goal

abbrev pub invariant-words : goal.invariant-words
invariant-words l = record {
  left : l.left ≤ length l.words;
  depth : l.given.depth ≡ (said_of (drop l.left l.words)).z;
  clearance : l.given.clearance ≡ (said_of (drop l.left l.words)).r;
  anew : l.given.anew ≡ is_some (said_of (drop l.left l.words)).motion;
  short : IfSome l.given.clearance (λ v. unsigned_abs v < 10 ^ 8);
}

abbrev pub decreases-words : goal.decreases-words
decreases-words l = l.left
