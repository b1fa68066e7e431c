use Rattle.std.proofs.Common.{◌≡◌, ◌≤◌, ◌-◌, drop, length}
use Rattle.apt_control.specs.Control.{place_of}
use Rattle.apt_cycle.specs.CycleBlocks.{is_foreign}
use Rattle.apt_cycle.proofs.reading.first_foreign.Given as goal

abbrev pub invariant-words : goal.invariant-words
invariant-words l = record {
  at : l.at ≤ length l.words;
  letters : l.at ≤ length l.letters;
  same : place_of (is_foreign l.circles l.motion) (drop l.at l.letters) (drop l.at l.words) ≡ place_of (is_foreign l.circles l.motion) l.fn.letters l.fn.words;
}

abbrev pub decreases-words : goal.decreases-words
decreases-words l = length l.words - l.at
