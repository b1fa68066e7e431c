use Rattle.std.proofs.Common.{◌≡◌, ◌≤◌, length}
use Rattle.apt_motion.proofs.dividing.rooms_for.Given as goal

abbrev pub invariant-rounds : goal.invariant-rounds
invariant-rounds l = record {
  count : l.cuts.len ≡ l.round-index;
  room : length l.rounds ≤ l.cuts.cap;
}
