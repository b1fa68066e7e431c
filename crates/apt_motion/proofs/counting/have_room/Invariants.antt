use Rattle.std.proofs.Common.{◌≤◌, ◌+◌, take}
use Rattle.std.specs.Prelude.{sum_by}
use Rattle.apt_motion.specs.Drafts.{chords_of}
use Rattle.apt_motion.proofs.counting.have_room.Given as goal

abbrev pub invariant-rounds : goal.invariant-rounds
invariant-rounds l = sum_by chords_of (take l.round-index l.rounds) + l.left ≤ l.fn.room
