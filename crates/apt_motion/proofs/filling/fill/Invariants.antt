use Rattle.std.proofs.Common.{◌≡◌, ◌++◌, take, drop}
use Rattle.apt_motion.specs.Drafts.{filled}
use Rattle.apt_motion.proofs.filling.fill.Given as goal

abbrev pub invariant-loop-record : goal.invariant-loop-record
invariant-loop-record l = take l.record-index l.record-items ++ filled (drop l.record-index l.record-items) l.left.items ≡ filled l.fn.records.items l.fn.cuts.items
