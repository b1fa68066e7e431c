use Rattle.std.proofs.Common.{◌≡◌, drop}
use Rattle.apt_motion.specs.Drafts.{too_many, past_limit}
use Rattle.apt_motion.proofs.counting.past_limit.Given as goal

abbrev pub invariant-records : goal.invariant-records
invariant-records g l = too_many l.left l.mark (drop l.record-index l.draft.records.items) l.sizes ≡ past_limit l.fn.draft.records.items l.fn.draft.rounds.items
