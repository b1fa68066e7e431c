use Rattle.apt_motion.proofs.Few.{none_past}
use Rattle.apt_motion.proofs.counting.are_few.Goals as goal

pub returns-in-Some : goal.returns-in-Some
returns-in-Some c = λ yes.
    none_past c.args.draft.now.records.items c.args.draft.now.rounds.items c.in-Some.room (rw c.in-Some.is at c.requires) (rw c.deref.ensures.value at (c.have_room.ensures yes))
