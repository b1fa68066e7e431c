use Rattle.apt_contact.proofs.MeetingLaws.{parallel_law, apart_law, one_law}
use Rattle.apt_contact.proofs.meetings.meet.Goals as goal

pub returns-clause-parallel : goal.returns-clause-parallel
returns-clause-parallel c = rw c.meet_value.ensures (parallel_law c.args.a.now c.args.b.now)

pub returns-clause-apart : goal.returns-clause-apart
returns-clause-apart c = rw c.meet_value.ensures (apart_law c.args.a.now c.args.b.now c.requires.first c.requires.second)

pub returns-clause-one : goal.returns-clause-one
returns-clause-one c = rw c.meet_value.ensures (one_law c.args.a.now c.args.b.now c.requires.first c.requires.second)
