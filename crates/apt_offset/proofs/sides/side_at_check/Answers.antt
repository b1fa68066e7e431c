use Rattle.std.proofs.Common.{rules}
use Rattle.apt_offset.proofs.Aside.{stops_aside}
use Rattle.apt_offset.proofs.Refusals.{starts_on}
use Rattle.apt_offset.proofs.sides.side_at_check.Goals as goal

pub returns-in-To-clause-on_check : goal.returns-in-To-clause-on_check
returns-in-To-clause-on_check c = let a = c.args in starts_on _ a.check.now a.how a.start a.drive.now a.at_drive (search rules)

pub returns-in-Past-clause-on_check : goal.returns-in-Past-clause-on_check
returns-in-Past-clause-on_check c = let a = c.args in starts_on _ a.check.now a.how a.start a.drive.now a.at_drive (search rules)

pub returns-in-To-clause-aside : goal.returns-in-To-clause-aside
returns-in-To-clause-aside c = let a = c.args in stops_aside _ a.check.now a.how a.start a.drive.now a.at_drive c.requires.check (search rules)

pub returns-in-Past-clause-aside : goal.returns-in-Past-clause-aside
returns-in-Past-clause-aside c = let a = c.args in stops_aside _ a.check.now a.how a.start a.drive.now a.at_drive c.requires.check (search rules)
