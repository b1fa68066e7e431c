use Rattle.std.proofs.Common.{Some, None, rules}
use Rattle.apt_startup.proofs.Refused.{refused, nearest_two}
use Rattle.apt_startup.proofs.Sided.{started_aside}
use Rattle.apt_startup.proofs.start_up.start.Goals as goal

pub returns-in-None-clause-refused : goal.returns-in-None-clause-refused
returns-in-None-clause-refused c = rw c.in-None.is (refused c.args.u.now None c.start_on_one.result c.start_on_one.ensures.value)

pub returns-in-Some-clause-refused : goal.returns-in-Some-clause-refused
returns-in-Some-clause-refused c = rw c.in-Some.is (refused c.args.u.now (Some c.in-Some.second) c.start_on_two.result c.start_on_two.ensures.value)

pub returns-in-Some-clause-nearest : goal.returns-in-Some-clause-nearest
returns-in-Some-clause-nearest c = rw c.in-Some.is (nearest_two c.args.u.now c.in-Some.second c.start_on_two.result c.start_on_two.ensures.value)

pub returns-in-None-clause-aside : goal.returns-in-None-clause-aside
returns-in-None-clause-aside c = rw c.in-None.is (started_aside c.start_on_one.result c.args.u.now None c.requires tt c.start_on_one.ensures.value c.start_on_one.ensures.near)

pub returns-in-Some-clause-aside : goal.returns-in-Some-clause-aside
returns-in-Some-clause-aside c =
    rw c.in-Some.is (started_aside c.start_on_two.result c.args.u.now (Some c.in-Some.second) c.requires (search rules) c.start_on_two.ensures.value c.start_on_two.ensures.near)
