use Rattle.apt_shelf.proofs.ReadingLaws.{left_grown}
use Rattle.apt_shelf.proofs.store.Store.append.Goals as goal

pub invariant_of-self : goal.invariant_of-self
invariant_of-self c = record { within = (left_grown _ _ _ c.add_to_file.ensures.grows c.args.self.now.within).0 }

pub returns-in-Some-clause-left : goal.returns-in-Some-clause-left
returns-in-Some-clause-left c = (left_grown _ _ _ c.add_to_file.ensures.grows c.args.self.now.within).1
