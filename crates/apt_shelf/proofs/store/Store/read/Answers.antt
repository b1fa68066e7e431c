use Rattle.apt_shelf.proofs.store.Store.read.Goals as goal

pub read-requires : goal.read-requires
read-requires c = record { within = rw c.deref.ensures.value (c.args.self.now.within _ c.in-Some.is) }
