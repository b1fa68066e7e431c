use Rattle.std.proofs.Common.{◌≢◌, ℕ, ◌<◌, Some}
use Rattle.apt_shelf.specs.Entries.{entries, name_at}
use Rattle.apt_shelf.proofs.store.index_of.Given as goal

abbrev pub invariant-loop-i : goal.invariant-loop-i
invariant-loop-i l = (j : ℕ) → j < l.i → name_at (entries l.files) j ≢ Some l.name
