use Rattle.std.proofs.Common.{◌≡◌, [], drop}
use Rattle.apt_scalar.specs.Stacks.{behind_all}
use Rattle.apt_scalar.proofs.values.value_behind.Given as goal

abbrev pub invariant-parts : goal.invariant-parts
invariant-parts l = behind_all l.env l.frame (drop l.part-index l.parts) l.stack ≡ behind_all l.env l.frame l.parts []
