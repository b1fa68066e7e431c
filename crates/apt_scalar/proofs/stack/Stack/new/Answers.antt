use Rattle.std.proofs.Common.{arith}
use Rattle.std.specs.Prelude.{pos}
use Rattle.std.proofs.lemmas.List.Elements.{All-replicate}
use Rattle.apt_scalar.specs.Scalars.{IsScalar}
use Rattle.apt_scalar.proofs.stack.Stack.new.Goals as goal

pub invariant_of-result : goal.invariant_of-result
invariant_of-result c = (omega arith, All-replicate IsScalar 65 (pos 0) (omega arith))
