use Rattle.std.proofs.Common.{◌≡◌, drop, int_eq}
use Rattle.std.specs.List.{list_all}
use Rattle.apt_records.proofs.vertices.are_at.Given as goal

abbrev pub invariant-loop-p : goal.invariant-loop-p
invariant-loop-p l = list_all (λ p. int_eq p.z l.z) (drop l.p-index l.positions) ≡ list_all (λ p. int_eq p.z l.z) l.positions
