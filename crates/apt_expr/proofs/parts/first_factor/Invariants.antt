use Rattle.std.proofs.Common.{◌≡◌, ◌≤◌, ◌++◌, take, drop}
use Rattle.apt_expr.specs.declared.parts.Rank.TheVariants as ranks
use Rattle.apt_expr.specs.Operands.{parts_at}
use Rattle.apt_expr.proofs.Terms.{factors}
use Rattle.apt_expr.proofs.parts.first_factor.Given as goal

abbrev pub invariant-tokens : goal.invariant-tokens
invariant-tokens l =
    let term = parts_at l.depth ranks.Additive (drop l.n l.tokens) in
    let rest = parts_at l.depth ranks.Multiplicative term.first in
    record {
      first : take l.n l.tokens ++ rest.first ≡ (factors l.tokens).first;
      factors : rest.others ≡ (factors l.tokens).others;
      terms : term.others ≡ (parts_at 0 ranks.Additive l.tokens).others;
      shallow : l.depth ≤ l.n;
    }
