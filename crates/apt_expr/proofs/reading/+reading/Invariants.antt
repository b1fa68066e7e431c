use Rattle.std.proofs.Common.{◌≡◌, ◌+◌, ◌*◌, length, [], Some, option_map, if◌then◌else◌}
use Rattle.apt_words.specs.Trees.{Neg}
use Rattle.apt_words.specs.TreeParts.{latest}
use Rattle.apt_expr.specs.Forests.{Grown}
use Rattle.apt_expr.specs.declared.parts.Rank.TheVariants as ranks
use Rattle.apt_expr.specs.Operands.{parts}
use Rattle.apt_expr.specs.Expressions.{term_by, factor_of, from_left}
use Rattle.apt_expr.proofs.Terms.{factors}
use Rattle.apt_expr.proofs.reading.+reading.Given as goal

abbrev pub decreases-nested : goal.decreases-nested
decreases-nested l = 5 * l.nesting

abbrev pub decreases-factor : goal.decreases-factor
decreases-factor l = 5 * l.nesting + 1

abbrev pub decreases-term : goal.decreases-term
decreases-term l = 5 * l.nesting + 2

abbrev pub decreases-terms : goal.decreases-terms
decreases-terms l = 5 * l.nesting + 3

abbrev pub decreases-sum : goal.decreases-sum
decreases-sum l = 5 * l.nesting + 4

abbrev pub invariant-term-factors : goal.invariant-term-factors
invariant-term-factors l =
    let reader = factor_of l.nesting in
    record {
      joined : from_left reader (Some (latest l.forest)) (factors l.rest).others ≡ term_by reader (parts ranks.Additive l.tokens).first;
      terms : (parts ranks.Additive l.rest).others ≡ (parts ranks.Additive l.tokens).others;
      behind : (factors l.rest).first ≡ [];
      grown : Grown l.count l.fn.forest l.forest;
    }

abbrev pub decreases-term-factors : goal.decreases-term-factors
decreases-term-factors l = length (factors l.rest).others

abbrev pub invariant-terms-terms : goal.invariant-terms-terms
invariant-terms-terms l =
    let term = term_by (factor_of l.nesting) in
    let p = parts ranks.Additive l.tokens in
    record {
      joined :
          from_left term (Some (latest l.forest)) (parts ranks.Additive l.rest).others
          ≡ from_left term (if l.minus then option_map Neg (term p.first) else term p.first) p.others;
      whole : (parts ranks.Additive l.rest).first ≡ [];
      grown : Grown l.count l.fn.forest l.forest;
    }

abbrev pub decreases-terms-terms : goal.decreases-terms-terms
decreases-terms-terms l = length (parts ranks.Additive l.rest).others
