use Rattle.std.proofs.Common.{rules, ◌≡◌, ◌-◌, ◌≤◌, ◌∷◌, true, arith}
use Rattle.apt_words.specs.Symbols.{is_digit}
use Rattle.apt_lexis.proofs.Runs.{number_on, count_on, rest_on}
use Rattle.apt_lexis.proofs.Sizes.{digits_small, next_small}
use Rattle.apt_lexis.proofs.number.split_digits.Goals as goal

pub overflow_mul-number : goal.overflow_mul-number
overflow_mul-number c = omega (arith, digits_small c.digits.number c.digits.count c.digits.invariant.few c.digits.invariant.small)

pub overflow_add-number : goal.overflow_add-number
overflow_add-number c = omega (arith, digits_small c.digits.number c.digits.count c.digits.invariant.few c.digits.invariant.small)

pub digits-preserved : goal.digits-preserved
digits-preserved c =
    let first : c.digits.rest.now ≡ c.in-Some.b.now ∷ c.in-Some.after.now = search rules in
    let digit : is_digit c.in-Some.b.now ≡ true = search rules in
    let size : c.from.result ≡ c.in-Some.b.now - 48 = search rules in
    let small : c.from.result ≤ 9 = search rules in
    record {
      number = rw size (number_on c.digits.number c.in-Some.b.now _ c.digits.rest.now c.in-Some.after.now first digit c.digits.invariant.number);
      count = count_on c.digits.count c.in-Some.b.now _ c.digits.rest.now c.in-Some.after.now first digit c.digits.invariant.count;
      rest = rest_on c.in-Some.b.now c.digits.rest.now c.in-Some.after.now _ first digit c.digits.invariant.rest;
      few = omega arith;
      small = next_small c.digits.number c.digits.count c.from.result c.digits.invariant.small small;
    }
