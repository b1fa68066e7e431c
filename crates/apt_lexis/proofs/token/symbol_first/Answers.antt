use Rattle.std.proofs.Common.{arith, ◌∙◌}
use Rattle.std.proofs.lemmas.List.{length-set}
use Rattle.apt_lexis.proofs.Capitals.{capitals_more}
use Rattle.apt_lexis.proofs.Fronts.{front_short}
use Rattle.apt_lexis.specs.Tokens.{is_letter_or_digit}
use Rattle.apt_lexis.proofs.token.symbol_first.Goals as goal

pub capitals-smaller : goal.capitals-smaller
capitals-smaller c = omega (arith, c.in-Some.ensures.some, front_short is_letter_or_digit c.args.text.now)

pub capitals-preserved : goal.capitals-preserved
capitals-preserved c = record {
  few = omega (arith, c.if-len-eq-MOST_LETTERS.false, c.capitals.invariant.few);
  within = omega (arith, c.in-Some.ensures.some);
  room = length-set c.capitals.capitals c.capitals.len c.in-Some.b ∙ c.capitals.invariant.room;
  same = capitals_more c.capitals.capitals c.args.text.now c.capitals.len c.in-Some.b (omega (arith, c.capitals.invariant.room, c.capitals.invariant.few, c.if-len-eq-MOST_LETTERS.false)) (omega (arith, c.in-Some.ensures.some, front_short is_letter_or_digit c.args.text.now)) c.in-Some.ensures.value c.capitals.invariant.same;
}
