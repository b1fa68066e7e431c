use Rattle.std.proofs.Common.{◌≡◌, ◌-◌, ◌+◌, ◌<◌, length, drop, arith}
use Rattle.apt_control.specs.Control.{said_of}
use Rattle.apt_control.specs.Passing.{as_given, passing}
use Rattle.apt_control.proofs.Saying.{taken_next, taken_all, small_at}
use Rattle.apt_control.proofs.held.take_words.Goals as goal

pub words-preserved : goal.words-preserved
words-preserved c =
    let ws = c.args.words.now in
    let more = said_of (drop c.words.left ws) in
    let one : c.words.left - 1 + 1 ≡ c.words.left = omega (arith, c.words-test.true) in
    let within : c.words.left - 1 < length ws = omega (arith, c.words-test.true, c.words.invariant.left) in
    record {
      left = omega (arith, c.words.invariant.left);
      held = taken_next (as_given c.args.held.now) ws (c.words.left - 1) c.words.left _ c.take_word.new.held within one (c.take_word.ensures.held c.args.held.now more c.words.invariant.held);
      said = taken_next passing ws (c.words.left - 1) c.words.left _ c.take_word.new.said within one (c.take_word.ensures.said more c.words.invariant.said);
      small = λ are short. c.take_word.ensures.small (small_at ws (c.words.left - 1) _ are within) (c.words.invariant.small are short);
    }

pub returns-clause-held : goal.returns-clause-held
returns-clause-held c = taken_all (as_given c.args.held.now) c.args.words.now c.words.left c.words.held c.words-test.false c.words.invariant.held

pub returns-clause-said : goal.returns-clause-said
returns-clause-said c = taken_all passing c.args.words.now c.words.left c.words.said c.words-test.false c.words.invariant.said
