use Rattle.std.proofs.Common.{◌≡◌, ◌-◌, ◌+◌, ◌<◌, length, drop, is_some, arith}
use Rattle.apt_control.specs.declared.held.Said.{Said}
use Rattle.apt_control.specs.Control.{said_of}
use Rattle.apt_control.proofs.Saying.{taken_next, taken_all, small_at}
use Rattle.apt_cycle.proofs.given.Given.among.Goals as goal

pub words-preserved : goal.words-preserved
words-preserved c =
    let ws = c.args.words.now in
    let more = said_of (drop c.words.left ws) in
    let one : c.words.left - 1 + 1 ≡ c.words.left = omega (arith, c.words-test.true) in
    let within : c.words.left - 1 < length ws = omega (arith, c.words-test.true, c.words.invariant.left) in
    let small = small_at ws (c.words.left - 1) _ c.requires.small within in
    record {
      left = omega (arith, c.words.invariant.left);
      depth = taken_next (λ (s : Said). s.z) ws (c.words.left - 1) c.words.left _ c.with_word-given.result.depth within one (c.with_word-given.ensures.depth more c.words.invariant.depth);
      clearance = taken_next (λ (s : Said). s.r) ws (c.words.left - 1) c.words.left _ c.with_word-given.result.clearance within one (c.with_word-given.ensures.clearance more c.words.invariant.clearance);
      anew = taken_next (λ (s : Said). is_some s.motion) ws (c.words.left - 1) c.words.left _ c.with_word-given.result.anew within one (c.with_word-given.ensures.anew more c.words.invariant.anew);
      short = c.with_word-given.ensures.short small c.words.invariant.short;
    }

pub returns-clause-depth : goal.returns-clause-depth
returns-clause-depth c = taken_all (λ (s : Said). s.z) c.args.words.now c.words.left c.words.given.depth c.words-test.false c.words.invariant.depth

pub returns-clause-clearance : goal.returns-clause-clearance
returns-clause-clearance c = taken_all (λ (s : Said). s.r) c.args.words.now c.words.left c.words.given.clearance c.words-test.false c.words.invariant.clearance

pub returns-clause-anew : goal.returns-clause-anew
returns-clause-anew c = taken_all (λ (s : Said). is_some s.motion) c.args.words.now c.words.left c.words.given.anew c.words-test.false c.words.invariant.anew
