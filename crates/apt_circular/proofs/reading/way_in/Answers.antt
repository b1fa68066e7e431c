use Rattle.std.proofs.Common.{◌≡◌, ◌-◌, ◌+◌, ◌<◌, length, drop, arith}
use Rattle.apt_control.specs.declared.held.Said.{Said}
use Rattle.apt_control.specs.Control.{said_of}
use Rattle.apt_control.proofs.Saying.{taken_next, taken_all, small_at}
use Rattle.apt_circular.proofs.reading.way_in.Goals as goal

pub words-preserved : goal.words-preserved
words-preserved c =
    let ws = c.args.words.now in
    let more = said_of (drop c.words.left ws) in
    let one : c.words.left - 1 + 1 ≡ c.words.left = omega (arith, c.words-test.true) in
    let within : c.words.left - 1 < length ws = omega (arith, c.words-test.true, c.words.invariant.left) in
    let small = small_at ws (c.words.left - 1) _ c.requires.small within in
    record {
      left = omega (arith, c.words.invariant.left);
      i = taken_next (λ (s : Said). s.i) ws (c.words.left - 1) c.words.left _ c.way_with-way.result.i within one (c.way_with-way.ensures.i more c.words.invariant.i);
      j = taken_next (λ (s : Said). s.j) ws (c.words.left - 1) c.words.left _ c.way_with-way.result.j within one (c.way_with-way.ensures.j more c.words.invariant.j);
      short_i = c.way_with-way.ensures.short_i small c.words.invariant.short_i;
      short_j = c.way_with-way.ensures.short_j small c.words.invariant.short_j;
    }

pub returns-clause-i : goal.returns-clause-i
returns-clause-i c = taken_all (λ (s : Said). s.i) c.args.words.now c.words.left c.words.way.i c.words-test.false c.words.invariant.i

pub returns-clause-j : goal.returns-clause-j
returns-clause-j c = taken_all (λ (s : Said). s.j) c.args.words.now c.words.left c.words.way.j c.words-test.false c.words.invariant.j
