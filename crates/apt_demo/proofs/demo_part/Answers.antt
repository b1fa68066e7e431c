use Rattle.std.proofs.Common.{◌≡◌, rules, arith, sym, subst}
use Rattle.apt_demo.specs.Promise.{demo_machine, HasRecords}
use Rattle.apt_demo.proofs.Circles.{one_circle_more, all_circles}
use Rattle.apt_demo.proofs.Promised.{has_records}
use Rattle.apt_demo.proofs.demo_part.Goals as goal

pub circles-preserved : goal.circles-preserved
circles-preserved c = record {
  text = one_circle_more c.circles.text.items _ c.args.n c.circles.k c.circles.invariant.text c.in_ok-push_block.ensures.text;
  short = omega (arith, c.circles.invariant.short, c.in_ok-push_block.ensures.short);
  room = search rules;
}

pub returns-clause-text : goal.returns-clause-text
returns-clause-text c =
    let done : c.circles.k ≡ c.args.n = omega arith in
    all_circles c.circles.text.items _ c.args.n (rw done at c.circles.invariant.text) c.in_ok-extend_from_slice.ensures.items

pub returns-clause-records : goal.returns-clause-records
returns-clause-records c =
    subst (HasRecords demo_machine) (sym (returns-clause-text c)) (has_records c.args.n c.requires.0 c.requires.1)
