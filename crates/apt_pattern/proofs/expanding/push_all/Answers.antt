use Rattle.std.proofs.Common.{rules, ◌∙◌, ◌++◌, ap}
use Rattle.apt_pattern.specs.Expansions.{plain_steps}
use Rattle.apt_pattern.specs.Patterns.{visit}
use Rattle.apt_pattern.proofs.Deciding.{all_more}
use Rattle.apt_pattern.proofs.expanding.push_all.Goals as goal

pub points-preserved : goal.points-preserved
points-preserved c =
    record {
      so_far = all_more c.args.st.now c.args.units c.args.cycle c.args.pattern.now c.points.k c.points.steps.items c.push_visit.new.steps.items _ (search rules)
          (c.in_ok-push_visit.ensures ∙ ap (λ p. c.points.steps.items ++ plain_steps c.args.st.now (visit c.args.units c.args.cycle p)) c.point_at.ensures.value) c.points.invariant.so_far;
      few = search rules;
    }
