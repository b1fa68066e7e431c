use Rattle.std.proofs.Common.{ap, sym, ◌∙◌, option_map}
use Rattle.apt_shapes.proofs.Conditions.{condition_by_end, with_label}
use Rattle.apt_shapes.proofs.flow.condition.Goals as goal

pub returns-in_err-label_of : goal.returns-in_err-label_of
returns-in_err-label_of c =
    let law = condition_by_end c.args.tokens.now c.in_ok-label.rest.now c.in_ok-close.inside.now c.in_ok-close.close.now c.in_ok-label.label.now c.in_ok-label.ensures.cases.0 c.in_ok-close.ensures.cases.0 in
    let label = sym c.label_of.ensures ∙ c.in_err-label_of.was in
    ap (option_map (λ r. (r.0.now, r.1))) c.from_residual-in_err-label_of.ensures ∙ sym (law ∙ ap (with_label c.in_ok-close.inside.now) label)

pub returns : goal.returns
returns c =
    let law = condition_by_end c.args.tokens.now c.in_ok-label.rest.now c.in_ok-close.inside.now c.in_ok-close.close.now c.in_ok-label.label.now c.in_ok-label.ensures.cases.0 c.in_ok-close.ensures.cases.0 in
    sym (law ∙ ap (with_label c.in_ok-close.inside.now) (sym c.label_of.ensures ∙ c.in_ok-label_of.was))
