use Rattle.std.proofs.Common.{◌++◌, ap, ◌∙◌, rules, FitsSigned, w64}
use Rattle.std.proofs.lemmas.Int.{to_z-of_z}
use Rattle.apt_demo.proofs.Circles.{one_circle}
use Rattle.apt_demo.proofs.push_block.Goals as goal

pub returns-clause-text : goal.returns-clause-text
returns-clause-text c =
    let fits_x : FitsSigned w64 c.centre_x-x.result = search rules in
    let fits_y : FitsSigned w64 c.centre_y-y.result = search rules in
    let fits_clear : FitsSigned w64 c.clear_x.result = search rules in
    one_circle c.args.text.now.items c.push_from.new.text.items c.push_from-2.new.text.items c.push_from-3.new.text.items c.args.k _ _ _ _
    (to_z-of_z w64 c.centre_x-x.result fits_x ∙ c.centre_x-x.ensures.value)
    (to_z-of_z w64 c.centre_y-y.result fits_y ∙ c.centre_y-y.ensures)
    (c.from.ensures ∙ c.radius.ensures.value)
    (to_z-of_z w64 c.clear_x.result fits_clear ∙ c.clear_x.ensures)
    (c.in_ok-push_from.ensures ∙ ap (λ t. c.args.text.now.items ++ t) c.circle_line-start.ensures.line)
    (c.in_ok-push_from-2.ensures ∙ ap (λ t. c.push_from.new.text.items ++ t) c.line_line-start.ensures.line)
    (c.in_ok-push_from-3.ensures ∙ ap (λ t. c.push_from-2.new.text.items ++ t) c.cut_lines-start.ensures.line)
