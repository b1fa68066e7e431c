use Rattle.std.proofs.Common.{rules, ◌≡◌, Ok, [], true, ap, sym, ◌∙◌, subst}
use Rattle.std.proofs.lemmas.Result.{err_from_is_err_and}
use Rattle.apt_words.specs.Answers.{IsFault}
use Rattle.apt_cldata.specs.Reading as spec
use Rattle.apt_clreader.specs.declared.state.Part.TheVariants as parts
use Rattle.apt_clreader.specs.Begun.{has_head}
use Rattle.apt_clreader.specs.Steps.{Fails, GoesOn}
use Rattle.apt_clreader.proofs.HeldLaws.{head_goes, head_fails}
use Rattle.apt_clreader.proofs.reader.behind_start.Goals as goal

pub returns-in_err-head-clause-stands : goal.returns-in_err-head-clause-stands
returns-in_err-head-clause-stands c =
    let e = c.in_err-head.field-0.0 in
    let whole : has_head c.args.held.items ≡ true = search rules in
    let is = subst (λ b. IsFault spec.fault_in (spec.head_in b) e) c.deref-2.ensures.value c.in_err-head.ensures.value in
    let error = err_from_is_err_and c.from_residual.result c.from_residual.ensures.1 in
    rw (error.1) (subst (Fails parts.Head [] 0 c.args.held.items) (sym error.2) (head_fails c.args.held.items e whole is))

pub returns-clause-stands : goal.returns-clause-stands
returns-clause-stands c =
    let h = spec.head c.in_ok-head.head.number c.in_ok-head.head.at c.in_ok-head.head.rest.now in
    let is : spec.head_in c.args.held.items ≡ Ok h = ap spec.head_in (sym c.deref-2.ensures.value) ∙ c.in_ok-head.ensures.value in
    let on = subst (λ b. GoesOn parts.Records h.number [] h.at b c.with_records.result) c.in_ok-rest.ensures.items (subst (λ rs. GoesOn parts.Records h.number rs h.at c.in_ok-rest.rest.items c.with_records.result) c.new-records.ensures.items c.with_records.ensures.stands) in
    head_goes c.args.held.items h c.with_records.result is on
