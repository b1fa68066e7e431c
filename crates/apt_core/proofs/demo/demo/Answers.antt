use Rattle.std.proofs.Common.{◌≡◌, sym, ◌∙◌}
use Rattle.apt_shelf.specs.Sure.{files_of}
use Rattle.apt_report.specs.declared.status.Status.TheVariants as answers
use Rattle.apt_core.specs.Due.{answer_of}
use Rattle.apt_core.proofs.Shown.{verdict_shown, fault_shown}
use Rattle.apt_core.proofs.demo.demo.Goals as goal

pub returns-in-Done : goal.returns-in-Done
returns-in-Done g c =
    let s = c.in-Done.field-0 in
    let store = c.in_ok-store.store in
    let middle = c.compile.new.shelf in
    let done : answer_of c.compile.result ≡ answers.Done s = sym c.status_of.ensures ∙ c.in-Done.is in
    rw (c.demo_answer.ensures, c.status_of-in-Done.ensures)
    (verdict_shown c.args.n (files_of store) (files_of middle) (files_of c.certify.new.shelf) _ _ _ s (answer_of c.certify.result) c.in_ok-store.ensures.holds c.in_ok-store.ensures.short
    (rw done at c.compile.ensures) c.certify.ensures)

pub returns : goal.returns
returns g c =
    let store = c.in_ok-store.store in
    rw c.status_of.ensures
    (fault_shown c.args.n (files_of store) (files_of c.compile.new.shelf) _ _ (answer_of c.compile.result) c.in_ok-store.ensures.records c.in_ok-store.ensures.holds c.in_ok-store.ensures.short c.compile.ensures
    (λ s e. c.in_default.not-Done s (c.status_of.ensures ∙ e)))
