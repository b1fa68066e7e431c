use Rattle.std.proofs.Common.{◌+◌, false, drop, ap, sym, ◌∙◌, subst}
use Rattle.std.proofs.lemmas.Result.{err_from_is_err_and}
use Rattle.apt_clreader.specs.declared.state.Part.TheVariants as parts
use Rattle.apt_clreader.specs.Steps.{Agree, Fails, IsLeft, part_behind}
use Rattle.apt_clreader.proofs.HeldLaws.{agree_goes_on}
use Rattle.apt_clreader.proofs.reader.with_records.Goals as goal

pub returns-in_err-taken-clause-stands : goal.returns-in_err-taken-clause-stands
returns-in_err-taken-clause-stands c =
    let error = err_from_is_err_and c.from_residual.result c.from_residual.ensures.1 in
    rw (error.1) (subst (Fails parts.Records c.args.records.items c.args.at c.args.held.items) (sym error.2)
    (subst (λ b. Fails parts.Records c.args.records.items c.args.at b c.in_err-taken.field-0.0) c.deref.ensures.value c.in_err-taken.ensures.taken))

pub invariant_of-result-clause-begun : goal.invariant_of-result-clause-begun
invariant_of-result-clause-begun c =
    let rs = c.take_records.new.records.items in
    let place = c.args.at + c.in_ok-taken.taken.bytes in
    subst (IsLeft false rs place c.in_ok-taken.taken.end) (ap (drop c.in_ok-taken.taken.bytes) c.deref.ensures.value ∙ sym c.in_ok-drop_front.ensures)
    (subst (λ done. IsLeft done rs place c.in_ok-taken.taken.end (drop c.in_ok-taken.taken.bytes c.deref.result.now)) c.if-taken.false c.in_ok-taken.ensures.left)

pub returns-then-taken-clause-stands : goal.returns-then-taken-clause-stands
returns-then-taken-clause-stands c =
    let rs = c.take_records.new.records.items in
    let place = c.args.at + c.in_ok-taken.taken.bytes in
    let rest = c.drop_front.new.held.items in
    let taken : Agree parts.Records c.args.records.items c.args.at c.deref.result.now parts.Nothing rs place (drop c.in_ok-taken.taken.bytes c.deref.result.now)
    = subst (λ done. Agree parts.Records c.args.records.items c.args.at c.deref.result.now (part_behind done) rs place (drop c.in_ok-taken.taken.bytes c.deref.result.now)) c.if-taken.true c.in_ok-taken.ensures.taken in
    let same : Agree parts.Records c.args.records.items c.args.at c.args.held.items parts.Nothing rs place rest
    = subst (Agree parts.Records c.args.records.items c.args.at c.args.held.items parts.Nothing rs place) (sym c.in_ok-drop_front.ensures)
    (subst (λ b. Agree parts.Records c.args.records.items c.args.at b parts.Nothing rs place (drop c.in_ok-taken.taken.bytes b)) c.deref.ensures.value taken) in
    agree_goes_on parts.Records parts.Nothing c.args.number c.args.records.items rs c.args.at place c.args.held.items rest c.with_nothing.result same c.with_nothing.ensures.stands
