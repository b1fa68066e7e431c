use Rattle.std.proofs.Common.{◌≡◌, ◌+◌, ◌≤◌, false, length, None, sym, subst}
use Rattle.std.proofs.lemmas.Result.{IfOk-weaker}
use Rattle.apt_words.specs.ProgramEnds.{StepsEnd}
use Rattle.apt_words.specs.Sources.{AreExecuted}
use Rattle.apt_scalar.specs.StepScalars.{AreScalars}
use Rattle.apt_meaning.specs.Compiled.{first_refused}
use Rattle.apt_meaning.specs.Situations.{first_situation}
use Rattle.apt_unroll.specs.Trace.{Trace}
use Rattle.apt_words.specs.Contours.{contours}
use Rattle.apt_pattern.specs.Expansions.{nothing_drilled, expansion, AreReplaced}
use Rattle.apt_pattern.proofs.Ended.{trace_ends}
use Rattle.apt_pattern.proofs.Passing.{trace_replaced}
use Rattle.apt_pattern.proofs.Few.{few_plain}
use Rattle.apt_pattern.proofs.Kept.{are_executed}
use Rattle.apt_pattern.proofs.Contours.{contours_few}
use Rattle.apt_pattern.proofs.Scaled.{plain_scalars}
use Rattle.apt_pattern.proofs.expanding.expand.Goals as goal

pub returns-clause-whole : goal.returns-clause-whole
returns-clause-whole c =
    let u = c.args.u in
    IfOk-weaker c.expand_value.result (λ r. r ≡ expansion u.steps u.fault) (λ r. r.fault ≡ None → first_refused first_situation r.steps ≡ None → AreReplaced nothing_drilled u r.steps)
    (λ r is. subst (λ (x : Trace). x.fault ≡ None → first_refused first_situation x.steps ≡ None → AreReplaced nothing_drilled u x.steps) (sym is) (trace_replaced u)) c.expand_value.ensures

pub returns-clause-ends : goal.returns-clause-ends
returns-clause-ends c =
    let u = c.args.u in
    IfOk-weaker c.expand_value.result (λ r. r ≡ expansion u.steps u.fault)
    (λ r. r.fault ≡ None → first_refused first_situation r.steps ≡ None → StepsEnd false u.steps → StepsEnd false r.steps)
    (λ r is. subst (λ (x : Trace). x.fault ≡ None → first_refused first_situation x.steps ≡ None → StepsEnd false u.steps → StepsEnd false x.steps) (sym is) (trace_ends u)) c.expand_value.ensures

pub returns-clause-scalars : goal.returns-clause-scalars
returns-clause-scalars c =
    let u = c.args.u in
    IfOk-weaker c.expand_value.result (λ r. r ≡ expansion u.steps u.fault) (λ r. AreScalars r.steps)
    (λ r is. subst (λ (x : Trace). AreScalars x.steps) (sym is) (plain_scalars u.steps u.fault c.requires.scalars)) c.expand_value.ensures

pub returns-clause-sources : goal.returns-clause-sources
returns-clause-sources c =
    let u = c.args.u in
    IfOk-weaker c.expand_value.result (λ r. r ≡ expansion u.steps u.fault) (λ r. AreExecuted r.steps)
    (λ r is. subst (λ (x : Trace). AreExecuted x.steps) (sym is) (are_executed nothing_drilled u.steps u.fault c.requires.sources)) c.expand_value.ensures

pub returns-clause-few : goal.returns-clause-few
returns-clause-few c =
    let u = c.args.u in
    IfOk-weaker c.expand_value.result (λ r. r ≡ expansion u.steps u.fault) (λ r. length r.steps ≤ length u.steps + 25000)
    (λ r is. subst (λ (x : Trace). length x.steps ≤ length u.steps + 25000) (sym is) (few_plain u.steps u.fault)) c.expand_value.ensures

pub returns-clause-contours : goal.returns-clause-contours
returns-clause-contours c =
    let u = c.args.u in
    IfOk-weaker c.expand_value.result (λ r. r ≡ expansion u.steps u.fault) (λ r. contours r.steps ≤ contours u.steps)
    (λ r is. subst (λ (x : Trace). contours x.steps ≤ contours u.steps) (sym is) (contours_few nothing_drilled u.steps u.fault)) c.expand_value.ensures
