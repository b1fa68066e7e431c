use Rattle.std.proofs.Common.{◌≡◌, false, None}
use Rattle.std.proofs.lemmas.Result.{IfOk-weaker}
use Rattle.apt_words.specs.ProgramEnds.{StepsEnd}
use Rattle.apt_words.specs.Sources.{AreExecuted, AreNumbered}
use Rattle.apt_scalar.specs.StepScalars.{AreScalars, AreDrillScalars}
use Rattle.apt_unroll.specs.Trace.{IsTrace, Trace, trace_of}
use Rattle.apt_unroll.proofs.Going.{has_trace}
use Rattle.apt_unroll.proofs.Found.{one_trace}
use Rattle.apt_unroll.proofs.Steps.{are_scalars, are_drills, are_executed, are_numbered, end_once}
use Rattle.apt_unroll.proofs.trace.unroll.Goals as goal

-- src/trace.rt:54:1
pub returns-clause-only : goal.returns-clause-only
returns-clause-only c =
    IfOk-weaker c.unroll_value.result (λ u. u ≡ trace_of c.args.p.now) (λ u. (other : Trace) → IsTrace c.args.p.now other → other ≡ u)
    (λ u is other. one_trace c.args.p.now u other is) c.unroll_value.ensures

-- src/trace.rt:54:1
pub returns-clause-scalars : goal.returns-clause-scalars
returns-clause-scalars c =
    IfOk-weaker c.unroll_value.result (λ u. u ≡ trace_of c.args.p.now) (λ u. AreScalars u.steps)
    (λ u is. are_scalars c.args.p.now u c.requires.sources (has_trace c.args.p.now u c.requires.nested is)) c.unroll_value.ensures

-- src/trace.rt:54:1
pub returns-clause-drills : goal.returns-clause-drills
returns-clause-drills c =
    IfOk-weaker c.unroll_value.result (λ u. u ≡ trace_of c.args.p.now) (λ u. AreDrillScalars u.steps)
    (λ u is. are_drills c.args.p.now u c.requires.sources (has_trace c.args.p.now u c.requires.nested is)) c.unroll_value.ensures

-- src/trace.rt:54:1
pub returns-clause-numbers : goal.returns-clause-numbers
returns-clause-numbers c =
    IfOk-weaker c.unroll_value.result (λ u. u ≡ trace_of c.args.p.now) (λ u. AreNumbered 1 u.steps)
    (λ u is. are_numbered c.args.p.now u (has_trace c.args.p.now u c.requires.nested is)) c.unroll_value.ensures

-- src/trace.rt:54:1
pub returns-clause-sources : goal.returns-clause-sources
returns-clause-sources c =
    IfOk-weaker c.unroll_value.result (λ u. u ≡ trace_of c.args.p.now) (λ u. AreExecuted u.steps)
    (λ u is. are_executed c.args.p.now u c.requires.sources (has_trace c.args.p.now u c.requires.nested is)) c.unroll_value.ensures

-- src/trace.rt:54:1
pub returns-clause-ends : goal.returns-clause-ends
returns-clause-ends c =
    IfOk-weaker c.unroll_value.result (λ u. u ≡ trace_of c.args.p.now) (λ u. u.fault ≡ None → StepsEnd false u.steps)
    (λ u is none. end_once c.args.p.now u (has_trace c.args.p.now u c.requires.nested is) none) c.unroll_value.ensures
