use Rattle.std.proofs.Common.{◌≡◌, ◌∙◌, List, Ok, MatchResult, subst}
use Rattle.apt_records.specs.declared.record.Record.{Record}
use Rattle.apt_machine.specs.declared.machine.Machine.{Machine}
use Rattle.apt_circular.specs.declared.ArcAct.{ArcAct}
use Rattle.apt_tape.specs.Tapes.{acts_on, run_on}
use Rattle.apt_core.specs.Due.{ComesToNone, acts_due}
use Rattle.apt_tape.specs.Differences.{IsDifference}
use Rattle.apt_core.proofs.certify.difference_on.Goals as goal

pub returns-in_ok-run-in-Ok-Ok-clause-differs : goal.returns-in_ok-run-in-Ok-Ok-clause-differs
returns-in_ok-run-in-Ok-Ok-clause-differs g c =
    let run = c.in_ok-run-in-Ok-Ok.ensures.run in
    let machine = c.in-Ok-Ok.machine in (
      run.0,
      run.1,
      rw (c.in-Ok-Ok.is-0, c.in-Ok-Ok.is-1)
          (subst (λ (m : Machine). MatchResult c.difference_in.result (λ at. (acts : List ArcAct) × IsDifference (acts_on m c.in-Ok-Ok.records.items) at acts × (run_on machine run.0 ≡ Ok acts)) (ComesToNone (acts_due machine run.0)))
          c.with_plan-none.ensures.machine
          (subst (λ (rs : List Record). MatchResult c.difference_in.result (λ at. (acts : List ArcAct) × IsDifference (acts_on c.with_plan-none.result.machine.now rs) at acts × (run_on machine run.0 ≡ Ok acts)) (ComesToNone (acts_due machine run.0)))
          (c.with_plan-none.ensures.records ∙ c.deref.ensures.value) (c.difference_in.ensures c.with_plan-none.result machine run.0 run.2))),
    )
