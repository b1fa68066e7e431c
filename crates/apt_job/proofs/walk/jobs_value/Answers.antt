use Rattle.std.proofs.Common.{◌≡◌, ◌∙◌, ◌∷◌, ◌++◌, ◌+◌, ◌-◌, ◌≤◌, ℕ, [], List, arith, drop, length, length-drop, ap, sym, subst}
use Rattle.std.proofs.Math.ListN.{drop_of_length-le}
use Rattle.std.proofs.lemmas.List.{drop_more}
use Rattle.apt_records.specs.declared.record.Record.{Record}
use Rattle.apt_meaning.specs.Expectations.{expected, Departs}
use Rattle.apt_meaning.specs.Records.{records_of, after}
use Rattle.apt_job.specs.Answering.{IsEntry}
use Rattle.apt_job.specs.Fronts.{cuts_at}
use Rattle.apt_job.specs.Jobs.{jobs_by}
use Rattle.apt_job.proofs.Steps.{IsWalk, begins_in, seen_from, steps_in, walk_on, walk_departs, walk_ends, walk_left, fails_at, place_behind, gone_between}
use Rattle.apt_job.proofs.walk.jobs_value.Goals as goal

pub returns-in-Err-clause-entry : goal.returns-in-Err-clause-entry
returns-in-Err-clause-entry c =
    let xs = c.args.steps.now in
    let i = c.steps.st-index in
    let st = c.st-item.result in
    let here = c.steps.here in
    let written = c.args.records.items in
    let at = c.steps.at in
    let now = c.steps.records.items in
    let rest = drop at now in
    let split : drop i xs ≡ st ∷ drop (i + 1) xs = drop_more xs i st c.steps-test.true ∙ ap (λ x. x ∷ drop (i + 1) xs) (sym c.st-item.is) in
    let walk = subst (IsWalk xs written here rest c.steps.jobs.items) split c.steps.invariant.walk in
    let departs = subst (λ (rs : List Record). Departs (expected here st) rs c.in-Err.fitting) (seen_from now c.deref.result.now at c.deref.ensures.value) (c.in-Err.ensures.taken here (sym c.in_ok-found.ensures.value)) in
    subst (IsEntry xs written) (sym c.entry.ensures)
    (fails_at xs written now at c.in-Err.fitting c.steps.invariant.place c.steps.invariant.count
    (walk_departs xs written here rest c.steps.jobs.items st (drop (i + 1) xs) c.in-Err.fitting walk departs))

pub take-requires-clause-effect : goal.take-requires-clause-effect
take-requires-clause-effect c =
    let xs = c.args.steps.now in
    let i = c.steps.st-index in
    let st = c.st-item.result in
    let here = c.steps.here in
    let written = c.args.records.items in
    let at = c.steps.at in
    let now = c.steps.records.items in
    let rest = drop at now in
    let e = c.in-Some.found in
    let cuts = cuts_at c.in-Ok.front.cuts in
    let later = c.in-Ok.front.rest.now in
    let split : drop i xs ≡ st ∷ drop (i + 1) xs = drop_more xs i st c.steps-test.true ∙ ap (λ x. x ∷ drop (i + 1) xs) (sym c.st-item.is) in
    let walk = subst (IsWalk xs written here rest c.steps.jobs.items) split c.steps.invariant.walk in
    let begins = begins_in here st rest _ _ e cuts later (seen_from now c.deref.result.now at c.deref.ensures.value) c.in-Some.is (c.in-Ok.ensures.taken here (sym c.in_ok-found.ensures.value)) in
    (steps_in xs written here rest c.steps.jobs.items st (drop (i + 1) xs) e cuts later walk begins).good

pub take-requires-clause-vertices : goal.take-requires-clause-vertices
take-requires-clause-vertices c =
    let xs = c.args.steps.now in
    let i = c.steps.st-index in
    let st = c.st-item.result in
    let here = c.steps.here in
    let written = c.args.records.items in
    let at = c.steps.at in
    let now = c.steps.records.items in
    let rest = drop at now in
    let e = c.in-Some.found in
    let cuts = cuts_at c.in-Ok.front.cuts in
    let later = c.in-Ok.front.rest.now in
    let split : drop i xs ≡ st ∷ drop (i + 1) xs = drop_more xs i st c.steps-test.true ∙ ap (λ x. x ∷ drop (i + 1) xs) (sym c.st-item.is) in
    let walk = subst (IsWalk xs written here rest c.steps.jobs.items) split c.steps.invariant.walk in
    let begins = begins_in here st rest _ _ e cuts later (seen_from now c.deref.result.now at c.deref.ensures.value) c.in-Some.is (c.in-Ok.ensures.taken here (sym c.in_ok-found.ensures.value)) in
    (steps_in xs written here rest c.steps.jobs.items st (drop (i + 1) xs) e cuts later walk begins).within

pub take-requires-clause-may : goal.take-requires-clause-may
take-requires-clause-may c =
    let here = c.steps.here in
    let cuts = cuts_at c.in-Ok.front.cuts in
    let now = c.steps.records.items in
    let at = c.steps.at in
    (begins_in here c.st-item.result (drop at now) _ _ c.in-Some.found cuts c.in-Ok.front.rest.now (seen_from now c.deref.result.now at c.deref.ensures.value) c.in-Some.is (c.in-Ok.ensures.taken here (sym c.in_ok-found.ensures.value))).may

pub steps-preserved : goal.steps-preserved
steps-preserved c =
    let xs = c.args.steps.now in
    let i = c.steps.st-index in
    let st = c.st-item.result in
    let here = c.steps.here in
    let written = c.args.records.items in
    let at = c.steps.at in
    let now = c.steps.records.items in
    let rest = drop at now in
    let e = c.in-Some.found in
    let cuts = cuts_at c.in-Ok.front.cuts in
    let later = c.in-Ok.front.rest.now in
    let split : drop i xs ≡ st ∷ drop (i + 1) xs = drop_more xs i st c.steps-test.true ∙ ap (λ x. x ∷ drop (i + 1) xs) (sym c.st-item.is) in
    let walk = subst (IsWalk xs written here rest c.steps.jobs.items) split c.steps.invariant.walk in
    let begins = begins_in here st rest _ _ e cuts later (seen_from now c.deref.result.now at c.deref.ensures.value) c.in-Some.is (c.in-Ok.ensures.taken here (sym c.in_ok-found.ensures.value)) in
    let on = walk_on xs written here rest c.steps.jobs.items st (drop (i + 1) xs) e cuts later walk begins in
    let behind = c.len.result - length later in
    let all : c.len.result ≡ length now = omega (arith, c.len.ensures, c.steps.records.ok.0) in
    let place = place_behind now (records_of st e cuts) later at c.len.result all c.steps.invariant.place begins.front in
    let gone = gone_between now c.deref_mut.result.now c.let_go.new.records at behind c.steps.records.len c.deref_mut.ensures.value c.steps.records.ok.0 place.further place.within c.let_go.ensures in
    record {
      walk = rw (c.in_ok-take.ensures.after, c.in_ok-take.ensures.jobs)
          (subst (λ (rs : List Record). IsWalk xs written (after here e cuts) rs (c.steps.jobs.items ++ jobs_by e cuts) (drop (i + 1) xs)) (sym (gone.same ∙ place.same)) on);
      place = subst (λ (n : ℕ). behind ≤ n) (sym gone.count) place.within;
      count = gone.count ∙ c.steps.invariant.count;
    }

pub returns-then-at-len-clause-jobs : goal.returns-then-at-len-clause-jobs
returns-then-at-len-clause-jobs c =
    let xs = c.args.steps.now in
    let rest = drop c.steps.at c.steps.records.items in
    let none : drop c.steps.st-index xs ≡ [] = drop_of_length-le xs c.steps-test.false in
    let walk = subst (IsWalk xs c.args.records.items c.steps.here rest c.steps.jobs.items) none c.steps.invariant.walk in
    walk_ends xs c.args.records.items c.steps.here rest c.steps.jobs.items walk (drop_of_length-le c.steps.records.items (omega (arith, c.if-at-len.true, c.len-2.ensures, c.steps.records.ok.0)))

pub returns-clause-entry : goal.returns-clause-entry
returns-clause-entry c =
    let xs = c.args.steps.now in
    let written = c.args.records.items in
    let at = c.steps.at in
    let now = c.steps.records.items in
    let none : drop c.steps.st-index xs ≡ [] = drop_of_length-le xs c.steps-test.false in
    let walk = subst (IsWalk xs written c.steps.here (drop at now) c.steps.jobs.items) none c.steps.invariant.walk in
    subst (IsEntry xs written) (sym c.entry-else-at-len.ensures)
    (fails_at xs written now at 0 c.steps.invariant.place c.steps.invariant.count
    (walk_left xs written c.steps.here (drop at now) c.steps.jobs.items walk (omega (arith, length-drop at now, c.steps.invariant.place, c.if-at-len.false, c.len-2.ensures, c.steps.records.ok.0))))
