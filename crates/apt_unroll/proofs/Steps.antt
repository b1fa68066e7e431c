-- What holds of the steps of a trace: their numbers are scalars, they have lines, numbers and texts, and they end in FINI.
use Rattle.std.proofs.Common.{◌≡◌, ℕ, zero, suc, ◌+◌, ◌≤◌, ◌&&◌, not, Bool, true, false, List, [], ◌∷◌, drop, slice_get, Option, Some, None, Ok, Err, refl, sym, ap, ◌∙◌, subst, arith}
use Rattle.std.specs.Prelude.{if◌then◌else◌}
use Rattle.apt_words.specs.Composition.{flow_of, is_fini}
use Rattle.apt_words.specs.ProgramEnds.{is_ended, StepsEnd}
use Rattle.apt_words.specs.Sources.{IsCount, IsStmt, AreStmts, IsExecuted, AreExecuted, AreNumbered}
use Rattle.apt_words.specs.declared.Refusal.{Refusal}
use Rattle.apt_words.specs.declared.body.Body.{Body}
use Rattle.apt_words.specs.declared.body.Stmt.{Stmt}
use Rattle.apt_words.specs.declared.deed.Deed.{Deed}
use Rattle.apt_words.specs.declared.deed.Deed.TheVariants as deeds
use Rattle.apt_words.specs.declared.deed.Step.{Step}
use Rattle.apt_scalar.specs.StepScalars.{HasScalars, AreScalars, HasDrillScalars, AreDrillScalars}
use Rattle.apt_unroll.specs.Places.{begins_macro, ends_macro, behind_macros, executed_from}
use Rattle.apt_unroll.specs.Stages.{Stage, first_stage}
use Rattle.apt_unroll.specs.Actions.{Action, action, step_of}
use Rattle.apt_unroll.specs.Trace.{Trace, with_number, moment_of, moment, IsDone, AreRun, IsTrace}
use Rattle.apt_deeds.proofs.Suits.{is_end, Suits}
use Rattle.apt_unroll.proofs.Acts.{Acts, by_tests, step_acts}
use Rattle.apt_unroll.proofs.Found.{few}

-- ---- the statement of a moment

pub record IsAt (sts : List Stmt) (n : ℕ) (s : Stage) (line : ℕ) (a : Action) : Type 0 where
  pub i : ℕ
  pub from : s.at ≤ i
  pub st : Stmt
  pub there : slice_get sts i ≡ Some st
  pub line_is : st.line ≡ line
  pub does : step_of sts n s i st ≡ a

same_moment : (k l : ℕ) (a b : Action) → ◌≡◌ {A = Option (ℕ × Action)} (Some (k, a)) (Some (l, b)) → (k ≡ l) × (a ≡ b)
same_moment k l a b h =
    let both : ◌≡◌ {A = ℕ × Action} (k, a) (l, b) = cc in
    (ap (λ (p : ℕ × Action). p.0) both, ap (λ (p : ℕ × Action). p.1) both)

-- macro definitions are passed over, onwards
either_behind : (i n : ℕ) (begins : Bool) → i ≤ n → i ≤ (if begins then n else i)
either_behind i n true h = h
either_behind i n false h = omega arith

behind_from : (within : Bool) (i : ℕ) (sts : List Stmt) → i ≤ behind_macros within i sts
behind_from within i [] = omega arith
behind_from false i (st ∷ sts) = either_behind i (behind_macros true (i + 1) sts) (begins_macro (flow_of st.body)) (omega (arith, behind_from true (i + 1) sts))
behind_from true i (st ∷ sts) = omega (arith, behind_from (if ends_macro (flow_of st.body) then false else true) (i + 1) sts)

pub is_at : (sts : List Stmt) (n : ℕ) (s : Stage) (line : ℕ) (a : Action) → moment sts n s ≡ Some (line, a) → IsAt sts n s line a
is_at sts n s line a h = by (executed_from sts s.at) (slice_get sts (executed_from sts s.at)) (behind_from false s.at (drop s.at sts)) refl h
  where
    by : (i : ℕ) (o : Option Stmt) → s.at ≤ i → slice_get sts i ≡ o → moment_of sts n s (with_number i o) ≡ Some (line, a) → IsAt sts n s line a
    by i None from e h = absurd (cc)
    by i (Some st) from e h =
        let same = same_moment st.line line (step_of sts n s i st) a h in
        record { i = i; from = from; st = st; there = e; line_is = same.0; does = same.1 }

stmt_at : (sts : List Stmt) (i : ℕ) (st : Stmt) → AreStmts sts → slice_get sts i ≡ Some st → IsStmt st
stmt_at [] i st are h = absurd (cc)
stmt_at (x ∷ sts) zero st are h = let same : x ≡ st = cc in subst IsStmt same are.0
stmt_at (x ∷ sts) (suc i) st are h = stmt_at sts i st are.1 h

-- ---- a step

record IsGood (step : Step) : Type 0 where
  scalars : HasScalars step.deed
  drills : HasDrillScalars step.deed
  executed : IsExecuted step

pub suits : (ended : Bool) (body : Body) (deed : Deed) (next : Option Stage) → Acts ended body (Ok (deed, next)) → Suits body deed
suits ended body deed None acts = acts.0
suits ended body deed (Some next) acts = acts.0

done_good : (sts : List Stmt) (n : ℕ) (s : Stage) (step : Step) (next : Option Stage) → AreStmts sts → 1 ≤ n → IsDone sts n s step next → IsGood step
done_good sts n s step next stmts h done =
    let m = is_at sts n s step.line (Ok (step.deed, next)) done.1 in
    let good = suits s.ended m.st.body step.deed next (subst (Acts s.ended m.st.body) m.does (step_acts sts n s m.i m.st)) in
    let st = stmt_at sts m.i m.st stmts m.there in
    let early = few sts n s step next done in
    record {
      scalars = good.scalars;
      drills = good.drills;
      executed = record {
        line = subst IsCount m.line_is st.line;
        step = (omega (arith, h, done.0), omega (arith, early, done.0));
        text = good.text st.text;
      };
    }

-- ---- all steps

abbrev AreGood : List Step → Type 0
AreGood [] = Unit {0}
AreGood (step ∷ steps) = IsGood step × AreGood steps

run_good : (n : ℕ) (sts : List Stmt) (s : Stage) (behind : List Stage) (steps : List Step) (fault : Option Refusal) → AreStmts sts → 1 ≤ n
    → AreRun sts n (s ∷ behind) steps fault → AreGood steps
run_good n sts s [] [] None stmts h run = absurd run
run_good n sts s [] [] (Some refusal) stmts h run = tt
run_good n sts s [] (step ∷ []) None stmts h run = (done_good sts n s step None stmts h run, tt)
run_good n sts s [] (step ∷ []) (Some refusal) stmts h run = absurd run
run_good n sts s [] (step ∷ next ∷ more) fault stmts h run = absurd run
run_good n sts s (next ∷ behind) [] fault stmts h run = absurd run
run_good n sts s (next ∷ behind) (step ∷ steps) fault stmts h run =
    let rest = run_good (n + 1) sts next behind steps fault stmts (omega arith) run.1 in
    (done_good sts n s step (Some next) stmts h run.0, rest)

trace_good : (sts : List Stmt) (t : Trace) → AreStmts sts → IsTrace sts t → AreGood t.steps
trace_good sts t stmts is = run_good 1 sts first_stage is.behind t.steps t.fault stmts (omega arith) is.run

scalars_of : (steps : List Step) → AreGood steps → AreScalars steps
scalars_of [] are = tt
scalars_of (step ∷ steps) are = (are.0.scalars, scalars_of steps are.1)

drills_of : (steps : List Step) → AreGood steps → AreDrillScalars steps
drills_of [] are = tt
drills_of (step ∷ steps) are = (are.0.drills, drills_of steps are.1)

executed_of : (steps : List Step) → AreGood steps → AreExecuted steps
executed_of [] are = tt
executed_of (step ∷ steps) are = (are.0.executed, executed_of steps are.1)

pub are_scalars : (sts : List Stmt) (t : Trace) → AreStmts sts → IsTrace sts t → AreScalars t.steps
are_scalars sts t stmts is = scalars_of t.steps (trace_good sts t stmts is)

pub are_drills : (sts : List Stmt) (t : Trace) → AreStmts sts → IsTrace sts t → AreDrillScalars t.steps
are_drills sts t stmts is = drills_of t.steps (trace_good sts t stmts is)

pub are_executed : (sts : List Stmt) (t : Trace) → AreStmts sts → IsTrace sts t → AreExecuted t.steps
are_executed sts t stmts is = executed_of t.steps (trace_good sts t stmts is)

-- ---- their numbers

run_numbered : (n : ℕ) (sts : List Stmt) (s : Stage) (behind : List Stage) (steps : List Step) (fault : Option Refusal) → AreRun sts n (s ∷ behind) steps fault → AreNumbered n steps
run_numbered n sts s [] [] fault run = tt
run_numbered n sts s [] (step ∷ []) None run = (run.0, tt)
run_numbered n sts s [] (step ∷ []) (Some refusal) run = absurd run
run_numbered n sts s [] (step ∷ next ∷ more) fault run = absurd run
run_numbered n sts s (next ∷ behind) [] fault run = absurd run
run_numbered n sts s (next ∷ behind) (step ∷ steps) fault run = (run.0.0, run_numbered (n + 1) sts next behind steps fault run.1)

pub are_numbered : (sts : List Stmt) (t : Trace) → IsTrace sts t → AreNumbered 1 t.steps
are_numbered sts t is = run_numbered 1 sts first_stage is.behind t.steps t.fault is.run

-- ---- the end

-- behind END no step but FINI is executed
abbrev IsBeforeEnd : Bool → Body → Action → Type 0
IsBeforeEnd ended body (Err case) = Unit {0}
IsBeforeEnd ended body (Ok done) = (ended && not (is_fini body)) ≡ false

before_end : (sts : List Stmt) (n : ℕ) (s : Stage) (i : ℕ) (st : Stmt) → IsBeforeEnd s.ended st.body (step_of sts n s i st)
before_end sts n s i st = by_tests (IsBeforeEnd s.ended st.body) sts n s i st (λ _. tt) (λ _ going. of_action (action sts s i st.body (flow_of st.body)) going)
  where
    of_action : (a : Action) → (s.ended && not (is_fini st.body)) ≡ false → IsBeforeEnd s.ended st.body a
    of_action (Err case) going = tt
    of_action (Ok done) going = going

not_ended : (ended last : Bool) → last ≡ false → (ended && not last) ≡ false → ended ≡ false
not_ended false last is h = refl
not_ended true true is h = absurd (cc)
not_ended true false is h = absurd (cc)

end_is : (deed : Deed) → is_end deed ≡ true → deed ≡ deeds.Fini
end_is deeds.Fini h = refl
end_is _ h = cc

not_end : (deed : Deed) → is_end deed ≡ false → ¬ (deed ≡ deeds.Fini)
not_end deed h is = absurd (cc)

last_is : (sts : List Stmt) (n : ℕ) (s : Stage) (step : Step) → IsDone sts n s step None → step.deed ≡ deeds.Fini
last_is sts n s step done =
    let m = is_at sts n s step.line (Ok (step.deed, None)) done.1 in
    let acts = subst (Acts s.ended m.st.body) m.does (step_acts sts n s m.i m.st) in
    end_is step.deed (acts.0.ends ∙ acts.1)

-- a step before the last
record GoesOn (s next : Stage) (step : Step) : Type 0 where
  going : s.ended ≡ false
  other : ¬ (step.deed ≡ deeds.Fini)
  ended : is_ended s.ended step.deed ≡ next.ended

goes_on : (sts : List Stmt) (n : ℕ) (s next : Stage) (step : Step) → IsDone sts n s step (Some next) → GoesOn s next step
goes_on sts n s next step done =
    let m = is_at sts n s step.line (Ok (step.deed, Some next)) done.1 in
    let acts = subst (Acts s.ended m.st.body) m.does (step_acts sts n s m.i m.st) in
    let going = subst (IsBeforeEnd s.ended m.st.body) m.does (before_end sts n s m.i m.st) in
    record {
      going = not_ended s.ended (is_fini m.st.body) acts.1 going;
      other = not_end step.deed (acts.0.ends ∙ acts.1);
      ended = sym acts.2;
    }

-- one step in front of others
ends_behind : (ended : Bool) (st : Step) (more : List Step) → ended ≡ false → ¬ (st.deed ≡ deeds.Fini) → StepsEnd (is_ended ended st.deed) more → StepsEnd ended (st ∷ more)
ends_behind ended st [] going other rest = absurd rest
ends_behind ended st (next ∷ more) going other rest = (going, other, rest)

run_ends : (n : ℕ) (sts : List Stmt) (s : Stage) (behind : List Stage) (steps : List Step) (fault : Option Refusal) → fault ≡ None
    → AreRun sts n (s ∷ behind) steps fault → StepsEnd s.ended steps
run_ends n sts s [] [] None none run = absurd run
run_ends n sts s [] [] (Some refusal) none run = absurd (cc)
run_ends n sts s [] (step ∷ []) None none run = last_is sts n s step run
run_ends n sts s [] (step ∷ []) (Some refusal) none run = absurd run
run_ends n sts s [] (step ∷ next ∷ more) fault none run = absurd run
run_ends n sts s (next ∷ behind) [] fault none run = absurd run
run_ends n sts s (next ∷ behind) (step ∷ steps) fault none run =
    let on = goes_on sts n s next step run.0 in
    ends_behind s.ended step steps on.going on.other (subst (λ ended. StepsEnd ended steps) (sym on.ended) (run_ends (n + 1) sts next behind steps fault none run.1))

pub end_once : (sts : List Stmt) (t : Trace) → IsTrace sts t → t.fault ≡ None → StepsEnd false t.steps
end_once sts t is none = run_ends 1 sts first_stage is.behind t.steps t.fault none is.run
