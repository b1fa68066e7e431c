-- What a statement does: its deed suits it, and it goes on but at FINI.
use Rattle.std.proofs.Common.{◌≡◌, ℕ, ◌+◌, ◌&&◌, ◌==◌, nat_lt, not, Bool, true, false, List, [], ◌∷◌, length, slice_get, Option, Some, None, Result, Ok, Err, refl, sym, ap, ◌∙◌}
use Rattle.std.proofs.Math.Bool.{or-false}
use Rattle.std.specs.Prelude.{IfOk, if◌then◌else◌}
use Rattle.apt_words.specs.Chains.{◌>>=◌}
use Rattle.apt_words.specs.Composition.{flow_of, is_fini}
use Rattle.apt_words.specs.Flow.{Flow, Onward, MacroBegins, MacroEnds, Calls, LoopBegins, LoopEnds, Jumps, Branches, ProgramEnds, ends_program}
use Rattle.apt_words.specs.ProgramEnds.{is_ended}
use Rattle.apt_words.specs.Sources.{DeedHasText}
use Rattle.apt_words.proofs.Titles.{DeedIsUntitled}
use Rattle.apt_words.specs.declared.Case.{Case}
use Rattle.apt_words.specs.declared.Case.TheVariants as cases
use Rattle.apt_words.specs.declared.body.Body.{Body}
use Rattle.apt_words.specs.declared.body.Stmt.{Stmt}
use Rattle.apt_words.specs.declared.deed.Deed.{Deed}
use Rattle.apt_words.specs.declared.deed.Deed.TheVariants as deeds
use Rattle.apt_scalar.specs.Meanings.{Parameters}
use Rattle.apt_scalar.specs.Evaluation.{value_of}
use Rattle.apt_scalar.specs.Scalars.{IsScalar}
use Rattle.apt_scalar.specs.StepScalars.{HasScalars, HasDrillScalars}
use Rattle.apt_scalar.proofs.Ranges.{value_of-scalar}
use Rattle.apt_unroll.specs.declared.numbers.Naming.TheVariants as namings
use Rattle.apt_deeds.specs.Deeds.{deed_of}
use Rattle.apt_unroll.specs.Places.{place_of, target}
use Rattle.apt_unroll.specs.Calls.{Actual, bindings}
use Rattle.apt_unroll.specs.Stages.{Call, Stage, parameters}
use Rattle.apt_unroll.specs.Actions.{Action, go_on, jump_to, label_by, most_calls, enter, formal_of, call, return, action, most_steps, IsActed, step_of}
use Rattle.apt_deeds.proofs.Suits.{Any, any, is_end, Suits, deed_of-suits}

-- ---- what holds of an action, by its form

-- of each refusal
abbrev pub OfRefusals : (Action → Type 0) → Type 0
OfRefusals P = (case : Case) → P (Err case)

pub by_result : {A : Type 0} (P : Action → Type 0) (Q : A → Type 0) (r : Result A Case) (f : A → Action) → IfOk r Q → OfRefusals P → ((a : A) → Q a → P (f a)) → P (r >>= f)
by_result P Q (Ok a) f tells refused more = more a tells
by_result P Q (Err case) f tells refused more = refused case

pub by_target : (P : Action → Type 0) (s : Stage) (deed : Deed) (t : Option ℕ) → OfRefusals P
    → ((j : ℕ) → t ≡ Some j → P (Ok (deed, Some (record s { at = j })))) → P (jump_to s deed t)
by_target P s deed None refused more = refused cases.JumpOutside
by_target P s deed (Some j) refused more = more j refl

pub by_call : (P : Action → Type 0) (s : Stage) (calls : List Call) → OfRefusals P
    → ((c : Call) (more : List Call) → calls ≡ c ∷ more → P (Ok (deeds.Termac, Some (record s { at = c.back; calls = more })))) → P (return s calls)
by_call P s [] refused more = refused cases.JumpOutside
by_call P s (c ∷ calls) refused more = more c calls refl

if_deep : (P : Action → Type 0) (deep : Bool) (a : Action) → OfRefusals P → P a → P (if deep then Err cases.Depth else a)
if_deep P true a refused h = refused cases.Depth
if_deep P false a refused h = h

pub by_macro : (P : Action → Type 0) (sts : List Stmt) (s : Stage) (i : ℕ) (actual : Actual) (k : Option ℕ) → OfRefusals P
    → ((k' : ℕ) (bound : Parameters) → k ≡ Some k' → P (enter s (i + 1) (k' + 1) bound)) → P (call sts s i actual k)
by_macro P sts s i actual None refused more = refused cases.NoSuchMacro
by_macro P sts s i actual (Some k) refused more =
    let ps = parameters s.calls in
    let formal = formal_of (slice_get sts k) in
    if_deep P (length s.calls == most_calls) (bindings s.names ps formal actual >>= enter s (i + 1) (k + 1)) refused
    (by_result P Any (bindings s.names ps formal actual) (enter s (i + 1) (k + 1)) (any (bindings s.names ps formal actual)) refused (λ bound h. more k bound refl))

pub by_tests : (P : Action → Type 0) (sts : List Stmt) (n : ℕ) (s : Stage) (i : ℕ) (st : Stmt) → OfRefusals P
    → (nat_lt most_steps n ≡ false → (s.ended && not (is_fini st.body)) ≡ false → P (action sts s i st.body (flow_of st.body))) → P (step_of sts n s i st)
by_tests P sts n s i st refused more = by (nat_lt most_steps n) (s.ended && not (is_fini st.body)) refl refl
  where
    by : (late ended : Bool) → nat_lt most_steps n ≡ late → (s.ended && not (is_fini st.body)) ≡ ended
        → P (if late then Err cases.Budget else if ended then Err cases.AfterEnd else action sts s i st.body (flow_of st.body))
    by true ended e f = refused cases.Budget
    by false true e f = refused cases.AfterEnd
    by false false e f = more e f

-- ---- deeds

-- an action of a statement before or behind END
abbrev pub Acts : Bool → Body → Action → Type 0
Acts ended body (Err case) = Unit {0}
Acts ended body (Ok (deed, None)) = Suits body deed × (is_fini body ≡ true)
Acts ended body (Ok (deed, Some next)) = Suits body deed × (is_fini body ≡ false) × (next.ended ≡ is_ended ended deed)

ends_by : (body : Body) (flow : Flow) (last : Bool) → flow_of body ≡ flow → ends_program flow ≡ last → is_fini body ≡ last
ends_by body flow last e is = ap ends_program e ∙ is

-- a statement that only says where the run goes on
sent : (body : Body) (deed : Deed) → HasScalars deed → HasDrillScalars deed → is_fini body ≡ is_end deed → DeedHasText deed → DeedIsUntitled deed → Suits body deed
sent body deed scalars drills last text untitled = record { scalars = scalars; drills = drills; ends = sym last; text = λ _. text; untitled = λ _. untitled }

pub acts : (sts : List Stmt) (s : Stage) (i : ℕ) (body : Body) (flow : Flow) → flow_of body ≡ flow → Acts s.ended body (action sts s i body flow)
unfolding action
acts sts s i body Onward e =
    by_result (Acts s.ended body) (Suits body) (deed_of s.names (parameters s.calls) body) (go_on i s) (deed_of-suits s.names (parameters s.calls) body) (λ case. tt)
    (λ deed suits. (suits, ends_by body Onward false e refl, refl))
acts sts s i body (MacroBegins m ps) e = tt
acts sts s i body MacroEnds e =
    let last = ends_by body MacroEnds false e refl in
    by_call (Acts s.ended body) s s.calls (λ case. tt) (λ c more is. (sent body deeds.Termac tt tt last tt tt, last, sym (or-false s.ended)))
acts sts s i body (Calls m actual) e =
    let last = ends_by body (Calls m actual) false e refl in
    by_macro (Acts s.ended body) sts s i actual (place_of namings.Macros sts m) (λ case. tt) (λ k bound is. (sent body deeds.Call tt tt last tt tt, last, sym (or-false s.ended)))
acts sts s i body LoopBegins e = let last = ends_by body LoopBegins false e refl in (sent body deeds.Loopst tt tt last tt tt, last, refl)
acts sts s i body LoopEnds e = let last = ends_by body LoopEnds false e refl in (sent body deeds.Loopnd tt tt last tt tt, last, refl)
acts sts s i body (Jumps l) e =
    let last = ends_by body (Jumps l) false e refl in
    by_target (Acts s.ended body) s deeds.Jumpto (target sts i l) (λ case. tt) (λ j is. (sent body deeds.Jumpto tt tt last tt tt, last, sym (or-false s.ended)))
acts sts s i body (Branches v a b c) e =
    let last = ends_by body (Branches v a b c) false e refl in
    by_result (Acts s.ended body) IsScalar (value_of s.names (parameters s.calls) v) _ (value_of-scalar s.names (parameters s.calls) v) (λ case. tt)
    (λ v h. by_target (Acts s.ended body) s deeds.If (target sts i (label_by v a b c)) (λ case. tt) (λ j is. (sent body deeds.If tt tt last tt tt, last, sym (or-false s.ended))))
acts sts s i body ProgramEnds e = let last = ends_by body ProgramEnds true e refl in (sent body deeds.Fini tt tt last tt tt, last)

pub step_acts : (sts : List Stmt) (n : ℕ) (s : Stage) (i : ℕ) (st : Stmt) → Acts s.ended st.body (step_of sts n s i st)
step_acts sts n s i st = by_tests (Acts s.ended st.body) sts n s i st (λ case. tt) (λ _ _. acts sts s i st.body (flow_of st.body) refl)

-- ---- an action that is done

pub acted_on : (ended : Bool) (body : Body) (a : Action) (deed : Deed) (now : Stage) → Acts ended body a → is_fini body ≡ false → IsActed a (Ok deed) now → a ≡ Ok (deed, Some now)
acted_on ended body (Ok (d, None)) deed now acts last is = absurd (cc)
acted_on ended body (Ok (d, Some next)) deed now acts last is = cc
acted_on ended body (Err case) deed now acts last is = absurd is
