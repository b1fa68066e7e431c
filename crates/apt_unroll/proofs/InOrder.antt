-- The trace of a program without macros, loops and jumps has its statements in order.
use Rattle.std.proofs.Common.{◌≡◌, ℕ, zero, suc, ◌+◌, ◌≤◌, ◌&&◌, nat_lt, not, Bool, true, false, List, [], ◌∷◌, drop, slice_get, Some, None, Result, Ok, Err, refl, sym, ap, ◌∙◌, subst, arith}
use Rattle.std.specs.Prelude.{if◌then◌else◌}
use Rattle.std.proofs.lemmas.Bool.Decides.{nat_tests}
use Rattle.apt_words.specs.Chains.{◌>>=◌}
use Rattle.apt_words.specs.Composition.{flow_of, is_fini}
use Rattle.apt_words.specs.Flow.{Flow, Onward, MacroBegins, MacroEnds, Calls, LoopBegins, LoopEnds, Jumps, Branches, ProgramEnds, ends_program}
use Rattle.apt_words.specs.ProgramEnds.{is_ended}
use Rattle.apt_words.specs.declared.Case.{Case}
use Rattle.apt_words.specs.declared.Case.TheVariants as cases
use Rattle.apt_words.specs.declared.body.Body.{Body}
use Rattle.apt_words.specs.declared.body.Body.TheVariants as bodies
use Rattle.apt_words.specs.declared.body.Stmt.{Stmt}
use Rattle.apt_words.specs.declared.deed.Deed.{Deed}
use Rattle.apt_words.specs.declared.deed.Deed.TheVariants as deeds
use Rattle.apt_scalar.specs.Meanings.{Names}
use Rattle.apt_deeds.specs.Deeds.{by_values, executed, deed_of, names_behind}
use Rattle.apt_unroll.specs.Places.{begins_macro, behind_macros, executed_from}
use Rattle.apt_unroll.specs.Stages.{Stage}
use Rattle.apt_unroll.specs.Actions.{go_on, action, most_steps, step_of}
use Rattle.apt_unroll.specs.Trace.{Trace, empty_trace, with_number, moment_of, moment, with_step, with_moment, trace_from, trace_of}
use Rattle.apt_unroll.specs.Straight.{IsStraight, AreStraight, or_refused, deed_at, straight_from, in_order}
use Rattle.apt_unroll.proofs.Nesting.{first_of, rest_of}

-- a stage outside of macros
abbrev outside : ℕ → Bool → Names → Stage
outside at ended names = record { at = at; ended = ended; names = names; calls = [] }

-- ---- one statement

begins_none : (flow : Flow) (rest : List Stmt) → IsStraight flow rest (AreStraight rest) → begins_macro flow ≡ false
begins_none Onward rest straight = refl
begins_none (MacroBegins m ps) rest straight = absurd straight
begins_none MacroEnds rest straight = absurd straight
begins_none (Calls m args) rest straight = absurd straight
begins_none LoopBegins rest straight = absurd straight
begins_none LoopEnds rest straight = absurd straight
begins_none (Jumps l) rest straight = absurd straight
begins_none (Branches e a b c) rest straight = absurd straight
begins_none ProgramEnds rest straight = refl

stays_put : (sts : List Stmt) (i : ℕ) (st : Stmt) (rest : List Stmt) → drop i sts ≡ st ∷ rest → AreStraight (st ∷ rest) → executed_from sts i ≡ i
stays_put sts i st rest e straight = ap (behind_macros false i) e ∙ ap (λ b. if b then behind_macros true (i + 1) rest else i) (begins_none (flow_of st.body) rest straight)

moment_is : (sts : List Stmt) (n : ℕ) (s : Stage) (st : Stmt) (rest : List Stmt) → drop s.at sts ≡ st ∷ rest → AreStraight (st ∷ rest)
    → moment sts n s ≡ Some (st.line, step_of sts n s s.at st)
moment_is sts n s st rest e straight =
    ap (λ i. moment_of sts n s (with_number i (slice_get sts i))) (stays_put sts s.at st rest e straight)
    ∙ ap (λ o. moment_of sts n s (with_number s.at o)) (first_of sts s.at st rest e)

abbrev tested : {A : Type 0} → Bool → Bool → Result A Case → Result A Case
tested late ended r = if late then Err cases.Budget else if ended then Err cases.AfterEnd else r

onward : (late ended : Bool) (line n i : ℕ) (s : Stage) (d : Result Deed Case) (more : Stage → Trace) (rest : Deed → Trace)
    → (late ≡ false → (deed : Deed) → more (record { at = i + 1; ended = is_ended s.ended deed; names = names_behind s.names deed; calls = s.calls }) ≡ rest deed)
    → with_moment n (Some (line, tested late ended (d >>= go_on i s))) more ≡ or_refused line n (tested late ended d) rest
onward true ended line n i s d more rest h = refl
onward false true line n i s d more rest h = refl
onward false false line n i s (Err case) more rest h = refl
onward false false line n i s (Ok deed) more rest h = ap (with_step line n deed) (h refl deed)

at_fini : (late ended : Bool) (line n : ℕ) (more : Stage → Trace) (rest : Deed → Trace) → rest deeds.Fini ≡ empty_trace
    → with_moment n (Some (line, tested late ended (Ok (deeds.Fini, None)))) more ≡ or_refused line n (tested late ended (Ok deeds.Fini)) rest
at_fini true ended line n more rest h = refl
at_fini false true line n more rest h = refl
at_fini false false line n more rest h = ap (with_step line n deeds.Fini) (sym h)

fini_is : (body : Body) → is_fini body ≡ true → body ≡ bodies.Fini
fini_is bodies.Fini h = refl
fini_is _ h = cc

fini_deed : (names : Names) (body : Body) → body ≡ bodies.Fini → deed_of names [] body ≡ Ok deeds.Fini
unfolding deed_of executed by_values
fini_deed names body h = rw h refl

none_behind : (n : ℕ) (ended : Bool) (names : Names) (rest : List Stmt) → rest ≡ [] → straight_from n ended names rest ≡ empty_trace
none_behind n ended names rest h = ap (straight_from n ended names) h

not_late : (n : ℕ) → nat_lt most_steps n ≡ false → n ≤ 200000
not_late n e = grind (arith, nat_tests)

-- ---- all statements

abbrev InOrder : ℕ → ℕ → List Stmt → Bool → Names → ℕ → Type 0
InOrder left n sts ended names at = trace_from left n sts (outside at ended names) ≡ straight_from n ended names (drop at sts)

by_flow : (sts : List Stmt) (n at left : ℕ) (ended : Bool) (names : Names) (st : Stmt) (rest : List Stmt) (flow : Flow) → flow_of st.body ≡ flow
    → drop (at + 1) sts ≡ rest → IsStraight flow rest (AreStraight rest)
    → ((ended : Bool) (names : Names) → n ≤ 200000 → AreStraight (drop (at + 1) sts) → InOrder left (n + 1) sts ended names (at + 1))
    → with_moment n (Some (st.line, tested (nat_lt most_steps n) (ended && not (is_fini st.body)) (action sts (outside at ended names) at st.body flow))) (trace_from left (n + 1) sts)
    ≡ or_refused st.line n (deed_at n ended names st.body) (λ deed. straight_from (n + 1) (is_ended ended deed) (names_behind names deed) rest)
unfolding action
by_flow sts n at left ended names st rest Onward is e straight more =
    onward (nat_lt most_steps n) (ended && not (is_fini st.body)) st.line n at (outside at ended names) (deed_of names [] st.body) (trace_from left (n + 1) sts) _
    (λ early deed.
    more (is_ended ended deed) (names_behind names deed) (not_late n early) (subst AreStraight (sym e) straight)
    ∙ ap (straight_from (n + 1) (is_ended ended deed) (names_behind names deed)) e)
by_flow sts n at left ended names st rest ProgramEnds is e straight more =
    let last : is_fini st.body ≡ true = ap ends_program is in
    rw (fini_deed names st.body (fini_is st.body last))
    (at_fini (nat_lt most_steps n) (ended && not (is_fini st.body)) st.line n (trace_from left (n + 1) sts) _
    (none_behind (n + 1) (is_ended ended deeds.Fini) (names_behind names deeds.Fini) rest straight))
by_flow sts n at left ended names st rest (MacroBegins m ps) is e straight more = absurd straight
by_flow sts n at left ended names st rest MacroEnds is e straight more = absurd straight
by_flow sts n at left ended names st rest (Calls m args) is e straight more = absurd straight
by_flow sts n at left ended names st rest LoopBegins is e straight more = absurd straight
by_flow sts n at left ended names st rest LoopEnds is e straight more = absurd straight
by_flow sts n at left ended names st rest (Jumps l) is e straight more = absurd straight
by_flow sts n at left ended names st rest (Branches v a b c) is e straight more = absurd straight

in_order_by : (left n : ℕ) (sts : List Stmt) (ended : Bool) (names : Names) (at : ℕ)
    → ((ended : Bool) (names : Names) → n ≤ 200000 → AreStraight (drop (at + 1) sts) → InOrder left (n + 1) sts ended names (at + 1)) → (l : List Stmt) → drop at sts ≡ l → AreStraight l
    → with_moment n (moment sts n (outside at ended names)) (trace_from left (n + 1) sts) ≡ straight_from n ended names l
in_order_by left n sts ended names at more [] e straight = absurd straight
in_order_by left n sts ended names at more (st ∷ rest) e straight =
    ap (λ m. with_moment n m (trace_from left (n + 1) sts)) (moment_is sts n (outside at ended names) st rest e straight)
    ∙ by_flow sts n at left ended names st rest (flow_of st.body) refl (rest_of sts at st rest e) straight more

in_order_from : (left n : ℕ) (sts : List Stmt) (ended : Bool) (names : Names) (at : ℕ) → n + left ≡ 200002 → n ≤ 200001 → AreStraight (drop at sts) → InOrder left n sts ended names at
unfolding trace_from
in_order_from zero n sts ended names at count early straight = absurd (omega (arith, count, early))
in_order_from (suc left) n sts ended names at count early straight =
    in_order_by left n sts ended names at
    (λ ended names few straight. in_order_from left (n + 1) sts ended names (at + 1) (omega (arith, count)) (omega (arith, few)) straight)
    (drop at sts) refl straight

pub straight_in_order : (sts : List Stmt) (t : Trace) → AreStraight sts → t ≡ trace_of sts → t ≡ in_order sts
straight_in_order sts t straight is = is ∙ in_order_from (most_steps + 1) 1 sts false [] 0 refl (omega arith) straight
