-- The next step of a run: where it is looked for, and what it does.
use Rattle.std.proofs.Common.{◌≡◌, ℕ, ◌&&◌, nat_lt, not, true, false, List, slice_get, Some, None, Ok, refl, sym, ap, ◌∙◌, subst}
use Rattle.apt_words.specs.Composition.{flow_of, is_fini}
use Rattle.apt_words.specs.Flow.{Flow, Onward, ProgramEnds, ends_program}
use Rattle.apt_words.specs.declared.body.Body.{Body}
use Rattle.apt_words.specs.declared.body.Stmt.{Stmt}
use Rattle.apt_words.specs.declared.deed.Deed.{Deed}
use Rattle.apt_words.specs.declared.deed.Deed.TheVariants as deeds
use Rattle.apt_unroll.specs.declared.trace.Next.{Next}
use Rattle.apt_unroll.specs.Places.{begins_macro, goes_on}
use Rattle.apt_unroll.specs.Stages.{Stage}
use Rattle.apt_unroll.specs.Actions.{onward, action, most_steps, IsActed, step_of}
use Rattle.apt_unroll.specs.Trace.{with_number, about_to_run, moment_of, moment, IsNext}
use Rattle.apt_unroll.proofs.Acts.{acts, acted_on}
use Rattle.apt_unroll.proofs.Tables.{stays, stays_past}

-- ---- where it is looked for

pub ends_behind : (sts : List Stmt) (n : ℕ) (s : Stage) → None ≡ about_to_run sts s → moment sts n s ≡ None
ends_behind sts n s none = ap (moment_of sts n s) (sym none)

due : (sts : List Stmt) (n : ℕ) (s : Stage) (i : ℕ) (st : Stmt) → Some (i, st) ≡ about_to_run sts s → moment sts n s ≡ Some (st.line, step_of sts n s i st)
due sts n s i st there = ap (moment_of sts n s) (sym there)

pub next_behind : (sts : List Stmt) (n : ℕ) (s : Stage) (i : ℕ) (st : Stmt) (r : Next) (now : Stage) → Some (i, st) ≡ about_to_run sts s
    → IsNext (Some (st.line, step_of sts n s i st)) n r now → IsNext (moment sts n s) n r now
next_behind sts n s i st r now there is = subst (λ due. IsNext due n r now) (sym (due sts n s i st there)) is

pub ends_here : (sts : List Stmt) (n : ℕ) (s : Stage) → slice_get sts s.at ≡ None → moment sts n s ≡ None
ends_here sts n s none =
    ends_behind sts n s (sym (ap (λ k. with_number k (slice_get sts k)) (stays_past sts s.at none) ∙ ap (with_number s.at) none))

-- a statement that begins no macro is executed where the run comes to it
pub next_here : (sts : List Stmt) (n : ℕ) (s : Stage) (st : Stmt) (r : Next) (now : Stage) → slice_get sts s.at ≡ Some st → begins_macro (flow_of st.body) ≡ false
    → IsNext (Some (st.line, step_of sts n s s.at st)) n r now → IsNext (moment sts n s) n r now
next_here sts n s st r now there begins is =
    next_behind sts n s s.at st r now (sym (ap (λ k. with_number k (slice_get sts k)) (stays sts s.at st there begins) ∙ ap (with_number s.at) there)) is

-- ---- what it does

is_onward : (flow : Flow) → goes_on flow ≡ true → flow ≡ Onward
is_onward Onward h = refl
is_onward _ h = absurd (cc)

as_onward : (sts : List Stmt) (s : Stage) (i : ℕ) (body : Body) → goes_on (flow_of body) ≡ true → action sts s i body (flow_of body) ≡ onward s i body
unfolding action
as_onward sts s i body h = ap (action sts s i body) (is_onward (flow_of body) h)

in_time : (sts : List Stmt) (n : ℕ) (s : Stage) (i : ℕ) (st : Stmt) → nat_lt most_steps n ≡ false → (s.ended && not (is_fini st.body)) ≡ false
    → step_of sts n s i st ≡ action sts s i st.body (flow_of st.body)
in_time sts n s i st late ended = rw (late, ended) refl

pub next_turned : (sts : List Stmt) (n : ℕ) (s : Stage) (i : ℕ) (st : Stmt) (r : Next) (now : Stage) → nat_lt most_steps n ≡ false → (s.ended && not (is_fini st.body)) ≡ false
    → IsNext (Some (st.line, action sts s i st.body (flow_of st.body))) n r now → IsNext (Some (st.line, step_of sts n s i st)) n r now
next_turned sts n s i st r now late ended is = subst (λ a. IsNext (Some (st.line, a)) n r now) (sym (in_time sts n s i st late ended)) is

pub next_onward : (sts : List Stmt) (n : ℕ) (s : Stage) (i : ℕ) (st : Stmt) (r : Next) (now : Stage) → nat_lt most_steps n ≡ false → (s.ended && not (is_fini st.body)) ≡ false
    → goes_on (flow_of st.body) ≡ true → IsNext (Some (st.line, onward s i st.body)) n r now → IsNext (Some (st.line, step_of sts n s i st)) n r now
next_onward sts n s i st r now late ended on is =
    next_turned sts n s i st r now late ended (subst (λ a. IsNext (Some (st.line, a)) n r now) (sym (as_onward sts s i st.body on)) is)

-- FINI
last_by : (sts : List Stmt) (s : Stage) (i : ℕ) (body : Body) (flow : Flow) → ends_program flow ≡ true → action sts s i body flow ≡ Ok (deeds.Fini, None)
unfolding action
last_by sts s i body ProgramEnds h = refl
last_by sts s i body _ h = absurd (cc)

pub next_last : (sts : List Stmt) (n : ℕ) (s : Stage) (i : ℕ) (st : Stmt) → nat_lt most_steps n ≡ false → (s.ended && not (is_fini st.body)) ≡ false
    → is_fini st.body ≡ true → step_of sts n s i st ≡ Ok (deeds.Fini, None)
next_last sts n s i st late ended last = in_time sts n s i st late ended ∙ last_by sts s i st.body (flow_of st.body) last

-- an action that is done, behind which the run goes on
pub turned_on : (sts : List Stmt) (s : Stage) (i : ℕ) (body : Body) (deed : Deed) (now : Stage) → is_fini body ≡ false
    → IsActed (action sts s i body (flow_of body)) (Ok deed) now → action sts s i body (flow_of body) ≡ Ok (deed, Some now)
turned_on sts s i body deed now last is = acted_on s.ended body (action sts s i body (flow_of body)) deed now (acts sts s i body (flow_of body) refl) last is
