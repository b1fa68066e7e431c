-- Steps in front of others.
use Rattle.std.proofs.Common.{◌≡◌, ℕ, suc, ◌+◌, ◌-◌, ◌<◌, List, [], ◌∷◌, ◌++◌, Some, None, Ok, Err, refl, sym, ap, append_assoc, arith}
use Rattle.std.proofs.lemmas.List.{append-nil}
use Rattle.apt_words.specs.declared.Refusal.{Refusal}
use Rattle.apt_words.specs.declared.body.Stmt.{Stmt}
use Rattle.apt_words.specs.declared.deed.Step.{Step}
use Rattle.apt_unroll.specs.Stages.{Stage}
use Rattle.apt_unroll.specs.Trace.{Trace, moment, with_moment, trace_from, behind}

one_left : (left : ℕ) → 0 < left → left ≡ suc (left - 1)
one_left left h = omega (arith, h)

-- a trace with a step left, by what is done next
pub next_of : (left n : ℕ) (sts : List Stmt) (s : Stage) → 0 < left → trace_from left n sts s ≡ with_moment n (moment sts n s) (trace_from (left - 1) (n + 1) sts)
unfolding trace_from
next_of left n sts s h = ap (λ left. trace_from left n sts s) (one_left left h)

one_more : (before : List Step) (st : Step) (more : Trace) → behind (before ++ st ∷ []) more ≡ behind before (record { steps = st ∷ more.steps; fault = more.fault })
one_more before st more = ap (λ steps. record { steps = steps; fault = more.fault }) (append_assoc before (st ∷ []) more.steps)

pub stepped : (before : List Step) (left n : ℕ) (sts : List Stmt) (s next : Stage) (st : Step) → 0 < left → st.step ≡ n
    → moment sts n s ≡ Some (st.line, Ok (st.deed, Some next))
    → behind (before ++ st ∷ []) (trace_from (left - 1) (n + 1) sts next) ≡ behind before (trace_from left n sts s)
stepped before left n sts s next st some number is = rw (next_of left n sts s some, is, sym number) (one_more before st (trace_from (left - 1) (st.step + 1) sts next))

pub finished : (before : List Step) (left n : ℕ) (sts : List Stmt) (s : Stage) (st : Step) → 0 < left → st.step ≡ n
    → moment sts n s ≡ Some (st.line, Ok (st.deed, None)) → record { steps = before ++ st ∷ []; fault = None } ≡ behind before (trace_from left n sts s)
finished before left n sts s st some number is = rw (next_of left n sts s some, is, sym number) refl

pub refused_at : (before : List Step) (left n : ℕ) (sts : List Stmt) (s : Stage) (r : Refusal) → 0 < left → r.step ≡ n
    → moment sts n s ≡ Some (r.line, Err r.case) → record { steps = before; fault = Some r } ≡ behind before (trace_from left n sts s)
refused_at before left n sts s r some number is =
    rw (next_of left n sts s some, is, sym number) (ap (λ steps. record { steps = steps; fault = Some r }) (sym (append-nil before)))

pub run_out : (before : List Step) (left n : ℕ) (sts : List Stmt) (s : Stage) → 0 < left
    → moment sts n s ≡ None → record { steps = before; fault = None } ≡ behind before (trace_from left n sts s)
run_out before left n sts s some is = rw (next_of left n sts s some, is) (ap (λ steps. record { steps = steps; fault = None }) (sym (append-nil before)))

pub nothing_left : (before : List Step) (n : ℕ) (sts : List Stmt) (s : Stage) → record { steps = before; fault = None } ≡ behind before (trace_from 0 n sts s)
unfolding trace_from
nothing_left before n sts s = ap (λ steps. record { steps = steps; fault = None }) (sym (append-nil before))
