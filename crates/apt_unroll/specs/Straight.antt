-- Programs without macros, loops and jumps: their statements are executed in order.
use Rattle.std.specs.Prelude.{◌≡◌, ℕ, ◌+◌, ◌&&◌, nat_lt, not, Bool, false, List, [], ◌∷◌, Result, Ok, Err, if◌then◌else◌}
use Rattle.apt_words.specs.Composition.{flow_of, is_fini}
use Rattle.apt_words.specs.Flow.{Flow, Onward, MacroBegins, MacroEnds, Calls, LoopBegins, LoopEnds, Jumps, Branches, ProgramEnds}
use Rattle.apt_words.specs.ProgramEnds.{is_ended}
use Rattle.apt_words.specs.declared.Case.{Case}
use Rattle.apt_words.specs.declared.Case.TheVariants as cases
use Rattle.apt_words.specs.declared.body.Body.{Body}
use Rattle.apt_words.specs.declared.body.Stmt.{Stmt}
use Rattle.apt_words.specs.declared.deed.Deed.{Deed}
use Rattle.apt_scalar.specs.Meanings.{Names}
use Rattle.apt_deeds.specs.Deeds.{deed_of, names_behind}
use Rattle.apt_unroll.specs.Actions.{most_steps}
use Rattle.apt_unroll.specs.Trace.{Trace, empty_trace, refused, with_step}

abbrev pub IsStraight : Flow → List Stmt → Type 0 → Type 0
IsStraight Onward rest more = more
IsStraight ProgramEnds rest more = rest ≡ []
IsStraight _ rest more = ⊥

-- no macro, call, loop or jump stands up to FINI, which stands last
abbrev pub AreStraight : List Stmt → Type 0
AreStraight [] = ⊥
AreStraight (st ∷ sts) = IsStraight (flow_of st.body) sts (AreStraight sts)

abbrev pub or_refused : ℕ → ℕ → Result Deed Case → (Deed → Trace) → Trace
or_refused line n (Err case) more = refused line n case
or_refused line n (Ok deed) more = with_step line n deed (more deed)

abbrev pub deed_at : ℕ → Bool → Names → Body → Result Deed Case
deed_at n ended names body =
    if nat_lt most_steps n then Err cases.Budget
    else if ended && not (is_fini body) then Err cases.AfterEnd
    else deed_of names [] body

-- the statements from the n-th step on, in order
abbrev pub straight_from : ℕ → Bool → Names → List Stmt → Trace
straight_from n ended names [] = empty_trace
straight_from n ended names (st ∷ sts) =
    or_refused st.line n (deed_at n ended names st.body) (λ deed. straight_from (n + 1) (is_ended ended deed) (names_behind names deed) sts)

abbrev pub in_order : List Stmt → Trace
in_order sts = straight_from 1 false [] sts
