-- Where no plain step is refused, and no fault is told, all steps are replaced: a definition that stops them is refused by its own case.
use Rattle.std.proofs.Common.{◌≡◌, ◌∙◌, inl, inr, List, [], ◌∷◌, ◌++◌, Option, Some, None, Result, Ok, Err, refl, sym, ap, subst}
use Rattle.apt_words.specs.Asks.{ask_of}
use Rattle.apt_words.specs.Rows.{first_of}
use Rattle.apt_words.specs.declared.Case.{Case}
use Rattle.apt_words.specs.declared.Refusal.{Refusal}
use Rattle.apt_words.specs.declared.ask.Form.{Form}
use Rattle.apt_words.specs.declared.deed.Deed.{Deed}
use Rattle.apt_words.specs.declared.deed.Step.{Step}
use Rattle.apt_defs.specs.declared.figure.Figure.{Figure}
use Rattle.apt_defs.specs.Definitions.{figure_of}
use Rattle.apt_meaning.specs.declared.effect.Effect.{Effect}
use Rattle.apt_meaning.specs.declared.situation.Situation.{Situation}
use Rattle.apt_meaning.specs.Situations.{first_situation}
use Rattle.apt_meaning.specs.Effects.{effect_of}
use Rattle.apt_meaning.specs.Refusals.{cases_by, refused, refused_form, refusal_of}
use Rattle.apt_meaning.specs.Records.{after}
use Rattle.apt_meaning.specs.Compiled.{asked, ends_of, or_first, first_refused}
use Rattle.apt_unroll.specs.Trace.{Trace, with_fault}
use Rattle.apt_pattern.specs.Expansions.{Drilling, nothing_drilled, Outcome, Comes, Refused, Stops, outcome, in_place, plain_steps, expanded_by, expanded_from, expansion, Expands, AreReplaced}
use Rattle.apt_pattern.proofs.Agreeing.{Agrees, Changes, IsSame, AreVisits, IsReplaced, IsBad, replaced, stopped, stays_agrees, visit_agrees, same_agrees}

-- ---- one plain step that passes

pub record IsPast (here : Situation) (st : Step) (sts : List Step) : Type 0 where
  pub e : Effect
  pub asks : effect_of here st.deed ≡ Some e
  pub fine : refusal_of here st.deed ≡ None
  pub rest : first_refused (after here e (ends_of e)) sts ≡ None

past_by : (here : Situation) (st : Step) (sts : List Step) (c : Option Case) (o : Option Effect) → refusal_of here st.deed ≡ c → effect_of here st.deed ≡ o
    → or_first st (asked c o) (λ e. first_refused (after here e (ends_of e)) sts) ≡ None → IsPast here st sts
past_by here st sts (Some case) o p q h = absurd cc
past_by here st sts None None p q h = absurd cc
past_by here st sts None (Some e) p q h = record { e = e; asks = q; fine = p; rest = h }

pub past : (here : Situation) (st : Step) (sts : List Step) → first_refused here (st ∷ sts) ≡ None → IsPast here st sts
past here st sts h = past_by here st sts (refusal_of here st.deed) (effect_of here st.deed) refl refl h

-- ---- the plain steps of one

pub record ArePast (d : Drilling) (rest : List Step) : Type 0 where
  pub there : Situation
  pub agrees : Agrees d there
  pub fine : first_refused there rest ≡ None

visits_past : (d : Drilling) (here : Situation) (st : Step) (ds : List Deed) (rest : List Step) → Agrees d here → AreVisits ds → first_refused here (plain_steps st ds ++ rest) ≡ None → ArePast d rest
visits_past d here st [] rest agrees are h = record { there = here; agrees = agrees; fine = h }
visits_past d here st (deed ∷ ds) rest agrees are h =
    let p = past here (in_place st deed) (plain_steps st ds ++ rest) h in
    visits_past d (after here p.e (ends_of p.e)) st ds rest (visit_agrees d here deed p.e (ends_of p.e) agrees are.0 p.asks) are.1 p.rest

one_past : (d now : Drilling) (here : Situation) (st : Step) (deed : Deed) (rest : List Step) → Agrees d here → Changes d (ask_of deed) now
    → first_refused here (plain_steps st (deed ∷ []) ++ rest) ≡ None → ArePast now rest
one_past d now here st deed rest agrees is h =
    let p = past here (in_place st deed) rest h in
    record { there = after here p.e (ends_of p.e); agrees = stays_agrees d now here deed p.e (ends_of p.e) agrees is p.asks; fine = p.rest }

again : (d now : Drilling) (rest : List Step) → IsSame d now → ArePast d rest → ArePast now rest
again d now rest is p = record { there = p.there; agrees = same_agrees d now p.there p.agrees is; fine = p.fine }

pub steps_past : (d now : Drilling) (here : Situation) (st : Step) (ds : List Deed) (rest : List Step) → Agrees d here → IsReplaced d st.deed ds now
    → first_refused here (plain_steps st ds ++ rest) ≡ None → ArePast now rest
steps_past d now here st ds rest agrees is h =
    elim is [
      | inl one ↦ one_past d now here st st.deed rest agrees one.1 (subst (λ xs. first_refused here (plain_steps st xs ++ rest) ≡ None) one.0 h)
      | inr visits ↦ again d now rest visits.1 (visits_past d here st ds rest agrees visits.0 h)
    ]

-- ---- a definition that stops

refused_case : (r : Result Figure Case) (case : Case) → r ≡ Err case → first_of (refused r) ≡ Some case
refused_case (Ok f) case e = absurd cc
refused_case (Err c) case e = cc

form_case : (here : Situation) (form : Form) (case : Case) → figure_of here.settings.units here.table form ≡ Err case → first_of (refused_form here form) ≡ Some case
unfolding refused_form
form_case here form case e = refused_case (figure_of here.settings.units here.table form) case e

bad_case : (d : Drilling) (here : Situation) (deed : Deed) (bad : IsBad d deed) → Agrees d here → refusal_of here deed ≡ Some bad.case
bad_case d here deed bad agrees =
    ap (λ a. first_of (cases_by here a)) bad.asks ∙ form_case here bad.form bad.case (rw (agrees.units, agrees.table) bad.refused)

pub never_past : (d : Drilling) (here : Situation) (st : Step) → Agrees d here → outcome d st.deed ≡ Stops → first_refused here (st ∷ []) ≡ None → ⊥
never_past d here st agrees stops h =
    let bad = stopped d st.deed stops in
    let p = past here st [] h in
    absurd (let f : Some bad.case ≡ None = sym (bad_case d here st.deed bad agrees) ∙ p.fine in (let g : ⊥ = cc in g))

-- ---- all steps

pub all_replaced : (d : Drilling) (here : Situation) (sts : List Step) (fault : Option Refusal) → Agrees d here → first_refused here (expanded_from d sts fault).steps ≡ None
    → (expanded_from d sts fault).fault ≡ None → AreReplaced d (with_fault sts fault) (expanded_from d sts fault).steps
all_replaced d here [] fault agrees fine none = record { behind = d; expands = (refl, refl); none = none }
all_replaced d here (st ∷ sts) fault agrees fine none = by (outcome d st.deed) refl (λ now there. all_replaced now there sts fault) fine none
  where
    by : (o : Outcome) → outcome d st.deed ≡ o
        → ((now : Drilling) (there : Situation) → Agrees now there → first_refused there (expanded_from now sts fault).steps ≡ None → (expanded_from now sts fault).fault ≡ None
        → AreReplaced now (with_fault sts fault) (expanded_from now sts fault).steps)
        → first_refused here (expanded_by st o (λ now. expanded_from now sts fault)).steps ≡ None
        → (expanded_by st o (λ now. expanded_from now sts fault)).fault ≡ None → AreReplaced d (with_fault (st ∷ sts) fault) (expanded_by st o (λ now. expanded_from now sts fault)).steps
    by (Comes ds now) is later fine none =
        let rest = (expanded_from now sts fault).steps in
        let p = steps_past d now here st ds rest agrees (replaced d st.deed ds now is) fine in
        let w = later now p.there p.agrees p.fine none in
        record { behind = w.behind; expands = (ds, now, rest, is, refl, w.expands); none = w.none }
    by (Refused case) is later fine none = absurd (let f : ⊥ = cc in f)
    by Stops is later fine none = absurd (never_past d here st agrees is fine)

pub agrees_first : Agrees nothing_drilled first_situation
agrees_first = record { units = refl; table = refl }

-- from the first step on
pub trace_replaced : (trace : Trace) → (expansion trace.steps trace.fault).fault ≡ None → first_refused first_situation (expansion trace.steps trace.fault).steps ≡ None
    → AreReplaced nothing_drilled trace (expansion trace.steps trace.fault).steps
trace_replaced trace none fine = all_replaced nothing_drilled first_situation trace.steps trace.fault agrees_first fine none

-- and where all are replaced, these are the plain steps
pub replaced_is : (d : Drilling) (sts : List Step) (plain : List Step) (behind : Drilling) (fault : Option Refusal) → Expands d sts plain behind
    → expanded_from d sts fault ≡ record { steps = plain; fault = fault }
replaced_is d [] plain behind fault is = ap (λ xs. record { steps = xs; fault = fault }) (sym is.0)
replaced_is d (st ∷ sts) plain behind fault (ds, now, rest, comes, front, more) =
    rw (comes, front, replaced_is now sts rest behind fault more) refl
