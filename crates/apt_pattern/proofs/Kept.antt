-- Plain steps have lines, numbers and texts as the steps have in whose places they come.
use Rattle.std.proofs.Common.{◌≡◌, inl, inr, List, [], ◌∷◌, ◌++◌, Option, refl, sym, subst}
use Rattle.apt_words.specs.Sources.{DeedHasText, IsExecuted, AreExecuted}
use Rattle.apt_words.specs.declared.Refusal.{Refusal}
use Rattle.apt_words.specs.declared.deed.Deed.{Deed}
use Rattle.apt_words.specs.declared.deed.Deed.TheVariants as deeds
use Rattle.apt_words.specs.declared.deed.Step.{Step}
use Rattle.apt_pattern.specs.Expansions.{Drilling, Outcome, Comes, Refused, Stops, outcome, plain_steps, expanded_by, expanded_from}
use Rattle.apt_pattern.proofs.Agreeing.{IsVisit, AreVisits, IsReplaced, replaced}

executed-append : (xs ys : List Step) → AreExecuted xs → AreExecuted ys → AreExecuted (xs ++ ys)
executed-append [] ys are more = more
executed-append (x ∷ xs) ys are more = (are.0, executed-append xs ys are.1 more)

visit_text : (deed : Deed) → IsVisit deed → DeedHasText deed
visit_text deeds.Rapid is = tt
visit_text (deeds.GotoXy x y z) is = tt
visit_text _ is = absurd is

visits_executed : (st : Step) (ds : List Deed) → IsExecuted st → AreVisits ds → AreExecuted (plain_steps st ds)
visits_executed st [] is are = tt
visits_executed st (deed ∷ ds) is are = (record { line = is.line; step = is.step; text = visit_text deed are.0 }, visits_executed st ds is are.1)

steps_executed : (d now : Drilling) (st : Step) (ds : List Deed) → IsExecuted st → IsReplaced d st.deed ds now → AreExecuted (plain_steps st ds)
steps_executed d now st ds is by =
    elim by [
      | inl one ↦ subst (λ xs. AreExecuted (plain_steps st xs)) (sym one.0) (is, tt)
      | inr visits ↦ visits_executed st ds is visits.0
    ]

pub are_executed : (d : Drilling) (sts : List Step) (fault : Option Refusal) → AreExecuted sts → AreExecuted (expanded_from d sts fault).steps
are_executed d [] fault are = tt
are_executed d (st ∷ sts) fault are = by (outcome d st.deed) refl (λ now. are_executed now sts fault are.1)
  where
    by : (o : Outcome) → outcome d st.deed ≡ o → ((now : Drilling) → AreExecuted (expanded_from now sts fault).steps) → AreExecuted (expanded_by st o (λ now. expanded_from now sts fault)).steps
    by (Comes ds now) is later =
        executed-append (plain_steps st ds) (expanded_from now sts fault).steps (steps_executed d now st ds are.0 (replaced d st.deed ds now is)) (later now)
    by (Refused case) is later = tt
    by Stops is later = (are.0, tt)
