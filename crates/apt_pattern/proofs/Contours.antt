-- Plain steps have no more contours than the steps in whose places they come: these places take RAPIDs and GOTOs.
use Rattle.std.proofs.Common.{◌≡◌, inl, inr, ◌+◌, ◌≤◌, List, [], ◌∷◌, ◌++◌, Option, refl, ap, arith}
use Rattle.apt_words.specs.Asks.{ask_of}
use Rattle.apt_words.specs.declared.Refusal.{Refusal}
use Rattle.apt_words.specs.declared.deed.Deed.{Deed}
use Rattle.apt_words.specs.declared.deed.Deed.TheVariants as deeds
use Rattle.apt_words.specs.declared.deed.Step.{Step}
use Rattle.apt_words.specs.Contours.{contour_by, contours}
use Rattle.apt_pattern.specs.Expansions.{Drilling, Outcome, Comes, Refused, Stops, outcome, plain_steps, expanded_by, expanded_from}
use Rattle.apt_pattern.proofs.Agreeing.{IsVisit, AreVisits, IsReplaced, replaced}

visit_none : (deed : Deed) → IsVisit deed → contour_by (ask_of deed) ≡ 0
visit_none deeds.Rapid is = refl
visit_none (deeds.GotoXy x y z) is = refl
visit_none _ is = absurd is

visits_none : (st : Step) (ds : List Deed) (rest : List Step) → AreVisits ds → contours (plain_steps st ds ++ rest) ≡ contours rest
visits_none st [] rest are = refl
visits_none st (deed ∷ ds) rest are = omega (arith, visit_none deed are.0, visits_none st ds rest are.1)

step_contours : (d now : Drilling) (st : Step) (ds : List Deed) (rest : List Step) → IsReplaced d st.deed ds now → contours (plain_steps st ds ++ rest) ≤ contours (st ∷ rest)
step_contours d now st ds rest is =
    elim is [
      | inl one ↦ omega (arith, ap (λ xs. contours (plain_steps st xs ++ rest)) one.0)
      | inr visits ↦ omega (arith, visits_none st ds rest visits.0)
    ]

pub contours_few : (d : Drilling) (sts : List Step) (fault : Option Refusal) → contours (expanded_from d sts fault).steps ≤ contours sts
contours_few d [] fault = omega arith
contours_few d (st ∷ sts) fault = by (outcome d st.deed) refl (λ now. contours_few now sts fault)
  where
    by : (o : Outcome) → outcome d st.deed ≡ o → ((now : Drilling) → contours (expanded_from now sts fault).steps ≤ contours sts)
        → contours (expanded_by st o (λ now. expanded_from now sts fault)).steps ≤ contours (st ∷ sts)
    by (Comes ds now) is later = omega (arith, step_contours d now st ds (expanded_from now sts fault).steps (replaced d st.deed ds now is), later now)
    by (Refused case) is later = omega arith
    by Stops is later = omega arith
