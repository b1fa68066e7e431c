-- Plain steps have no more of titles than the steps in whose places they come: these places take RAPIDs and GOTOs.
use Rattle.std.proofs.Common.{◌≡◌, inl, inr, ◌+◌, ◌≤◌, List, [], ◌∷◌, ◌++◌, Option, refl, ap, arith}
use Rattle.apt_words.specs.declared.Refusal.{Refusal}
use Rattle.apt_words.specs.declared.deed.Deed.{Deed}
use Rattle.apt_words.specs.declared.deed.Deed.TheVariants as deeds
use Rattle.apt_words.specs.declared.deed.Step.{Step}
use Rattle.apt_words.proofs.Titles.{title_length, title_lengths}
use Rattle.apt_pattern.specs.Expansions.{Drilling, Outcome, Comes, Refused, Stops, outcome, plain_steps, expanded_by, expanded_from}
use Rattle.apt_pattern.proofs.Agreeing.{IsVisit, AreVisits, IsReplaced, replaced}

visit_untitled : (deed : Deed) → IsVisit deed → title_length deed ≡ 0
visit_untitled deeds.Rapid is = refl
visit_untitled (deeds.GotoXy x y z) is = refl
visit_untitled _ is = absurd is

visits_untitled : (st : Step) (ds : List Deed) (rest : List Step) → AreVisits ds → title_lengths (plain_steps st ds ++ rest) ≡ title_lengths rest
visits_untitled st [] rest are = refl
visits_untitled st (deed ∷ ds) rest are = omega (arith, visit_untitled deed are.0, visits_untitled st ds rest are.1)

step_titles : (d now : Drilling) (st : Step) (ds : List Deed) (rest : List Step) → IsReplaced d st.deed ds now → title_lengths (plain_steps st ds ++ rest) ≤ title_lengths (st ∷ rest)
step_titles d now st ds rest is =
    elim is [
      | inl one ↦ omega (arith, ap (λ xs. title_lengths (plain_steps st xs ++ rest)) one.0)
      | inr visits ↦ omega (arith, visits_untitled st ds rest visits.0)
    ]

pub plain_titles : (d : Drilling) (sts : List Step) (fault : Option Refusal) → title_lengths (expanded_from d sts fault).steps ≤ title_lengths sts
plain_titles d [] fault = omega arith
plain_titles d (st ∷ sts) fault = by (outcome d st.deed) refl (λ now. plain_titles now sts fault)
  where
    by : (o : Outcome) → outcome d st.deed ≡ o → ((now : Drilling) → title_lengths (expanded_from now sts fault).steps ≤ title_lengths sts)
        → title_lengths (expanded_by st o (λ now. expanded_from now sts fault)).steps ≤ title_lengths (st ∷ sts)
    by (Comes ds now) is later = omega (arith, step_titles d now st ds (expanded_from now sts fault).steps (replaced d st.deed ds now is), later now)
    by (Refused case) is later = omega arith
    by Stops is later = omega arith
