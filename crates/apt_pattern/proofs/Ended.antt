-- Plain steps end where the steps of a trace end: in FINI, behind END nothing else.
use Rattle.std.proofs.Common.{None, ◌≡◌, ◌∙◌, inl, inr, Bool, false, List, [], ◌∷◌, ◌++◌, refl, sym, ap, subst}
use Rattle.apt_words.specs.ProgramEnds.{is_ended, StepsEnd}
use Rattle.apt_words.specs.declared.deed.Deed.{Deed}
use Rattle.apt_words.specs.declared.deed.Deed.TheVariants as deeds
use Rattle.apt_words.specs.declared.deed.Step.{Step}
use Rattle.apt_meaning.specs.Compiled.{first_refused}
use Rattle.apt_meaning.specs.Situations.{first_situation}
use Rattle.apt_unroll.specs.Trace.{Trace}
use Rattle.apt_pattern.specs.Expansions.{Drilling, nothing_drilled, Comes, outcome, in_place, plain_steps, expansion, Expands}
use Rattle.apt_pattern.proofs.Agreeing.{IsVisit, AreVisits, IsReplaced, replaced}
use Rattle.apt_pattern.proofs.Passing.{trace_replaced}

one_more : (ended : Bool) (st : Step) (rest : List Step) → ended ≡ false → ¬ (st.deed ≡ deeds.Fini) → StepsEnd (is_ended ended st.deed) rest → StepsEnd ended (st ∷ rest)
one_more ended st [] goes_on other ends = absurd ends
one_more ended st (next ∷ more) goes_on other ends = (goes_on, other, ends)

visit_open : (deed : Deed) → IsVisit deed → is_ended false deed ≡ false
visit_open deeds.Rapid is = refl
visit_open (deeds.GotoXy x y z) is = refl
visit_open _ is = absurd is

visit_other : (deed : Deed) → IsVisit deed → ¬ (deed ≡ deeds.Fini)
visit_other deed is same = subst IsVisit same is

visits_more : (st : Step) (ds : List Deed) (rest : List Step) → AreVisits ds → StepsEnd false rest → StepsEnd false (plain_steps st ds ++ rest)
visits_more st [] rest are ends = ends
visits_more st (deed ∷ ds) rest are ends =
    one_more false (in_place st deed) (plain_steps st ds ++ rest) refl (visit_other deed are.0)
    (subst (λ b. StepsEnd b (plain_steps st ds ++ rest)) (sym (visit_open deed are.0)) (visits_more st ds rest are.1 ends))

-- the last step stays
last_stays : (d now : Drilling) (ds : List Deed) → outcome d deeds.Fini ≡ Comes ds now → ds ≡ deeds.Fini ∷ []
last_stays d now ds e = cc

-- visits come only while the program has not ended
step_ends : (d now : Drilling) (ended : Bool) (st : Step) (ds : List Deed) (rest : List Step) → IsReplaced d st.deed ds now → ended ≡ false → ¬ (st.deed ≡ deeds.Fini)
    → StepsEnd (is_ended ended st.deed) rest → StepsEnd ended (plain_steps st ds ++ rest)
step_ends d now ended st ds rest is goes_on other ends =
    elim is [
      | inl one ↦ subst (λ xs. StepsEnd ended (plain_steps st xs ++ rest)) (sym one.0) (one_more ended st rest goes_on other ends)
      | inr visits ↦
          subst (λ t. StepsEnd t (plain_steps st ds ++ rest)) (sym goes_on)
          (visits_more st ds rest visits.0 (subst (λ b. StepsEnd b rest) (ap (λ t. is_ended t st.deed) goes_on ∙ visits.2) ends))
    ]

pub plain_ends : (d : Drilling) (ended : Bool) (sts plain : List Step) (behind : Drilling) → StepsEnd ended sts → Expands d sts plain behind → StepsEnd ended plain
plain_ends d ended [] plain behind ends is = absurd ends
plain_ends d ended (st ∷ []) plain behind ends (ds, now, rest, comes, front, more) =
    let last = last_stays d now ds (ap (outcome d) (sym ends) ∙ comes) in
    rw (front, more.0, last) refl
plain_ends d ended (st ∷ next ∷ sts) plain behind ends (ds, now, rest, comes, front, more) =
    rw front (step_ends d now ended st ds rest (replaced d st.deed ds now comes) ends.0 ends.1 (plain_ends now (is_ended ended st.deed) (next ∷ sts) rest behind ends.2 more))

-- of a trace, where no plain step is refused
pub trace_ends : (trace : Trace) → (expansion trace.steps trace.fault).fault ≡ None → first_refused first_situation (expansion trace.steps trace.fault).steps ≡ None
    → StepsEnd false trace.steps → StepsEnd false (expansion trace.steps trace.fault).steps
trace_ends trace none fine ends =
    let all = trace_replaced trace none fine in
    plain_ends nothing_drilled false trace.steps (expansion trace.steps trace.fault).steps all.behind ends all.expands
