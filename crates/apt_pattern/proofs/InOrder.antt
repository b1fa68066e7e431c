-- The first step that is refused, in the order of the manual.
use Rattle.std.proofs.Common.{◌≡◌, ◌∙◌, List, [], ◌∷◌, ◌++◌, Option, Some, None, Result, Ok, Err, refl, ap}
use Rattle.std.specs.Option.{option_or}
use Rattle.apt_words.specs.declared.Case.{Case}
use Rattle.apt_words.specs.declared.Refusal.{Refusal}
use Rattle.apt_words.specs.declared.deed.Step.{Step}
use Rattle.apt_meaning.specs.declared.effect.Effect.{Effect}
use Rattle.apt_meaning.specs.declared.situation.Situation.{Situation}
use Rattle.apt_meaning.specs.Effects.{effect_of}
use Rattle.apt_meaning.specs.Refusals.{refusal_of}
use Rattle.apt_meaning.specs.Records.{after}
use Rattle.apt_meaning.specs.Compiled.{asked, ends_of, or_first, first_refused, refused_at}
use Rattle.apt_pattern.specs.Expansions.{Drilling, Outcome, Comes, Refused, Stops, outcome, plain_steps, expanded_by, expanded_from}

-- what holds behind plain steps, up to the first that is refused
abbrev pub behind_or : Situation → Result Effect Case → (Effect → Situation) → Situation
behind_or here (Err case) more = here
behind_or here (Ok e) more = more e

abbrev pub behind_steps : Situation → List Step → Situation
behind_steps here [] = here
behind_steps here (st ∷ sts) = behind_or here (asked (refusal_of here st.deed) (effect_of here st.deed)) (λ e. behind_steps (after here e (ends_of e)) sts)

-- a step is refused by the cases of patterns and cycles, and else by those of its plain steps, which are tried in order, each where the one before leaves off; behind the
-- last step stands the fault of unrolling
abbrev pub refused_by : Situation → Step → Outcome → (Drilling → Situation → Option Refusal) → Option Refusal
refused_by here st (Refused case) more = Some (refused_at st case)
refused_by here st Stops more = first_refused here (st ∷ [])
refused_by here st (Comes ds now) more = option_or (first_refused here (plain_steps st ds)) (more now (behind_steps here (plain_steps st ds)))

abbrev pub refused_in_order : Drilling → Situation → List Step → Option Refusal → Option Refusal
refused_in_order d here [] fault = fault
refused_in_order d here (st ∷ sts) fault = refused_by here st (outcome d st.deed) (λ now there. refused_in_order now there sts fault)

-- ---- the first refused of steps and others

or_again : (a b c : Option Refusal) → option_or (option_or a b) c ≡ option_or a (option_or b c)
or_again None b c = refl
or_again (Some r) b c = refl

or_none : (a : Option Refusal) → option_or a None ≡ a
or_none None = refl
or_none (Some r) = refl

first_append : (here : Situation) (xs ys : List Step) → first_refused here (xs ++ ys) ≡ option_or (first_refused here xs) (first_refused (behind_steps here xs) ys)
first_append here [] ys = refl
first_append here (x ∷ xs) ys = by (asked (refusal_of here x.deed) (effect_of here x.deed)) (λ there. first_append there xs ys)
  where
    by : (r : Result Effect Case) → ((there : Situation) → first_refused there (xs ++ ys) ≡ option_or (first_refused there xs) (first_refused (behind_steps there xs) ys))
        → or_first x r (λ e. first_refused (after here e (ends_of e)) (xs ++ ys))
        ≡ option_or (or_first x r (λ e. first_refused (after here e (ends_of e)) xs)) (first_refused (behind_or here r (λ e. behind_steps (after here e (ends_of e)) xs)) ys)
    by (Err case) later = refl
    by (Ok e) later = later (after here e (ends_of e))

pub in_order : (d : Drilling) (here : Situation) (sts : List Step) (fault : Option Refusal)
    → option_or (first_refused here (expanded_from d sts fault).steps) (expanded_from d sts fault).fault ≡ refused_in_order d here sts fault
in_order d here [] fault = refl
in_order d here (st ∷ sts) fault = by (outcome d st.deed) (λ now there. in_order now there sts fault)
  where
    by : (o : Outcome)
        → ((now : Drilling) (there : Situation) → option_or (first_refused there (expanded_from now sts fault).steps) (expanded_from now sts fault).fault ≡ refused_in_order now there sts fault)
        → option_or (first_refused here (expanded_by st o (λ now. expanded_from now sts fault)).steps) (expanded_by st o (λ now. expanded_from now sts fault)).fault
        ≡ refused_by here st o (λ now there. refused_in_order now there sts fault)
    by (Refused case) later = refl
    by Stops later = or_none (first_refused here (st ∷ []))
    by (Comes ds now) later =
        let front = plain_steps st ds in
        let more = expanded_from now sts fault in
        ap (λ o. option_or o more.fault) (first_append here front more.steps)
        ∙ or_again (first_refused here front) (first_refused (behind_steps here front) more.steps) more.fault
        ∙ ap (option_or (first_refused here front)) (later now (behind_steps here front))
