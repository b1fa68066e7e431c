-- Where the steps of programs end.
use Rattle.std.specs.Prelude.{◌≡◌, ◌||◌, Bool, false, List, [], ◌∷◌}
use Rattle.apt_words.specs.Asks.{ask_of, asks_end}
use Rattle.apt_words.specs.declared.deed.Deed.{Deed}
use Rattle.apt_words.specs.declared.deed.Deed.TheVariants as deeds
use Rattle.apt_words.specs.declared.deed.Step.{Step}

-- the program has ended behind a step
abbrev pub is_ended : Bool → Deed → Bool
is_ended before deed = before || asks_end (ask_of deed)

-- steps up to FINI, which stands last and nowhere else; behind END nothing but FINI stands
abbrev pub StepsEnd : Bool → List Step → Type 0
StepsEnd ended [] = ⊥
StepsEnd ended (step ∷ []) = step.deed ≡ deeds.Fini
StepsEnd ended (step ∷ next ∷ more) = (ended ≡ false) × ¬ (step.deed ≡ deeds.Fini) × StepsEnd (is_ended ended step.deed) (next ∷ more)
