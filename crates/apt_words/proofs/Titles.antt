-- PARTNO stands first, and nowhere else: of statements, and of steps.
use Rattle.std.proofs.Common.{◌≡◌, ℕ, ◌+◌, ◌≤◌, List, [], ◌∷◌, length, refl, arith}
use Rattle.apt_words.specs.Asks.{Ask, Titles, Says, Sets, Defines, Goes, Cuts, Nothing, ask_of}
use Rattle.apt_words.specs.declared.Turn.TheVariants as turns
use Rattle.apt_words.specs.declared.body.Body.{Body}
use Rattle.apt_words.specs.declared.body.Body.TheVariants as bodies
use Rattle.apt_words.specs.declared.body.Stmt.{Stmt}
use Rattle.apt_words.specs.declared.deed.Deed.{Deed}
use Rattle.apt_words.specs.declared.deed.Deed.TheVariants as deeds
use Rattle.apt_words.specs.declared.deed.Step.{Step}
use Rattle.apt_words.specs.Sources.{AskHasText, AreExecuted}

abbrev pub IsTitled : Body → Type 0
IsTitled (bodies.Partno text) = Unit {0}
IsTitled _ = ⊥

abbrev pub IsUntitled : Body → Type 0
IsUntitled (bodies.Partno text) = ⊥
IsUntitled _ = Unit {0}

abbrev pub AreUntitled : List Stmt → Type 0
AreUntitled [] = Unit {0}
AreUntitled (st ∷ sts) = IsUntitled st.body × AreUntitled sts

abbrev pub HasTitle : List Stmt → Type 0
HasTitle [] = Unit {0}
HasTitle (st ∷ sts) = IsTitled st.body × AreUntitled sts

abbrev pub DeedIsUntitled : Deed → Type 0
DeedIsUntitled (deeds.Partno text) = ⊥
DeedIsUntitled _ = Unit {0}

abbrev pub StepsAreUntitled : List Step → Type 0
StepsAreUntitled [] = Unit {0}
StepsAreUntitled (step ∷ steps) = DeedIsUntitled step.deed × StepsAreUntitled steps

-- the first step may have the title
abbrev pub StepsHaveTitle : List Step → Type 0
StepsHaveTitle [] = Unit {0}
StepsHaveTitle (step ∷ steps) = StepsAreUntitled steps

-- ---- how long titles are

abbrev pub asked_title : Ask → ℕ
asked_title (Titles text) = length text
asked_title (Says saying) = 0
asked_title (Sets side) = 0
asked_title (Defines name form) = 0
asked_title (Goes route) = 0
asked_title (Cuts contour n) = 0
asked_title Nothing = 0

abbrev pub title_length : Deed → ℕ
title_length deed = asked_title (ask_of deed)

abbrev pub title_lengths : List Step → ℕ
title_lengths [] = 0
title_lengths (step ∷ steps) = title_length step.deed + title_lengths steps

none_untitled : (deed : Deed) → DeedIsUntitled deed → title_length deed ≡ 0
none_untitled (deeds.Partno text) h = absurd h
none_untitled _ h = refl

title_short : (ask : Ask) → AskHasText ask → asked_title ask ≤ 256
title_short (Titles text) h = h.1
title_short _ h = omega arith

none_in : (steps : List Step) → StepsAreUntitled steps → title_lengths steps ≡ 0
none_in [] are = refl
none_in (step ∷ steps) are = omega (arith, none_untitled step.deed are.0, none_in steps are.1)

-- together they are not longer than one
pub titles_short : (steps : List Step) → StepsHaveTitle steps → AreExecuted steps → title_lengths steps ≤ 256
titles_short [] titled executed = omega arith
titles_short (step ∷ steps) titled executed = omega (arith, title_short (ask_of step.deed) executed.0.text, none_in steps titled)
