-- The numbers of steps.
use Rattle.std.specs.Prelude.{ℤ, List, [], ◌∷◌}
use Rattle.apt_words.specs.Asks.{ask_of, numbers_of}
use Rattle.apt_words.specs.Drills.{drill_of, numbers_drilled}
use Rattle.apt_words.specs.declared.deed.Deed.{Deed}
use Rattle.apt_words.specs.declared.deed.Step.{Step}
use Rattle.apt_scalar.specs.Scalars.{IsScalar}

abbrev pub AllScalars : List ℤ → Type 0
AllScalars [] = Unit {0}
AllScalars (v ∷ vs) = IsScalar v × AllScalars vs

-- the numbers of a deed are scalars
abbrev pub HasScalars : Deed → Type 0
HasScalars deed = AllScalars (numbers_of (ask_of deed))

-- the numbers of all steps are scalars
abbrev pub AreScalars : List Step → Type 0
AreScalars [] = Unit {0}
AreScalars (st ∷ sts) = HasScalars st.deed × AreScalars sts

-- the same of the numbers in patterns and drill cycles
abbrev pub HasDrillScalars : Deed → Type 0
HasDrillScalars deed = AllScalars (numbers_drilled (drill_of deed))

abbrev pub AreDrillScalars : List Step → Type 0
AreDrillScalars [] = Unit {0}
AreDrillScalars (st ∷ sts) = HasDrillScalars st.deed × AreDrillScalars sts
