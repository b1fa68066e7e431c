-- What steps ask for of patterns and drill cycles. The four statements ask for nothing else.
use Rattle.std.specs.Prelude.{◌≡◌, ℤ, List, [], ◌∷◌, Option, Some, None}
use Rattle.apt_words.specs.declared.deed.Deed.{Deed}
use Rattle.apt_words.specs.declared.deed.Deed.TheVariants as deeds
use Rattle.apt_words.specs.declared.deed.Step.{Step}
use Rattle.apt_words.specs.declared.drill.Drill.{Drill}
use Rattle.apt_words.specs.declared.drill.Drill.TheVariants as drills

abbrev pub drill_of : Deed → Option Drill
drill_of (deeds.Patern n p q v) = Some (drills.Pattern n p q v)
drill_of (deeds.CycleDrill d c) = Some (drills.Cycle d c)
drill_of deeds.CycleOff = Some drills.Off
drill_of (deeds.GotoPatern n) = Some (drills.Visit n)
drill_of _ = None

-- the numbers in it, in millionths
abbrev pub drill_numbers : Drill → List ℤ
drill_numbers (drills.Pattern n p q v) = v ∷ []
drill_numbers (drills.Cycle d c) = d ∷ c ∷ []
drill_numbers drills.Off = []
drill_numbers (drills.Visit n) = []

-- those of what may be asked for
abbrev pub numbers_drilled : Option Drill → List ℤ
numbers_drilled None = []
numbers_drilled (Some drill) = drill_numbers drill

-- no step asks for anything of patterns and drill cycles
abbrev pub AreUndrilled : List Step → Type 0
AreUndrilled [] = Unit {0}
AreUndrilled (st ∷ sts) = (drill_of st.deed ≡ None) × AreUndrilled sts
