-- Where two lists of acts differ.
use Rattle.std.specs.Prelude.{◌≡◌, ◌≢◌, ℕ, ◌+◌, List, [], ◌∷◌, ◌++◌, length, Option, Some, None}
use Rattle.apt_circular.specs.declared.ArcAct.{ArcAct}

-- two lists of acts do not begin with the same act
abbrev pub HeadsDiffer : List ArcAct → List ArcAct → Type 0
HeadsDiffer [] [] = ⊥
HeadsDiffer [] (y ∷ ys) = Unit {0}
HeadsDiffer (x ∷ xs) [] = Unit {0}
HeadsDiffer (x ∷ xs) (y ∷ ys) = x ≢ y

-- the first place, from 1, at which two lists of acts differ
pub record DifferAt (xs ys : List ArcAct) (at : ℕ) : Type 0 where
  pub same : List ArcAct
  pub left : List ArcAct
  pub right : List ArcAct
  pub first : xs ≡ same ++ left
  pub second : ys ≡ same ++ right
  pub differ : HeadsDiffer left right
  pub number : at ≡ length same + 1

-- the acts so far stand in front of a plan, of which this is left; or they differ from it at a place, however they go on
abbrev pub AreBeside : List ArcAct → List ArcAct → Option ℕ → List ArcAct → Type 0
AreBeside planned left None acts = planned ≡ acts ++ left
AreBeside planned left (Some at) acts = (more : List ArcAct) → DifferAt (acts ++ more) planned at

-- where all acts first differ from a plan; none where they are as planned
abbrev pub IsDifference : List ArcAct → Option ℕ → List ArcAct → Type 0
IsDifference planned None acts = acts ≡ planned
IsDifference planned (Some at) acts = DifferAt acts planned at
