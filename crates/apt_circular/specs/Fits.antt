-- Acts with arcs whose numbers a block has room for, up to the end.
use Rattle.std.specs.Prelude.{List, [], ◌∷◌}
use Rattle.apt_control.specs.declared.Act.TheVariants as acts
use Rattle.apt_post.specs.Blocks.{CanWrite, IsPosition, IsUpTo}
use Rattle.apt_circular.specs.declared.ArcAct.{ArcAct}
use Rattle.apt_circular.specs.declared.ArcAct.TheVariants.{Plain, Arc}

-- a plain act that can be written, or an arc to a position within the limit, at a feed that has a word
abbrev pub Fits : ArcAct → Type 0
Fits (Plain act) = CanWrite act
Fits (Arc turn x y z cx cy feed) = IsPosition x y z × IsUpTo 9999 feed

-- acts that fit, up to the end, which stands last and nowhere else
abbrev pub FitToTheEnd : List ArcAct → Type 0
FitToTheEnd [] = ⊥
FitToTheEnd (Plain acts.End ∷ []) = Unit {0}
FitToTheEnd (Plain acts.End ∷ act ∷ more) = ⊥
FitToTheEnd (act ∷ more) = Fits act × FitToTheEnd more

-- the units first, and then acts that fit, up to the end
abbrev pub IsFitting : List ArcAct → Type 0
IsFitting (Plain (acts.Units u) ∷ more) = FitToTheEnd more
IsFitting _ = ⊥
