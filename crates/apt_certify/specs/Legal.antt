-- Legal legs of contour motions.
use Rattle.std.specs.Prelude.{List, [], ◌∷◌}
use Rattle.apt_plane.specs.declared.figures.Pt.{Pt}
use Rattle.apt_plane.specs.Vectors.{Scaled, scaled}
use Rattle.apt_plane.specs.Distances.{InBand, EveryPoint}
use Rattle.apt_certify.specs.declared.leg.Leg.{Leg}
use Rattle.apt_certify.specs.Legs.{IsStep, IsWithinSlack, IsOnAxisOrNone}

abbrev pub IsSome : List Pt → Type 0
IsSome [] = ⊥
IsSome (p ∷ ps) = Unit {0}

-- where a path from a point ends
abbrev pub last_of : Pt → List Pt → Pt
last_of a [] = a
last_of a (b ∷ more) = last_of b more

-- each vertex is a step onwards from the one before
abbrev pub AreInOrder : Leg → Pt → Pt → List Pt → Type 0
AreInOrder leg start a [] = Unit {0}
AreInOrder leg start a (b ∷ more) = IsStep leg.drive leg.sense start a b × AreInOrder leg start b more

-- a fact of every point of every segment of a path
abbrev pub EveryPointFrom : Pt → List Pt → (Scaled → Type 0) → Type 0
EveryPointFrom a [] P = Unit {0}
EveryPointFrom a (b ∷ more) P = EveryPoint a b P × EveryPointFrom b more P

-- a leg from a start through its vertices is legal: it moves, and in order; every point of its path is in the band of its drive surface, and none past
-- the edge of its stop by more than the slack; and it ends in the band of its stop, and on its axis where it touches
pub record IsLegal (leg : Leg) (start : Pt) (vertices : List Pt) : Type 0 where
  pub moves : IsSome vertices
  pub order : AreInOrder leg start start vertices
  pub band : EveryPointFrom start vertices (InBand leg.drive leg.band)
  pub edge : EveryPointFrom start vertices (IsWithinSlack leg leg.beyond)
  pub stop : InBand leg.check leg.stop_band (scaled (last_of start vertices))
  pub axis : IsOnAxisOrNone leg.axis (last_of start vertices)
