-- The division of an arc.
use Rattle.std.specs.Prelude.{◌*◌, ◌^◌, ◌≤◌, ◌++◌, ◌∷◌, [], ℕ, List, unsigned_abs}
use Rattle.apt_plane.specs.declared.figures.Pt.{Pt}
use Rattle.apt_arc.specs.declared.arc.Arc.{Arc}
use Rattle.apt_arc.specs.Cuts.{AreCuts}
use Rattle.apt_arc.specs.Quarters.{AreQuarters}
use Rattle.apt_arc.specs.Steps.{AreSteps}

-- a list divides an arc: it is the cuts of the pieces between the quarter points on the way, with at most k halvings one in the other wherever the sag times 3 ^ k is at least the radius, and it leads by steps from the start to the end
pub record IsDivision (a : Arc) (list : List Pt) : Type 0 where
  pub points : List Pt
  pub quarters : AreQuarters a.track a.sense a.axis a.start a.end points
  pub cuts : (k : ℕ) → unsigned_abs a.track.r ≤ 3 ^ k * unsigned_abs a.sag → AreCuts k a.track a.sag a.start (points ++ a.end ∷ []) list
  pub steps : AreSteps a.track a.sag a.sense a.start a.start list a.end
