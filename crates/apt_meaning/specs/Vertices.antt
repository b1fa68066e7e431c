-- The vertices of contours, a list for each leg.
use Rattle.std.specs.Prelude.{ℕ, ◌+◌, ◌≤◌, List, [], ◌∷◌, length}
use Rattle.apt_plane.specs.declared.figures.Pt.{Pt}
use Rattle.apt_certify.specs.Jobs.{ArePoints}
use Rattle.apt_meaning.specs.declared.effect.Effect.{Effect}
use Rattle.apt_meaning.specs.declared.effect.Effect.TheVariants as effects

-- a leg has at least one vertex
abbrev pub AreCuts : List (List Pt) → Type 0
AreCuts [] = Unit {0}
AreCuts (vertices ∷ cuts) = ((1 ≤ length vertices) × ArePoints vertices) × AreCuts cuts

-- the number of all vertices
abbrev pub cut_points : List (List Pt) → ℕ
cut_points [] = 0
cut_points (vertices ∷ cuts) = length vertices + cut_points cuts

abbrev pub HasIn : Effect → List (List Pt) → Type 0
HasIn (effects.Defines n f) cuts = Unit {0}
HasIn (effects.Sets change) cuts = Unit {0}
HasIn (effects.Moves reach to) cuts = Unit {0}
HasIn (effects.Cuts m legs) cuts = AreCuts cuts
