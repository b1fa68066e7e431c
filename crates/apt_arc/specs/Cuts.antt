-- The chords of a piece of an arc: it is halved until none of their points is too near to the centre.
use Rattle.std.specs.Prelude.{◌≡◌, ◌⊎◌, ◌++◌, ◌∷◌, [], List, ℕ, zero, suc, ℤ, ◌-ℤ◌}
use Rattle.apt_plane.specs.declared.figures.Pt.{Pt}
use Rattle.apt_plane.specs.declared.figures.Circ.{Circ}
use Rattle.apt_plane.specs.Vectors.{displacement}
use Rattle.apt_plane.specs.Distances.{IsOver, EveryPoint, about}
use Rattle.apt_canon.specs.Scale.{sum}
use Rattle.apt_canon.specs.Feet.{ray_point}

-- no point of a chord lies further inside of the track than the sag
abbrev pub IsClear : Circ → ℤ → Pt → Pt → Type 0
IsClear t sag a b = EveryPoint a b (IsOver (about t.c) (t.r -ℤ sag))

-- the point of the track in the direction half way between two
abbrev pub middle : Circ → Pt → Pt → Pt
middle t a b = ray_point t (sum (displacement t.c a) (displacement t.c b))

-- the cut of a piece, with at most so many halvings one in the other: its end alone where its chord is clear, else the cuts of its halves
abbrev pub IsCut : ℕ → Circ → ℤ → Pt → Pt → List Pt → Type 0
IsCut zero t sag a b list = IsClear t sag a b × (list ≡ b ∷ [])
IsCut (suc n) t sag a b list =
    (IsClear t sag a b × (list ≡ b ∷ []))
    ⊎ (¬ IsClear t sag a b × (l : List Pt) × (k : List Pt) × (list ≡ l ++ k) × IsCut n t sag a (middle t a b) l × IsCut n t sag (middle t a b) b k)

-- the cuts of the pieces between a point and each of a list, one behind the other
abbrev pub AreCuts : ℕ → Circ → ℤ → Pt → List Pt → List Pt → Type 0
AreCuts n t sag a [] list = list ≡ []
AreCuts n t sag a (q ∷ qs) list = (l : List Pt) × (k : List Pt) × (list ≡ l ++ k) × IsCut n t sag a q l × AreCuts n t sag q qs k
