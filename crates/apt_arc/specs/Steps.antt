-- The way along the vertices of an arc.
use Rattle.std.specs.Prelude.{◌≡◌, ℤ, pos, ◌+ℤ◌, ◌-ℤ◌, ◌*ℤ◌, ◌<ℤ◌, List, [], ◌∷◌}
use Rattle.apt_plane.specs.declared.figures.Pt.{Pt}
use Rattle.apt_plane.specs.declared.figures.Circ.{Circ}
use Rattle.apt_plane.specs.declared.figures.Band.{Band}
use Rattle.apt_plane.specs.Vectors.{displacement, cross, dot}
use Rattle.apt_plane.specs.Distances.{InBand, EveryPoint, about}
use Rattle.apt_plane.specs.Order.{ComesBefore}

-- one step round a circle: in its sense by less than a quarter, and onwards from the start
abbrev pub IsStep : Circ → ℤ → Pt → Pt → Pt → Type 0
IsStep t sense start a b =
    (pos 0 <ℤ (sense *ℤ cross (displacement t.c a) (displacement t.c b)))
    × (pos 0 <ℤ dot (displacement t.c a) (displacement t.c b))
    × ComesBefore (displacement t.c start) sense (displacement t.c a) (displacement t.c b)

-- where chords may lie: at most the sag inside of the track, and at most three units outside
abbrev pub chord_band : Circ → ℤ → Band
chord_band t sag = record { lo = t.r -ℤ sag; hi = t.r +ℤ pos 3 }

-- every point of a chord does
abbrev pub IsInside : Circ → ℤ → Pt → Pt → Type 0
IsInside t sag a b = EveryPoint a b (InBand (about t.c) (chord_band t sag))

-- a list leads from a to b by steps inside of the band
abbrev pub AreSteps : Circ → ℤ → ℤ → Pt → Pt → List Pt → Pt → Type 0
AreSteps t sag sense start a [] b = a ≡ b
AreSteps t sag sense start a (x ∷ xs) b = IsStep t sense start a x × IsInside t sag a x × AreSteps t sag sense start x xs b
