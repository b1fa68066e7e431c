-- Arcs that end at a stop.
use Rattle.std.specs.Prelude.{◌≢◌, ℕ, ◌⊎◌, ◌*◌, ◌<◌, ℤ, pos, ◌+ℤ◌, ◌-ℤ◌, ◌*ℤ◌, ◌<ℤ◌, List, [], ◌∷◌}
use Rattle.apt_num.specs.Sign.{square}
use Rattle.apt_plane.specs.declared.figures.Pt.{Pt}
use Rattle.apt_plane.specs.declared.figures.Dir.{Dir}
use Rattle.apt_plane.specs.declared.figures.Line.{Line}
use Rattle.apt_plane.specs.Vectors.{Scaled, scaled, displacement, cross, dot, length_squared}
use Rattle.apt_plane.specs.Distances.{IsAbove, IsBelow, IsOver, IsUnder, EveryPoint, about}
use Rattle.apt_plane.specs.Order.{turn_class}
use Rattle.apt_plane.specs.Ranges.{IsDir, IsSense}
use Rattle.apt_canon.specs.Scale.{IsNearCircle}
use Rattle.apt_arc.specs.declared.arc.Arc.{Arc}
use Rattle.apt_arc.specs.Ranges.{IsTrack, IsSag}

-- a fact of every point of every chord through a list, from a
abbrev pub EveryChord : Pt → List Pt → (Scaled → Type 0) → Type 0
EveryChord a [] P = Unit {0}
EveryChord a (x ∷ xs) P = EveryPoint a x P × EveryChord x xs P

-- an arc that ends within a unit of its track
pub record IsRoute (a : Arc) : Type 0 where
  pub track : IsTrack a.track
  pub sense : IsSense a.sense
  pub axis : IsDir a.axis
  pub sag : IsSag a.track a.sag
  pub start : IsNearCircle a.track (pos 3) a.start
  pub end : IsNearCircle a.track (pos 1) a.end
  pub apart : turn_class (displacement a.track.c a.start) a.sense (displacement a.track.c a.end) ≢ 0

-- the ways from the centre to the ends
abbrev pub to_start : Arc → Dir
to_start a = displacement a.track.c a.start

abbrev pub to_end : Arc → Dir
to_end a = displacement a.track.c a.end

-- k is more than 8 times the root of n, and on a side
abbrev pub IsAhead : ℤ → ℕ → Type 0
IsAhead k n = (pos 0 <ℤ k) × (64 * n < square k)

abbrev pub IsAback : ℤ → ℕ → Type 0
IsAback k n = (k <ℤ pos 0) × (64 * n < square k)

-- an arc starts more than 8 units to the left of a line moved to the left by h; or at most 8 to its right, heads to its left, and is more than 8 units off the square to it through the centre
abbrev pub StartsLeft : Arc → Line → ℤ → Type 0
StartsLeft a l h =
    IsAbove l (h +ℤ pos 8) (scaled a.start)
    ⊎ (IsAbove l (h -ℤ pos 8) (scaled a.start) × IsAhead (a.sense *ℤ dot (to_start a) l.dir) (length_squared l.dir))

-- and the same to the right
abbrev pub StartsRight : Arc → Line → ℤ → Type 0
StartsRight a l h =
    IsBelow l (h -ℤ pos 8) (scaled a.start)
    ⊎ (IsBelow l (h +ℤ pos 8) (scaled a.start) × IsAback (a.sense *ℤ dot (to_start a) l.dir) (length_squared l.dir))

-- an arc starts more than 8 units inside of a circle of the radius r about q; or at most 8 outside, heads into it, and is more than 8 units off the line through the centres
abbrev pub StartsInside : Arc → Pt → ℤ → Type 0
StartsInside a q r =
    IsUnder (about q) (r -ℤ pos 8) (scaled a.start)
    ⊎ (IsUnder (about q) (r +ℤ pos 8) (scaled a.start) × IsAhead (a.sense *ℤ cross (to_start a) (displacement a.track.c q)) (length_squared (displacement a.track.c q)))

-- and the same outside
abbrev pub StartsOutside : Arc → Pt → ℤ → Type 0
StartsOutside a q r =
    IsOver (about q) (r +ℤ pos 8) (scaled a.start)
    ⊎ (IsOver (about q) (r -ℤ pos 8) (scaled a.start) × IsAback (a.sense *ℤ cross (to_start a) (displacement a.track.c q)) (length_squared (displacement a.track.c q)))
