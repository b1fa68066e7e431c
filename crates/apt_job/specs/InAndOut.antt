-- What IN and OUT tell of contours, in words of tolerances.
use Rattle.std.specs.Prelude.{◌↔◌, ℤ, pos, ◌≤ℤ◌, List}
use Rattle.apt_num.specs.declared.Sign.{Sign}
use Rattle.apt_num.specs.declared.Sign.TheVariants as signs
use Rattle.apt_plane.specs.declared.figures.Surface.{Surface}
use Rattle.apt_plane.specs.declared.figures.Surface.TheVariants as surfaces
use Rattle.apt_plane.specs.declared.figures.Band.{Band}
use Rattle.apt_plane.specs.Distances.{InBand}
use Rattle.apt_offset.specs.Targets.{band_at}
use Rattle.apt_certify.specs.declared.verdict.Verdict.{Verdict}
use Rattle.apt_certify.specs.Legal.{EveryPointFrom}
use Rattle.apt_meaning.specs.Motions.{drive_side}
use Rattle.apt_meaning.specs.Paths.{Contour, EveryContour}

-- the band about a drive surface with the tolerances i and o, on both sides of the track; of a cutter on the surface itself, outside is the left of a line and what lies around a circle
abbrev pub span : Surface → Sign → ℤ → ℤ → ℤ → Band
span surface signs.Plus r i o = band_at surface signs.Plus r i o
span surface signs.Minus r i o = band_at surface signs.Minus r i o
span (surfaces.Line l) signs.Zero r i o = band_at (surfaces.Line l) signs.Plus (pos 0) i o
span (surfaces.Circ c) signs.Zero r i o = band_at (surfaces.Circ c) signs.Minus (pos 0) i o

-- every point of a leg would be within the tolerances i and o
abbrev pub IsWithin : ℤ → ℤ → Contour → Type 0
IsWithin i o c = EveryPointFrom c.motion.start.xy c.vertices (InBand c.motion.drive (span c.motion.drive (drive_side c.motion) c.motion.radius i o))

-- IN and OUT of a verdict are the least tolerances within which every point of every leg is
abbrev pub TellsInAndOut : List Contour → Verdict → Type 0
TellsInAndOut cs v = (i o : ℤ) → pos 0 ≤ℤ i → pos 0 ≤ℤ o → EveryContour (IsWithin i o) cs ↔ ((v.worst_in ≤ℤ i) × (v.worst_out ≤ℤ o))
