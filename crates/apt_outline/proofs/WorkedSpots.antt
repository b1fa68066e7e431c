-- The spots of segments and parts, and the reaches of a few records, which the checker works out.
use Rattle.std.specs.Prelude.{◌≡◌, ℤ, pos, negsuc, [], ◌∷◌}
use Rattle.std.proofs.Common.{refl}
use Rattle.apt_plane.specs.declared.figures.Pt.{Pt}
use Rattle.apt_plane.specs.declared.figures.Spot.{Spot}
use Rattle.apt_records.specs.declared.record.Position.{Position}
use Rattle.apt_records.specs.declared.record.Note.TheVariants as notes
use Rattle.apt_records.specs.declared.record.Record.TheVariants as records
use Rattle.apt_outline.specs.declared.parts.Part.TheVariants as parts
use Rattle.apt_outline.specs.declared.parts.Reach.{Reach}
use Rattle.apt_outline.specs.Reaches.{reaches_of}
use Rattle.apt_outline.specs.Spots.{spots}

abbrev pub at : ℤ → ℤ → Pt
at x y = record { x = x; y = y }

abbrev pub spot : ℤ → ℤ → Spot
spot j m = record { j = j; m = m }

abbrev pub start : Spot
start = spot (pos 0) (pos 1)

abbrev pub end : Spot
end = spot (pos 1) (pos 1)

-- -100 and 100
abbrev left : Pt
left = at (negsuc 99) (pos 0)

abbrev right : Pt
right = at (pos 100) (pos 0)

round_part : spots (parts.Boss (record { c = at (pos 250000) (negsuc 49999); r = pos 20000 })) (at (negsuc 24999) (negsuc 24999)) (at (pos 525000) (negsuc 24999))
    ≡ start ∷ end ∷ spot (pos 151250000000) (pos 302500000000) ∷ []
round_part = refl

hollow : spots (parts.Bore (record { c = at (pos 0) (pos 0); r = pos 100 })) left right ≡ start ∷ end ∷ []
hollow = refl

-- both feet, in the order of the edge's ends
beside : spots (parts.Edge (at (pos 2) (pos 5)) (at (pos 8) (pos 5))) left right ≡ start ∷ end ∷ spot (pos 20400) (pos 40000) ∷ spot (pos 21600) (pos 40000) ∷ []
beside = refl

turned : spots (parts.Edge (at (pos 8) (pos 5)) (at (pos 2) (pos 5))) left right ≡ start ∷ end ∷ spot (pos 21600) (pos 40000) ∷ spot (pos 20400) (pos 40000) ∷ []
turned = refl

-- the crossing comes last
across : spots (parts.Edge (at (negsuc 49) (negsuc 49)) (at (pos 50) (pos 50))) left right
    ≡ start ∷ end ∷ spot (pos 10000) (pos 40000) ∷ spot (pos 30000) (pos 40000) ∷ spot (pos 10000) (pos 20000) ∷ []
across = refl

-- the other way round it has the same numbers
across_turned : spots (parts.Edge (at (pos 50) (pos 50)) (at (negsuc 49) (negsuc 49))) left right
    ≡ start ∷ end ∷ spot (pos 30000) (pos 40000) ∷ spot (pos 10000) (pos 40000) ∷ spot (pos 10000) (pos 20000) ∷ []
across_turned = refl

-- a foot at an end is that end
square : spots (parts.Edge left (at (pos 100) (pos 50))) left right ≡ start ∷ end ∷ []
square = refl

skew : spots (parts.Edge (at (negsuc 23) (negsuc 11)) (at (pos 4) (pos 2))) (at (negsuc 27) (pos 5)) (at (pos 9) (negsuc 10))
    ≡ start ∷ end ∷ spot (pos 420) (pos 1625) ∷ spot (pos 1232) (pos 1625) ∷ spot (pos 532) (pos 966) ∷ []
skew = refl

just_missed : spots (parts.Edge (at (negsuc 1) (pos 4)) (at (pos 3) (pos 1))) (at (negsuc 1) (pos 6)) (at (pos 2) (pos 0))
    ≡ start ∷ end ∷ spot (pos 12) (pos 52) ∷ spot (pos 50) (pos 52) ∷ spot (pos 10) (pos 18) ∷ []
just_missed = refl

-- a segment that is a point
point : spots (parts.Edge (at (negsuc 49) (negsuc 49)) (at (pos 50) (pos 50))) (at (pos 0) (pos 0)) (at (pos 0) (pos 0)) ≡ start ∷ end ∷ []
point = refl

-- the diagonals of the square of the coordinate limit
widest : spots (parts.Edge (at (negsuc 49999999) (pos 50000000)) (at (pos 50000000) (negsuc 49999999))) (at (negsuc 49999999) (negsuc 49999999)) (at (pos 50000000) (pos 50000000))
    ≡ start ∷ end ∷ spot (pos 10000000000000000) (pos 20000000000000000) ∷ spot (pos 10000000000000000) (pos 20000000000000000) ∷ spot (pos 10000000000000000) (pos 20000000000000000) ∷ []
widest = refl

-- ---- reaches

abbrev vertex : Position
vertex = record { xy = right; z = pos 0 }

abbrev reach : ℤ → ℤ → Reach
reach r i = record { r = r; i = i }

-- half a diameter is rounded up, and INTOL counts as at least 8
said_last : reaches_of (
    records.Note (notes.Cutter (pos 50001)) ∷ records.Note (notes.Intol (pos 3)) ∷ records.Contour (vertex ∷ []) ∷ records.Note (notes.Cutter (pos 10000)) ∷ records.Contour (vertex ∷ vertex ∷ [])
    ∷ records.Note (notes.Outtol (pos 90)) ∷ records.Note (notes.Intol (pos 50)) ∷ records.Contour (vertex ∷ []) ∷ records.Note notes.Fini ∷ [])
    ≡ reach (pos 25001) (pos 8) ∷ reach (pos 5000) (pos 8) ∷ reach (pos 5000) (pos 50) ∷ []
said_last = refl

nothing_said : reaches_of (records.Contour (vertex ∷ []) ∷ records.Note (notes.Cutter (pos 10)) ∷ []) ≡ reach (pos 0) (pos 8) ∷ []
nothing_said = refl
