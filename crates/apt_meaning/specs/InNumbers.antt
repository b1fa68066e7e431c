-- A legal leg in numbers, as an inspector writes it on paper with the CL file in hand: how far the centre of the cutter is off its two surfaces, by the
-- cutter's radius and the two tolerances.
use Rattle.std.specs.Prelude.{◌≢◌, ◌+◌, ◌*◌, ◌/◌, ◌≤◌, ℤ, pos, neg_ℤ, ◌+ℤ◌, ◌-ℤ◌, ◌<ℤ◌, unsigned_abs, int_lt, int_le, ◌||◌, MatchBool, List, [], ◌∷◌, if◌then◌else◌}
use Rattle.apt_num.specs.declared.Sign.{Sign}
use Rattle.apt_num.specs.declared.Sign.TheVariants.{Plus as LeftOrInside, Zero as Upon, Minus as RightOrOutside}
use Rattle.apt_num.specs.Sign.{square}
use Rattle.apt_words.specs.declared.Stop.{Stop}
use Rattle.apt_words.specs.declared.Stop.TheVariants as stops
use Rattle.apt_plane.specs.declared.figures.Pt.{Pt}
use Rattle.apt_plane.specs.declared.figures.Dir.{Dir}
use Rattle.apt_plane.specs.declared.figures.Surface.{Surface}
use Rattle.apt_plane.specs.declared.figures.Surface.TheVariants as surfaces
use Rattle.apt_plane.specs.Vectors.{Scaled, scaled, displacement, cross, dot, length_squared}
use Rattle.apt_plane.specs.Distances.{IsOver, IsUnder}
use Rattle.apt_offset.specs.Turns.{opposite}
use Rattle.apt_offset.specs.Sides.{times, touch_outside}
use Rattle.apt_records.specs.declared.record.Record.{Record}
use Rattle.apt_records.specs.declared.record.Record.TheVariants as records
use Rattle.apt_certify.specs.Legs.{IsStep}
use Rattle.apt_certify.specs.Legal.{IsSome, last_of, EveryPointFrom}
use Rattle.apt_meaning.specs.Motions.{drive_side}
use Rattle.apt_meaning.specs.Paths.{Told, nothing_said, with_record, record_contours, Contour, EveryContour}

-- ---- the numbers

abbrev pub larger : ℤ → ℤ → ℤ
larger a b = if int_le a b then b else a

-- the cutter's radius, how far it may cut into a surface, and how far it may stay off it, in grid units
pub record Numbers : Type 0 where
  pub radius : ℤ
  pub into : ℤ
  pub off : ℤ

-- half the diameter, rounded up; INTOL and OUTTOL, each at least 8
abbrev pub numbers : Told → Numbers
numbers said = record { radius = pos ((unsigned_abs said.diameter + 1) / 2); into = larger said.intol (pos 8); off = larger said.outtol (pos 8) }

-- ---- the band about a surface

-- a point is at least x off a surface, on this side of it
abbrev pub IsOff : Surface → Sign → ℤ → Scaled → Type 0
IsOff (surfaces.Line l) LeftOrInside x p = IsOver (surfaces.Line l) x p
IsOff (surfaces.Line l) RightOrOutside x p = IsUnder (surfaces.Line l) (neg_ℤ x) p
IsOff (surfaces.Line l) Upon x p = Unit {0}
IsOff (surfaces.Circ c) LeftOrInside x p = IsUnder (surfaces.Circ c) (c.r -ℤ x) p
IsOff (surfaces.Circ c) RightOrOutside x p = IsOver (surfaces.Circ c) (c.r +ℤ x) p
IsOff (surfaces.Circ c) Upon x p = Unit {0}

-- how far off a surface the centre is at least to its left or inside, by the cutter's place; to the right or outside by the opposite of that place
abbrev pub least_off : Numbers → Sign → ℤ
least_off n LeftOrInside = n.radius -ℤ n.into
least_off n RightOrOutside = neg_ℤ (n.radius +ℤ n.off)
least_off n Upon = neg_ℤ (larger n.into n.off)

-- the centre is within both tolerances of a surface
pub record IsWithin (n : Numbers) (surface : Surface) (place : Sign) (p : Scaled) : Type 0 where
  pub left : IsOff surface LeftOrInside (least_off n place) p
  pub right : IsOff surface RightOrOutside (least_off n (opposite place)) p

-- ---- the far edge of the stop

-- how far inside of its track a chord may lie, with the cutter inside of its drive circle, outside of it, and on it
abbrev pub inner_margin : Numbers → Sign → ℤ
inner_margin n LeftOrInside = n.off
inner_margin n RightOrOutside = n.into
inner_margin n Upon = larger n.into n.off

-- how far past that edge a point may be, by the drive surface, the place of the cutter there, the check surface, and the side of it on which the leg runs
abbrev pub past_edge : Numbers → Surface → Sign → Surface → Sign → ℤ
past_edge n (surfaces.Line l) place (surfaces.Line k) side = pos 0
past_edge n (surfaces.Line l) place (surfaces.Circ d) side = pos 0
past_edge n (surfaces.Circ c) place (surfaces.Line k) side = pos 4
past_edge n (surfaces.Circ c) place (surfaces.Circ d) LeftOrInside = pos 4
past_edge n (surfaces.Circ c) place (surfaces.Circ d) RightOrOutside = pos 4 +ℤ inner_margin n place
past_edge n (surfaces.Circ c) place (surfaces.Circ d) Upon = pos 4

-- ---- the axis on which a leg ends that touches its check surface

-- at most 8 off an axis, by a product with a direction: that of the axis, or one square to it
abbrev pub IsBeside : ℤ → Dir → Type 0
IsBeside product d = square product ≤ 8 * 8 * length_squared d

-- two lines have none; along a line it is square to the line, through the check circle's centre; round a circle it goes through its centre, square to the
-- check line, on the half towards that line, or through both centres, on the half towards the other one, and away from it where a greater circle goes round
abbrev pub Touches : Surface → Surface → Pt → Type 0
Touches (surfaces.Line l) (surfaces.Line k) q = ⊥
Touches (surfaces.Line l) (surfaces.Circ d) q = IsBeside (dot l.dir (displacement d.c q)) l.dir
Touches (surfaces.Circ c) (surfaces.Line k) q =
    let ahead = cross k.dir (displacement c.c q) in
    IsBeside (dot k.dir (displacement c.c q)) k.dir × MatchBool (int_lt (cross k.dir (displacement k.base c.c)) (pos 0)) (pos 0 <ℤ ahead) (ahead <ℤ pos 0)
Touches (surfaces.Circ c) (surfaces.Circ d) q =
    let ahead = dot (displacement c.c d.c) (displacement c.c q) in
    (c.c ≢ d.c) × IsBeside (cross (displacement c.c d.c) (displacement c.c q)) (displacement c.c d.c)
    × MatchBool (touch_outside c d || int_le d.r c.r) (pos 0 <ℤ ahead) (ahead <ℤ pos 0)

-- a leg has a side of its check surface on which it runs; under TANTO it has none, and ends on the axis
abbrev pub IsBoundBy : Stop → Surface → Surface → Sign → Pt → Type 0
IsBoundBy stops.To drive check side q = side ≢ Upon
IsBoundBy stops.On drive check side q = side ≢ Upon
IsBoundBy stops.Past drive check side q = side ≢ Upon
IsBoundBy stops.Tanto drive check side q = Touches drive check q

-- ---- a leg

-- each vertex is a step onwards from the one before
abbrev pub RunsOnwards : Surface → ℤ → Pt → Pt → List Pt → Type 0
RunsOnwards drive sense start a [] = Unit {0}
RunsOnwards drive sense start a (b ∷ more) = IsStep drive sense start a b × RunsOnwards drive sense start b more

abbrev pub EveryPointOf : Contour → (Scaled → Type 0) → Type 0
EveryPointOf c P = EveryPointFrom c.motion.start.xy c.vertices P

abbrev pub end_of : Contour → Pt
end_of c = last_of c.motion.start.xy c.vertices

-- how far off its check surface a leg is at least, to the side on which it runs: as far as there within the tolerances, less what it may be past that
abbrev pub far_edge : Numbers → Contour → ℤ
far_edge n c = least_off n (times c.side c.motion.check_side) -ℤ past_edge n c.motion.drive (drive_side c.motion) c.motion.check c.side

-- a leg moves, and in order; every point of its path is within the tolerances of its drive surface, and not past the far edge of its stop; it ends within the
-- tolerances of its check surface, and where it touches on the axis
pub record IsLegalInNumbers (n : Numbers) (c : Contour) : Type 0 where
  pub moves : IsSome c.vertices
  pub order : RunsOnwards c.motion.drive c.motion.sense c.motion.start.xy c.motion.start.xy c.vertices
  pub band : EveryPointOf c (IsWithin n c.motion.drive (drive_side c.motion))
  pub edge : EveryPointOf c (IsOff c.motion.check c.side (far_edge n c))
  pub ends : IsWithin n c.motion.check c.motion.check_side (scaled (end_of c))
  pub bound : IsBoundBy c.motion.how c.motion.drive c.motion.check c.side (end_of c)

-- ---- all legs of a CL file

-- what was said in front of the last check record
abbrev pub said_at_check : Told → Told → Record → Told
said_at_check before s (records.Check surface how) = s
said_at_check before s _ = before

abbrev pub LegsInNumbers : Told → Told → List Record → Type 0
LegsInNumbers before s [] = Unit {0}
LegsInNumbers before s (r ∷ rs) = EveryContour (IsLegalInNumbers (numbers before)) (record_contours s r) × LegsInNumbers (said_at_check before s r) (with_record s r) rs

-- every leg that records say is legal, by the numbers that hold where its check surface is said
abbrev pub AreLegalInNumbers : List Record → Type 0
AreLegalInNumbers rs = LegsInNumbers nothing_said nothing_said rs
