-- What the code tells of a segment, of a leg's edge and of a track.
use Rattle.std.specs.Prelude.{◌≡◌, ◌≢◌, ℕ, zero, suc, ℤ, pos, negsuc, ◌<ℤ◌, ◌≤ℤ◌, ◌+◌, ◌*◌, ◌≤◌, ◌<◌, ◌^◌, ◌↔◌, unsigned_abs, List, Option, Some, None}
use Rattle.apt_plane.specs.declared.figures.Pt.{Pt}
use Rattle.apt_plane.specs.declared.figures.Surface.{Surface}
use Rattle.apt_plane.specs.declared.figures.Band.{Band}
use Rattle.apt_plane.specs.declared.figures.Spot.{Spot}
use Rattle.apt_plane.specs.Vectors.{Scaled}
use Rattle.apt_plane.specs.Distances.{EveryPoint}
use Rattle.apt_plane.specs.Segments.{IsFirstOff}
use Rattle.apt_plane.specs.Ranges.{IsPoint, IsDir, IsBand}
use Rattle.apt_offset.specs.declared.Target.{Target}
use Rattle.apt_offset.specs.declared.Target.TheVariants as targets
use Rattle.apt_offset.specs.Edges.{widened}
use Rattle.apt_certify.specs.declared.leg.Leg.{Leg}
use Rattle.apt_certify.specs.declared.deviations.Deviations.{Deviations}
use Rattle.apt_certify.specs.Legs.{slack_of}
use Rattle.apt_certify.specs.Deviations.{IsAtMostPast, EveryPointAlong}

-- a fact about a surface is true of every point of a segment, or not of one of its ends or of the foot of a circle's centre
abbrev pub IsEveryOrOff : Surface → (Scaled → Type 0) → Pt → Pt → Option Spot → Type 0
IsEveryOrOff surface P a b None = EveryPoint a b P
IsEveryOrOff surface P a b (Some spot) = IsFirstOff surface P a b spot

-- a step onwards, of less than a half turn, ends before the whole turn does, by how far its ends lie to the side of the turn's start
abbrev pub StaysBefore : ℤ → ℤ → Type 0
StaysBefore (pos zero) y = y ≢ pos 0
StaysBefore (pos (suc x)) y = Unit {0}
StaysBefore (negsuc x) y = y <ℤ pos 0

-- the band of a leg's stop with its slack, in range
pub record IsEdge (leg : Leg) (edge : Band) : Type 0 where
  pub value : edge ≡ widened leg.stop_band (slack_of leg)
  pub fits : IsBand edge

-- a track in range
abbrev pub IsTrack : Target → Type 0
IsTrack (targets.Line base dir off) = IsPoint base × IsDir dir × (unsigned_abs off ≤ 10 ^ 8)
IsTrack (targets.Circ c r) = IsPoint c × (unsigned_abs r ≤ 10 ^ 8)

-- q is the greatest number for which q times the root of n is at most k
pub record IsRootCount (k n q : ℕ) : Type 0 where
  pub low : q * q * n ≤ k * k
  pub high : k * k < (q + 1) * (q + 1) * n

-- c is the least number that is at least the root of n
abbrev pub IsRootUp : ℕ → ℕ → Type 0
IsRootUp n c = (h : ℕ) → (n ≤ h * h) ↔ (c ≤ h)

-- the least number, from one up, of which a fact is true that is true of all greater ones too
abbrev pub IsLeastFrom : ℤ → (ℤ → Type 0) → ℤ → Type 0
IsLeastFrom most P least = (u : ℤ) → ((most ≤ℤ u) × P u) ↔ (least ≤ℤ u)

-- no point in range lies further past a track
pub record IsReach (w : ℤ) : Type 0 where
  pub least : pos 0 ≤ℤ w
  pub most : w ≤ℤ pos (3 * 10 ^ 8)

pub record AreReaches (d : Deviations) : Type 0 where
  pub over : IsReach d.over
  pub under : IsReach d.under

-- the greatest deviations of a path
pub record AreDeviations (track : Target) (points : List Pt) (d : Deviations) : Type 0 where
  pub reaches : AreReaches d
  pub over : (u : ℤ) → pos 0 ≤ℤ u → EveryPointAlong points (IsAtMostPast track (pos 1) u) ↔ (d.over ≤ℤ u)
  pub under : (u : ℤ) → pos 0 ≤ℤ u → EveryPointAlong points (IsAtMostPast track (negsuc 0) u) ↔ (d.under ≤ℤ u)

-- that to a side
abbrev pub deviation_of : ℤ → Deviations → ℤ
deviation_of (pos n) d = d.over
deviation_of (negsuc n) d = d.under
