-- Where the cutter first comes too near to a part.
use Rattle.std.specs.Prelude.{ℕ, ◌+◌, ℤ, List, [], ◌∷◌, Option, Some, None}
use Rattle.std.specs.List.{AllByRecursion}
use Rattle.apt_plane.specs.declared.figures.Pt.{Pt}
use Rattle.apt_plane.specs.Distances.{EveryPoint}
use Rattle.apt_certify.specs.declared.leg.Job.{Job}
use Rattle.apt_outline.specs.declared.parts.Part.{Part}
use Rattle.apt_outline.specs.declared.parts.Reach.{Reach}
use Rattle.apt_outline.specs.declared.parts.Gouge.{Gouge}
use Rattle.apt_outline.specs.Clearances.{IsClear, IsPart, IsReach, clearance}
use Rattle.apt_outline.specs.Spots.{IsFirst, IsFirstSpot, spots}

-- a straight move of the centre
pub record Segment : Type 0 where
  pub start : Pt
  pub end : Pt

-- from one point to another
abbrev pub segment : Pt → Pt → Segment
segment a b = record { start = a; end = b }

-- the segments of a path
abbrev pub segments_of : List Pt → List Segment
segments_of [] = []
segments_of (a ∷ []) = []
segments_of (a ∷ b ∷ more) = segment a b ∷ segments_of (b ∷ more)

-- a path, and how far its points keep from what is cut
pub record Pass : Type 0 where
  pub points : List Pt
  pub rho : ℤ

-- a motion with its reach
abbrev pub pass : Job → Reach → Pass
pass job reach = record { points = job.points; rho = clearance reach }

-- each motion with its own reach
abbrev pub passes : List Job → List Reach → List Pass
passes [] reaches = []
passes (job ∷ jobs) [] = []
passes (job ∷ jobs) (reach ∷ reaches) = pass job reach ∷ passes jobs reaches

-- every point of a segment is clear of a part
abbrev pub IsClearOf : ℤ → Segment → Part → Type 0
IsClearOf rho s part = EveryPoint s.start s.end (IsClear rho part)

-- of all parts
abbrev pub IsClearOfAll : ℤ → List Part → Segment → Type 0
IsClearOfAll rho parts s = AllByRecursion (IsClearOf rho s) parts

-- and so is every segment of a path
abbrev pub IsClearPath : ℤ → List Part → List Pt → Type 0
IsClearPath rho parts points = AllByRecursion (IsClearOfAll rho parts) (segments_of points)

-- and of a path with its distance
abbrev pub IsClearPass : List Part → Pass → Type 0
IsClearPass parts p = IsClearPath p.rho parts p.points

-- and of all of them
abbrev pub AreClear : List Part → List Pass → Type 0
AreClear parts list = AllByRecursion (IsClearPass parts) list

-- the first part of which a segment is not clear, and the first spot
pub record IsGougeOfSegment (rho : ℤ) (parts : List Part) (s : Segment) (g : Gouge) : Type 0 where
  pub its_part : Part
  pub part : IsFirst (IsClearOf rho s) parts g.part its_part
  pub spot : IsFirstSpot s.start s.end (IsClear rho its_part) (spots its_part s.start s.end) g.spot

-- the first segment of a path that is not clear of all parts, and its gouge
pub record IsGougeOfPath (rho : ℤ) (parts : List Part) (points : List Pt) (g : Gouge) : Type 0 where
  pub its_segment : Segment
  pub segment : IsFirst (IsClearOfAll rho parts) (segments_of points) g.segment its_segment
  pub gouge : IsGougeOfSegment rho parts its_segment g

-- the first motion that is not clear of all parts, and its gouge
pub record IsFirstGouge (list : List Pass) (parts : List Part) (g : Gouge) : Type 0 where
  pub its_pass : Pass
  pub motion : IsFirst (IsClearPass parts) list g.motion its_pass
  pub gouge : IsGougeOfPath its_pass.rho parts its_pass.points g

-- ---- in range

-- all parts are in range
abbrev pub AreParts : List Part → Type 0
AreParts parts = AllByRecursion IsPart parts

-- and all reaches
abbrev pub AreReaches : List Reach → Type 0
AreReaches reaches = AllByRecursion IsReach reaches

-- ---- the first gouge of two lists of motions

-- a gouge behind n motions more
abbrev pub behind_motions : ℕ → Gouge → Gouge
behind_motions n g = record g { motion = n + g.motion }

-- of the first list, which has n motions, where it has one, else of the second
abbrev pub first_of : Option Gouge → ℕ → Option Gouge → Option Gouge
first_of (Some g) n other = Some g
first_of None n (Some g) = Some (behind_motions n g)
first_of None n None = None

-- what is found of motions: none where all are clear, else the first that is not
abbrev pub IsFound : List Pass → List Part → Option Gouge → Type 0
IsFound list parts None = AreClear parts list
IsFound list parts (Some g) = IsFirstGouge list parts g
