-- The ranges of patterns and cycles, and of what holds before a step.
use Rattle.std.specs.Prelude.{◌≤◌, ℤ, pos, ◌≤ℤ◌, [], ◌∷◌, Option, Some, None}
use Rattle.apt_records.specs.Ranges.{IsPosition}
use Rattle.apt_pattern.specs.declared.cycle.Cycle.{Cycle}
use Rattle.apt_pattern.specs.declared.pattern.Pattern.{Pattern}
use Rattle.apt_pattern.specs.Expansions.{Patterns}

pub record IsPattern (p : Pattern) : Type 0 where
  pub from : IsPosition p.from
  pub to : IsPosition p.to
  pub least : 2 ≤ p.count
  pub most : p.count ≤ 1000

abbrev pub ArePatterns : Patterns → Type 0
ArePatterns [] = Unit {0}
ArePatterns (e ∷ es) = IsPattern e.1 × ArePatterns es

pub record IsDepth (g : ℤ) : Type 0 where
  pub least : pos 1 ≤ℤ g
  pub most : g ≤ℤ pos 1000000

pub record IsCycle (c : Cycle) : Type 0 where
  pub depth : IsDepth c.depth
  pub clearance : IsDepth c.clearance

abbrev pub IsCycleOrNone : Option Cycle → Type 0
IsCycleOrNone None = Unit {0}
IsCycleOrNone (Some c) = IsCycle c
