-- The record in front: whether it is as expected, and what is behind it.
use Rattle.std.specs.Prelude.{◌≡◌, List, [], ◌∷◌, map, Option, MatchOption}
use Rattle.apt_plane.specs.declared.figures.Pt.{Pt}
use Rattle.apt_records.specs.declared.record.Position.{Position}
use Rattle.apt_records.specs.declared.record.Record.{Record}
use Rattle.apt_meaning.specs.Expectations.{Expectation, Meets, Departs}
use Rattle.apt_job.specs.declared.fronts.Front.{Front}
use Rattle.apt_job.specs.declared.fronts.Cuts.{Cuts}
use Rattle.apt_job.specs.declared.fronts.Cuts.TheVariants as the_cuts

abbrev pub points_at : List Position → List Pt
points_at ps = map (λ p. p.xy) ps

-- the vertices of each leg that is there
abbrev pub cuts_at : Cuts → List (List Pt)
cuts_at the_cuts.None = []
cuts_at (the_cuts.One vertices) = points_at vertices ∷ []
cuts_at (the_cuts.Two first second) = points_at first ∷ points_at second ∷ []

-- the first record is as expected, with these vertices, and rest is behind it
pub record IsMetFirst (x : Expectation) (written : List Record) (vertices : List Pt) (rest : List Record) : Type 0 where
  pub first : Record
  pub split : written ≡ first ∷ rest
  pub met : Meets x first vertices

-- what is behind the first record, where it is as expected
abbrev pub IsBehind : Expectation → List Record → Option Front → Type 0
IsBehind x written front = MatchOption front (Departs (x ∷ []) written 0) (λ f. IsMetFirst x written (points_at f.vertices) f.rest.now)
