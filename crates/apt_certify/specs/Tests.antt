-- The tests of a leg, in the order in which a verdict tells the first that fails. They all hold exactly where the leg is legal.
use Rattle.std.specs.Prelude.{List, [], ◌∷◌, ◌++◌}
use Rattle.apt_plane.specs.declared.figures.Pt.{Pt}
use Rattle.apt_plane.specs.Vectors.{scaled}
use Rattle.apt_plane.specs.Distances.{InBand, EveryPoint}
use Rattle.apt_certify.specs.declared.leg.Leg.{Leg}
use Rattle.apt_certify.specs.Legs.{IsStep, IsWithinSlack, IsOnAxisOrNone}

-- a segment goes onwards, stays in the drive band, and does not pass the edge; the last vertex is in the stop band, and on the axis
pub data Test : Type 0 where
  OrderOf : Pt → Pt → Test
  BandOf : Pt → Pt → Test
  OverrunOf : Pt → Pt → Test
  StopAt : Pt → Test
  AxisAt : Pt → Test

-- a test of a leg from its start holds
abbrev pub Holds : Leg → Pt → Test → Type 0
Holds leg start (OrderOf a b) = IsStep leg.drive leg.sense start a b
Holds leg start (BandOf a b) = EveryPoint a b (InBand leg.drive leg.band)
Holds leg start (OverrunOf a b) = EveryPoint a b (IsWithinSlack leg leg.beyond)
Holds leg start (StopAt q) = InBand leg.check leg.stop_band (scaled q)
Holds leg start (AxisAt q) = IsOnAxisOrNone leg.axis q

abbrev pub segment_tests : Pt → Pt → List Test
segment_tests a b = OrderOf a b ∷ BandOf a b ∷ OverrunOf a b ∷ []

abbrev pub end_tests : Pt → List Test
end_tests q = StopAt q ∷ AxisAt q ∷ []

-- the tests in order: those of each segment, and behind the last segment those of the end
abbrev pub tests_from : Pt → List Pt → List Test
tests_from a [] = end_tests a
tests_from a (b ∷ more) = segment_tests a b ++ tests_from b more

abbrev pub AllHold : Leg → Pt → List Test → Type 0
AllHold leg start [] = Unit {0}
AllHold leg start (test ∷ tests) = Holds leg start test × AllHold leg start tests
