-- A leg is legal exactly where all its tests hold.
use Rattle.std.proofs.Common.{◌<◌, List, [], ◌∷◌, length, arith}
use Rattle.apt_plane.specs.declared.figures.Pt.{Pt}
use Rattle.apt_plane.specs.Vectors.{scaled}
use Rattle.apt_plane.specs.Distances.{InBand}
use Rattle.apt_certify.specs.declared.leg.Leg.{Leg}
use Rattle.apt_certify.specs.Legs.{IsWithinSlack, IsOnAxisOrNone}
use Rattle.apt_certify.specs.Legal.{IsSome, last_of, AreInOrder, EveryPointFrom, IsLegal}
use Rattle.apt_certify.specs.Tests.{tests_from, AllHold}

-- the facts of a legal leg, from a point on its way
record Keeps (leg : Leg) (start a : Pt) (vertices : List Pt) : Type 0 where
  order : AreInOrder leg start a vertices
  band : EveryPointFrom a vertices (InBand leg.drive leg.band)
  edge : EveryPointFrom a vertices (IsWithinSlack leg leg.beyond)
  stop : InBand leg.check leg.stop_band (scaled (last_of a vertices))
  axis : IsOnAxisOrNone leg.axis (last_of a vertices)

kept_tests : (leg : Leg) (start a : Pt) (vertices : List Pt) → Keeps leg start a vertices → AllHold leg start (tests_from a vertices)
kept_tests leg start a [] k = (k.stop, (k.axis, tt))
kept_tests leg start a (b ∷ more) k =
    (k.order.0, (k.band.0, (k.edge.0, kept_tests leg start b more (record { order = k.order.1; band = k.band.1; edge = k.edge.1; stop = k.stop; axis = k.axis }))))

tests_kept : (leg : Leg) (start a : Pt) (vertices : List Pt) → AllHold leg start (tests_from a vertices) → Keeps leg start a vertices
tests_kept leg start a [] hold = record { order = tt; band = tt; edge = tt; stop = hold.0; axis = hold.1.0 }
tests_kept leg start a (b ∷ more) hold =
    let later = tests_kept leg start b more hold.1.1.1 in
    record { order = (hold.0, later.order); band = (hold.1.0, later.band); edge = (hold.1.1.0, later.edge); stop = later.stop; axis = later.axis }

pub legal_tests : (leg : Leg) (start : Pt) (vertices : List Pt) → IsLegal leg start vertices → AllHold leg start (tests_from start vertices)
legal_tests leg start vertices legal =
    kept_tests leg start start vertices (record { order = legal.order; band = legal.band; edge = legal.edge; stop = legal.stop; axis = legal.axis })

moving : (vertices : List Pt) → 0 < length vertices → IsSome vertices
moving [] moves = absurd (omega (arith, moves))
moving (p ∷ ps) moves = tt

pub tests_legal : (leg : Leg) (start : Pt) (vertices : List Pt) → 0 < length vertices → AllHold leg start (tests_from start vertices) → IsLegal leg start vertices
tests_legal leg start vertices moves hold =
    let k = tests_kept leg start start vertices hold in record {
      moves = moving vertices moves;
      order = k.order;
      band = k.band;
      edge = k.edge;
      stop = k.stop;
      axis = k.axis;
    }
