-- The chords of a legal leg round a circle cover its turn: each direction in it lies in the cone of one.
use Rattle.std.proofs.Common.{◌≡◌, ◌≢◌, inl, inr, ◌<◌, subst, ℤ, pos, ◌<ℤ◌, List, [], ◌∷◌}
use Rattle.apt_plane.specs.declared.figures.Pt.{Pt}
use Rattle.apt_plane.specs.declared.figures.Dir.{Dir}
use Rattle.apt_plane.specs.declared.figures.Circ.{Circ}
use Rattle.apt_plane.specs.declared.figures.Surface.{Surface}
use Rattle.apt_plane.specs.declared.figures.Surface.TheVariants as surfaces
use Rattle.apt_plane.specs.Vectors.{Scaled, scaled, displacement, length_squared}
use Rattle.apt_plane.specs.Ranges.{IsSense}
use Rattle.apt_plane.specs.Distances.{InBand, EveryPoint}
use Rattle.apt_plane.specs.Order.{turn_class, ComesBefore}
use Rattle.apt_plane.proofs.Turned.{turned_by}
use Rattle.apt_plane.proofs.Turns.{comes_or_not}
use Rattle.apt_plane.proofs.SegmentLaws.{at_end}
use Rattle.apt_plane.proofs.Cones.{IsInCone, aside_some, class_behind, first_cone, later_cone}
use Rattle.apt_certify.specs.declared.leg.Leg.{Leg}
use Rattle.apt_certify.specs.Legs.{IsStep, IsWithinSlack}
use Rattle.apt_certify.specs.Legal.{last_of, AreInOrder, EveryPointFrom}

-- a chord in whose cone a direction lies, with what a legal leg keeps along it
pub record HasChord (leg : Leg) (c : Pt) (v : Dir) : Type 0 where
  pub p : Pt
  pub q : Pt
  pub turns : pos 0 <ℤ turned_by leg.sense (displacement c p) (displacement c q)
  pub cone : IsInCone leg.sense (displacement c p) (displacement c q) v
  pub band : EveryPoint p q (InBand leg.drive leg.band)
  pub edge : EveryPoint p q (IsWithinSlack leg leg.beyond)

step_of : (leg : Leg) (d : Circ) (start a b : Pt) → leg.drive ≡ surfaces.Circ d → IsStep leg.drive leg.sense start a b → IsStep (surfaces.Circ d) leg.sense start a b
step_of leg d start a b e step = subst (λ (s : Surface). IsStep s leg.sense start a b) e step

rest : (leg : Leg) (d : Circ) (start a : Pt) (vs : List Pt) (v : Dir) → leg.drive ≡ surfaces.Circ d → IsSense leg.sense
    → 0 < length_squared (displacement d.c start) → 0 < length_squared (displacement d.c a) → 0 < length_squared v
    → turn_class (displacement d.c start) leg.sense (displacement d.c a) ≢ 0 → ComesBefore (displacement d.c start) leg.sense (displacement d.c a) v
    → AreInOrder leg start a vs → EveryPointFrom a vs (InBand leg.drive leg.band) → EveryPointFrom a vs (IsWithinSlack leg leg.beyond)
    → ¬ ComesBefore (displacement d.c start) leg.sense (displacement d.c (last_of a vs)) v → HasChord leg d.c v
rest leg d start a [] v e is ps pa pv some comes order band edge none = absurd (none comes)
rest leg d start a (b ∷ more) v e is ps pa pv some comes order band edge none =
    let step = step_of leg d start a b e order.0 in
    let pb = (aside_some leg.sense (displacement d.c a) (displacement d.c b) is step.0).1 in
    let some_b = class_behind (displacement d.c start) leg.sense (displacement d.c a) (displacement d.c b) step.2 in
    elim (comes_or_not (displacement d.c start) leg.sense (displacement d.c b) v) [
      | inl on ↦ rest leg d start b more v e is ps pb pv some_b on order.1 band.1 edge.1 none
      | inr here ↦ record {
        p = a;
        q = b;
        turns = step.0;
        cone = later_cone leg.sense (displacement d.c start) (displacement d.c a) (displacement d.c b) v is ps pa pb pv step.0 some some_b comes here;
        band = band.0;
        edge = edge.0;
      }
    ]

pub has_chord : (leg : Leg) (d : Circ) (start b : Pt) (more : List Pt) (v : Dir) → leg.drive ≡ surfaces.Circ d → IsSense leg.sense → 0 < length_squared v
    → AreInOrder leg start start (b ∷ more) → EveryPointFrom start (b ∷ more) (InBand leg.drive leg.band) → EveryPointFrom start (b ∷ more) (IsWithinSlack leg leg.beyond)
    → ¬ ComesBefore (displacement d.c start) leg.sense (displacement d.c (last_of b more)) v → HasChord leg d.c v
has_chord leg d start b more v e is pv order band edge none =
    let step = step_of leg d start start b e order.0 in
    let both = aside_some leg.sense (displacement d.c start) (displacement d.c b) is step.0 in
    let some_b = class_behind (displacement d.c start) leg.sense (displacement d.c start) (displacement d.c b) step.2 in
    elim (comes_or_not (displacement d.c start) leg.sense (displacement d.c b) v) [
      | inl on ↦ rest leg d start b more v e is both.0 both.1 pv some_b on order.1 band.1 edge.1 none
      | inr here ↦ record {
        p = start;
        q = b;
        turns = step.0;
        cone = first_cone leg.sense (displacement d.c start) (displacement d.c b) v is both.0 both.1 pv step.0 some_b here;
        band = band.0;
        edge = edge.0;
      }
    ]

-- ---- the end of a leg: it is not the centre, and not in the direction of the start
pub record IsEnd (sense : ℤ) (s e : Dir) : Type 0 where
  pub some : 0 < length_squared e
  pub onwards : turn_class s sense e ≢ 0

pub end_of_walk : (leg : Leg) (d : Circ) (start a b : Pt) (more : List Pt) → leg.drive ≡ surfaces.Circ d → IsSense leg.sense → AreInOrder leg start a (b ∷ more)
    → IsEnd leg.sense (displacement d.c start) (displacement d.c (last_of b more))
end_of_walk leg d start a b [] e is order =
    let step = step_of leg d start a b e order.0 in
    record { some = (aside_some leg.sense (displacement d.c a) (displacement d.c b) is step.0).1; onwards = class_behind (displacement d.c start) leg.sense (displacement d.c a) (displacement d.c b) step.2 }
end_of_walk leg d start a b (c ∷ more) e is order = end_of_walk leg d start b c more e is order.1

-- and neither is the start
pub ends_of : (leg : Leg) (d : Circ) (start b : Pt) (more : List Pt) → leg.drive ≡ surfaces.Circ d → IsSense leg.sense → AreInOrder leg start start (b ∷ more)
    → (0 < length_squared (displacement d.c start)) × IsEnd leg.sense (displacement d.c start) (displacement d.c (last_of b more))
ends_of leg d start b more e is order =
    let step = step_of leg d start start b e order.0 in
    ((aside_some leg.sense (displacement d.c start) (displacement d.c b) is step.0).0, end_of_walk leg d start start b more e is order)

-- what every point of a path has its last one has
pub at_last : (P : Scaled → Type 0) (a b : Pt) (more : List Pt) → EveryPointFrom a (b ∷ more) P → P (scaled (last_of b more))
at_last P a b [] every = at_end P a b every.0
at_last P a b (c ∷ more) every = at_last P b c more every.1
