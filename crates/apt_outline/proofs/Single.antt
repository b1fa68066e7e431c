-- What is found of motions is one thing alone; and what it is not to be clear of an edge.
use Rattle.std.proofs.Common.{refl, ◌≡◌, ap, subst, List, Option, Some, None, ℤ}
use Rattle.apt_plane.specs.declared.figures.Pt.{Pt}
use Rattle.apt_outline.specs.declared.parts.Part.{Part}
use Rattle.apt_outline.specs.declared.parts.Gouge.{Gouge}
use Rattle.apt_outline.specs.Clearances.{IsClear}
use Rattle.apt_outline.specs.Spots.{at_spot, spots, IsFirstSpot}
use Rattle.apt_outline.specs.Guards.{Segment, segments_of, Pass, IsClearOf, IsClearOfAll, IsClearPass, IsGougeOfSegment, IsGougeOfPath, IsFirstGouge, IsFound}
use Rattle.apt_outline.proofs.Firsts.{not_all, only_first}

same_in_segment : (rho : ℤ) (list : List Part) (s : Segment) (g h : Gouge) → IsGougeOfSegment rho list s g → IsGougeOfSegment rho list s h → (g.part ≡ h.part) × (g.spot ≡ h.spot)
same_in_segment rho list s g h one other =
    let part = only_first (IsClearOf rho s) list g.part h.part one.its_part other.its_part one.part other.part in
    let first = subst (λ (p : Part). IsFirstSpot s.start s.end (IsClear rho p) (spots p s.start s.end) g.spot) part.1 one.spot in
    let spot = only_first (λ t. IsClear rho other.its_part (at_spot s.start s.end t)) (spots other.its_part s.start s.end) first.0 other.spot.0 g.spot h.spot first.1 other.spot.1 in
    (part.0, spot.1)

same_in_path : (rho : ℤ) (list : List Part) (points : List Pt) (g h : Gouge) → IsGougeOfPath rho list points g → IsGougeOfPath rho list points h → (g.segment ≡ h.segment) × ((g.part ≡ h.part) × (g.spot ≡ h.spot))
same_in_path rho list points g h one other =
    let segment = only_first (IsClearOfAll rho list) (segments_of points) g.segment h.segment one.its_segment other.its_segment one.segment other.segment in
    (segment.0, same_in_segment rho list other.its_segment g h (subst (λ (s : Segment). IsGougeOfSegment rho list s g) segment.1 one.gouge) other.gouge)

same_gouge : (g h : Gouge) → g.motion ≡ h.motion → g.segment ≡ h.segment → g.part ≡ h.part → g.spot ≡ h.spot → g ≡ h
same_gouge g h e f i j = λ x. record { motion = e x; segment = f x; part = i x; spot = j x }

same_first : (list : List Pass) (parts : List Part) (g h : Gouge) → IsFirstGouge list parts g → IsFirstGouge list parts h → g ≡ h
same_first list parts g h one other =
    let motion = only_first (IsClearPass parts) list g.motion h.motion one.its_pass other.its_pass one.motion other.motion in
    let inner = same_in_path other.its_pass.rho parts other.its_pass.points g h (subst (λ (p : Pass). IsGougeOfPath p.rho parts p.points g) motion.1 one.gouge) other.gouge in
    same_gouge g h motion.0 inner.0 inner.1.0 inner.1.1

pub only_found : (list : List Pass) (parts : List Part) (a b : Option Gouge) → IsFound list parts a → IsFound list parts b → a ≡ b
only_found list parts None None first second = refl
only_found list parts None (Some h) first second = absurd (not_all (IsClearPass parts) list h.motion second.its_pass second.motion first)
only_found list parts (Some g) None first second = absurd (not_all (IsClearPass parts) list g.motion first.its_pass first.motion second)
only_found list parts (Some g) (Some h) first second = ap (λ (x : Gouge). Some x) (same_first list parts g h first second)
