-- The first spot of a segment at which an edge is near, by the order in which they are looked at.
use Rattle.std.proofs.Common.{refl, ◌≡◌, ◌∙◌, sym, ap, subst, ℕ, zero, suc, ◌+◌, ◌*◌, ◌<◌, arith, List, [], ◌∷◌, ◌++◌, append_assoc, Option, Some, None, ℤ, pos, negsuc, ◌≤ℤ◌}
use Rattle.std.specs.Option.{MatchOption}
use Rattle.std.specs.List.{AllByRecursion}
use Rattle.std.proofs.lemmas.Int.{ints}
use Rattle.std.proofs.lemmas.Nat.{mul-le}
use Rattle.apt_plane.specs.declared.figures.Pt.{Pt}
use Rattle.apt_plane.specs.declared.figures.Spot.{Spot}
use Rattle.apt_plane.specs.Vectors.{Scaled, scaled, between, length_squared}
use Rattle.apt_plane.specs.Distances.{EveryPoint}
use Rattle.apt_plane.specs.Segments.{start_spot, end_spot}
use Rattle.apt_plane.proofs.RingLaws.{length_at_most, negative_at_most}
use Rattle.apt_outline.specs.declared.parts.Part.TheVariants as parts
use Rattle.apt_outline.specs.Clearances.{displacement_scaled, AreApart, IsFar, IsClear}
use Rattle.apt_outline.specs.Spots.{at_spot, foot, crossing, spots, IsFirstSpot}
use Rattle.apt_outline.specs.Edges.{IsMissedBy}
use Rattle.apt_outline.proofs.Far.{far_turned}
use Rattle.apt_outline.proofs.Firsts.{all-append, first_behind}
use Rattle.apt_outline.proofs.Whole.{at_first, at_last, all_far}
use Rattle.apt_outline.proofs.Deciding.{IsCrossed}

abbrev IsFarAt : ℕ → Pt → Pt → Pt → Pt → Spot → Type 0
IsFarAt r p q a b t = IsFar r p q (at_spot a b t)

far_first : (r : ℕ) (p q a b : Pt) → IsFar r p q (scaled a) → IsFarAt r p q a b start_spot
far_first r p q a b far = subst (λ (s : Scaled). IsFar r p q s) (sym (at_first a b)) far

far_last : (r : ℕ) (p q a b : Pt) → IsFar r p q (scaled b) → IsFarAt r p q a b end_spot
far_last r p q a b far = subst (λ (s : Scaled). IsFar r p q s) (sym (at_last a b)) far

abbrev pub IsNearFirst : ℕ → Pt → Pt → Pt → Pt → Spot → Type 0
IsNearFirst r p q a b s = IsFirstSpot a b (IsFar r p q) (spots (parts.Edge p q) a b) s

pub first_start : (r : ℕ) (p q a b : Pt) → ¬ IsFar r p q (scaled a) → IsNearFirst r p q a b start_spot
first_start r p q a b near = (
  1,
  first_behind (IsFarAt r p q a b) _ [] (end_spot ∷ foot p a b ++ foot q a b ++ crossing a b p q) start_spot 1 refl tt
      (λ far. near (subst (λ (s : Scaled). IsFar r p q s) (at_first a b) far)) refl,
)

pub first_end : (r : ℕ) (p q a b : Pt) → IsFar r p q (scaled a) → ¬ IsFar r p q (scaled b) → IsNearFirst r p q a b end_spot
first_end r p q a b start near = (
  2,
  first_behind (IsFarAt r p q a b) _ (start_spot ∷ []) (foot p a b ++ foot q a b ++ crossing a b p q) end_spot 2 refl (far_first r p q a b start, tt)
      (λ far. near (subst (λ (s : Scaled). IsFar r p q s) (at_last a b) far)) refl,
)

pub first_foot : (r : ℕ) (p q a b : Pt) (s : Spot) → IsFar r p q (scaled a) → IsFar r p q (scaled b) → (foot p a b ≡ s ∷ []) × ¬ IsFarAt r p q a b s → IsNearFirst r p q a b s
first_foot r p q a b s start end is = (
  3,
  first_behind (IsFarAt r p q a b) _ (start_spot ∷ end_spot ∷ []) (foot q a b ++ crossing a b p q) s 3
      (ap (λ (list : List Spot). start_spot ∷ end_spot ∷ list ++ foot q a b ++ crossing a b p q) is.0)
      (far_first r p q a b start, (far_last r p q a b end, tt)) is.1 refl,
)

turned_all : (r : ℕ) (p q a b : Pt) (list : List Spot) → AllByRecursion (IsFarAt r q p a b) list → AllByRecursion (IsFarAt r p q a b) list
turned_all r p q a b [] all = tt
turned_all r p q a b (t ∷ list) all = (far_turned r (at_spot a b t) p q all.0, turned_all r p q a b list all.1)

pub second_foot : (r : ℕ) (p q a b : Pt) (s : Spot) → IsFar r p q (scaled a) → IsFar r p q (scaled b) → AllByRecursion (IsFarAt r p q a b) (foot p a b)
    → (foot q a b ≡ s ∷ []) × ¬ IsFarAt r q p a b s → IsNearFirst r p q a b s
second_foot r p q a b s start end first is = (
  _,
  first_behind (IsFarAt r p q a b) _ (start_spot ∷ end_spot ∷ foot p a b) (crossing a b p q) s _
      (ap (λ (list : List Spot). start_spot ∷ end_spot ∷ foot p a b ++ list ++ crossing a b p q) is.0 ∙ append_assoc (start_spot ∷ end_spot ∷ foot p a b) (s ∷ []) (crossing a b p q))
      (far_first r p q a b start, (far_last r p q a b end, first)) (λ far. is.1 (far_turned r (at_spot a b s) q p far)) refl,
)

last_spot : (r : ℕ) (p q a b : Pt) (s : Spot) → IsFar r p q (scaled a) → IsFar r p q (scaled b) → AllByRecursion (IsFarAt r p q a b) (foot p a b) → AllByRecursion (IsFarAt r p q a b) (foot q a b)
    → (crossing a b p q ≡ s ∷ []) × ¬ IsFarAt r p q a b s → IsNearFirst r p q a b s
last_spot r p q a b s start end first second is = (
  _,
  first_behind (IsFarAt r p q a b) _ (start_spot ∷ end_spot ∷ foot p a b ++ foot q a b) [] s _
      (ap (λ (list : List Spot). start_spot ∷ end_spot ∷ foot p a b ++ foot q a b ++ list) is.0)
      (far_first r p q a b start, (far_last r p q a b end, all-append (IsFarAt r p q a b) (foot p a b) (foot q a b) first second)) is.1 refl,
)

pub last_tells : (r : ℕ) (p q a b : Pt) (found : Option Spot) → 0 < r → IsFar r p q (scaled a) → IsFar r p q (scaled b) → AllByRecursion (IsFarAt r p q a b) (foot p a b)
    → AllByRecursion (IsFarAt r q p a b) (foot q a b) → MatchOption found (IsMissedBy p q a b) (IsCrossed p q a b)
    → MatchOption found (EveryPoint a b (IsFar r p q)) (IsNearFirst r p q a b)
last_tells r p q a b None some start end first second missed =
    all_far r p q a b (record { start = start; end = end; start_foot = first; end_foot = turned_all r p q a b (foot q a b) second; crossing = missed })
last_tells r p q a b (Some s) some start end first second crossed = last_spot r p q a b s start end first (turned_all r p q a b (foot q a b) second) (crossed.0, crossed.1 r some)

-- ---- a clearance that is no length is always kept
pub never_near : (rho : ℤ) (p q a b : Pt) → rho ≤ℤ pos 0 → EveryPoint a b (λ s. EveryPoint p q (AreApart rho s))
never_near (pos zero) p q a b h = λ j k some l n many.
    (length_at_most ((j + k) * (l + n)) 0 (length_squared (displacement_scaled (between a b j k) (between p q l n)))).1 (omega arith)
never_near (pos (suc r)) p q a b h = absurd (omega (arith, ints, h))
never_near (negsuc r) p q a b h = λ j k some l n many.
    negative_at_most ((j + k) * (l + n)) r (length_squared (displacement_scaled (between a b j k) (between p q l n))) (omega (arith, mul-le 1 1 (j + k) (l + n) some many))

pub clear_of_far : (rho : ℤ) (r : ℕ) (p q a b : Pt) (found : Option Spot) → rho ≡ pos r → MatchOption found (EveryPoint a b (IsFar r p q)) (IsNearFirst r p q a b)
    → MatchOption found (EveryPoint a b (IsClear rho (parts.Edge p q))) (λ s. IsFirstSpot a b (IsClear rho (parts.Edge p q)) (spots (parts.Edge p q) a b) s)
clear_of_far rho r p q a b found e is = rw e is
