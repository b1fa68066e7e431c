-- The quarter points of a track on the way from a start to an end.
use Rattle.std.specs.Prelude.{◌≡◌, ◌⊎◌, ℤ, List, [], ◌∷◌}
use Rattle.apt_plane.specs.declared.figures.Pt.{Pt}
use Rattle.apt_plane.specs.declared.figures.Dir.{Dir}
use Rattle.apt_plane.specs.declared.figures.Circ.{Circ}
use Rattle.apt_plane.specs.Vectors.{displacement, perp}
use Rattle.apt_plane.specs.Order.{ComesBefore}
use Rattle.apt_canon.specs.Feet.{ray_point}

-- one of the four points of the track along an axis and square to it
abbrev pub IsQuarterPoint : Circ → Dir → Pt → Type 0
IsQuarterPoint t u q =
    (q ≡ ray_point t u) ⊎ ((q ≡ ray_point t (perp u)) ⊎ ((q ≡ ray_point t (perp (perp u))) ⊎ (q ≡ ray_point t (perp (perp (perp u))))))

-- one point comes before another in the turn from the start
abbrev pub AreOrdered : Circ → ℤ → Pt → Pt → Pt → Type 0
AreOrdered t sense s p q = ComesBefore (displacement t.c s) sense (displacement t.c p) (displacement t.c q)

-- after the start, and before the end
abbrev pub IsOnTheWay : Circ → ℤ → Pt → Pt → Pt → Type 0
IsOnTheWay t sense s e q = AreOrdered t sense s s q × AreOrdered t sense s q e

abbrev pub IsIn : Pt → List Pt → Type 0
IsIn q [] = ⊥
IsIn q (p ∷ ps) = (q ≡ p) ⊎ IsIn q ps

-- what is true of each of a list
abbrev pub Each : List Pt → (Pt → Type 0) → Type 0
Each [] P = Unit {0}
Each (p ∷ ps) P = P p × Each ps P

-- each comes before the next, and a before the first
abbrev pub AreInOrder : Circ → ℤ → Pt → Pt → List Pt → Type 0
AreInOrder t sense s a [] = Unit {0}
AreInOrder t sense s a (q ∷ qs) = AreOrdered t sense s a q × AreInOrder t sense s q qs

-- the quarter points on the way, all of them, in order
pub record AreQuarters (t : Circ) (sense : ℤ) (u : Dir) (s e : Pt) (list : List Pt) : Type 0 where
  pub each : Each list (λ q. IsQuarterPoint t u q × IsOnTheWay t sense s e q)
  pub all : (q : Pt) → IsQuarterPoint t u q → IsOnTheWay t sense s e q → IsIn q list
  pub order : AreInOrder t sense s s list
