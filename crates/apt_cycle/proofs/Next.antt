-- The blocks of acts, one after the other: the next one, and those of the acts that it leaves.
use Rattle.std.proofs.Common.{◌≡◌, Bool, true, false, List, [], ◌∷◌, ◌++◌, drop, take, Option, Some, None, refl, sym, ap}
use Rattle.apt_post.specs.Posting.{Posting, next_number, behind_told}
use Rattle.apt_circular.specs.declared.ArcAct.{ArcAct}
use Rattle.apt_cycle.specs.declared.hole.Hole.{Hole}
use Rattle.apt_cycle.specs.CycleBlocks.{drills}
use Rattle.apt_cycle.specs.Holes.{as_hole}
use Rattle.apt_cycle.specs.CycleTape.{closed, single_behind, hole_or, blocks_from, Next, next_by, next}

-- behind the next block of acts
abbrev GoesOn : Posting → List ArcAct → Next → Type 0
GoesOn p acts n = blocks_from p acts ≡ (next_number p ++ n.words) ∷ blocks_from (behind_told p n.held) (drop n.count acts)

-- what is left behind the next block
pub blocks_next : (p : Posting) (a : ArcAct) (more : List ArcAct) → GoesOn p (a ∷ more) (next p (a ∷ more))
blocks_next p a [] = by (drills p.held.motion)
  where
    by : (t : Bool) → single_behind t p a (λ now. []) ≡ (next_number p ++ (next_by None t p a).words) ∷ blocks_from (behind_told p (next_by None t p a).held) (drop (next_by None t p a).count (a ∷ []))
    by true = refl
    by false = refl
blocks_next p a (b ∷ []) = by (drills p.held.motion)
  where
    by : (t : Bool) → single_behind t p a (λ now. blocks_from now (b ∷ [])) ≡ (next_number p ++ (next_by None t p a).words) ∷ blocks_from (behind_told p (next_by None t p a).held) (drop (next_by None t p a).count (a ∷ b ∷ []))
    by true = refl
    by false = refl
blocks_next p a (b ∷ c ∷ more) = by (as_hole a b c) refl
  where
    alone : (t : Bool) → as_hole a b c ≡ None → single_behind t p a (λ now. blocks_from now (b ∷ c ∷ more))
        ≡ (next_number p ++ (next_by None t p a).words) ∷ blocks_from (behind_told p (next_by None t p a).held) (drop (next_by None t p a).count (a ∷ b ∷ c ∷ more))
    alone true is = ap (λ o. (next_number p ++ (next_by None true p a).words) ∷ hole_or o (behind_told p (closed p.held)) a (λ now. blocks_from now more) (λ now. blocks_from now (b ∷ c ∷ more))) (sym is)
    alone false is = refl

    by : (o : Option Hole) → as_hole a b c ≡ o
        → hole_or o p a (λ now. blocks_from now more) (λ now. blocks_from now (b ∷ c ∷ more))
        ≡ (next_number p ++ (next_by o (drills p.held.motion) p a).words) ∷ blocks_from (behind_told p (next_by o (drills p.held.motion) p a).held) (drop (next_by o (drills p.held.motion) p a).count (a ∷ b ∷ c ∷ more))
    by (Some h) is = refl
    by None is = alone (drills p.held.motion) is

-- the first three acts decide it
pub next_three : (p : Posting) (acts : List ArcAct) → next p acts ≡ next p (take 3 acts)
next_three p [] = refl
next_three p (a ∷ []) = refl
next_three p (a ∷ b ∷ []) = refl
next_three p (a ∷ b ∷ c ∷ more) = refl
