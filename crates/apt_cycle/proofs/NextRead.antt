-- The next block of a writer means the acts for which it stands, to a control that holds what the writer holds.
use Rattle.std.proofs.Common.{◌≡◌, ◌∙◌, ◌<◌, Bool, true, false, List, [], ◌∷◌, ◌++◌, length, take, Option, Some, None, IsSome, Result, Ok, refl, sym, ap, subst, arith}
use Rattle.apt_block.specs.declared.block.BlockFault.{BlockFault}
use Rattle.apt_control.specs.declared.held.Held.{Held}
use Rattle.apt_control.specs.Control.{Meaning}
use Rattle.apt_post.specs.Blocks.{g}
use Rattle.apt_post.specs.Posting.{Posting, next_number}
use Rattle.apt_post.proofs.Numbers.{number_words}
use Rattle.apt_post.proofs.Standing.{next_number_of, next_number-words}
use Rattle.apt_circular.specs.declared.ArcAct.{ArcAct}
use Rattle.apt_circular.specs.ArcTape.{behind_act, CanAct, CanActs}
use Rattle.apt_cycle.specs.declared.hole.Hole.{Hole}
use Rattle.apt_cycle.specs.declared.reading.CycleHeld.{CycleHeld}
use Rattle.apt_cycle.specs.CycleBlocks.{drills, motion_behind, cycle_meaning}
use Rattle.apt_cycle.specs.Holes.{as_hole, hole_words, behind_hole}
use Rattle.apt_cycle.specs.CycleTape.{closed, next_by, next, next_block, behind_next}
use Rattle.apt_cycle.specs.Writable.{IsTaken, AreTaken, IsMeant, IsReadAs}
use Rattle.apt_cycle.proofs.Holes.{bored}
use Rattle.apt_cycle.proofs.Places.{can_bore}
use Rattle.apt_cycle.proofs.Meaning.{hole_means, close_means, IsQuiet, quiet_behind, act_means}

meant : (now : Held) (done : List ArcAct) (r : Result (Meaning CycleHeld ArcAct) BlockFault) (m : Meaning CycleHeld ArcAct) → r ≡ Ok m → m.held.held ≡ now → m.acts ≡ done → IsMeant now done r
meant now done r m is held acts = subst (IsMeant now done) (sym is) (held, acts)

-- an act by itself, or G80 in front of it
single_read : (p : Posting) (a : ArcAct) (more : List ArcAct) (circles t : Bool) → drills p.held.motion ≡ t → p.steps < 9999 → CanAct p.held a → IsSome p.held.units → motion_behind p.held.motion ≡ p.held.motion → IsTaken circles a
    → IsReadAs circles p.held (next_number p ++ (next_by None t p a).words) (next_by None t p a).held (take (next_by None t p a).count (a ∷ more))
single_read p a more circles true on few can known kept taken = record {
  means = λ h same with_circles letters at.
      meant (closed p.held) [] _ _ (ap (λ ns. cycle_meaning h letters at (ns ++ g 80 ∷ [])) (next_number-words p) ∙ close_means h (next_number_of p) letters at) (ap closed same) refl;
  kept = refl;
}
single_read p a more circles false off few can known kept taken =
    let quiet : IsQuiet p.held.motion = record { drills = off; kept = kept } in
    record {
      means = λ h same with_circles letters at.
          meant (behind_act p.machine.incremental p.held a) (a ∷ []) _ _ (act_means h p a same few known can (subst (λ t. IsTaken t a) (sym with_circles) taken) quiet letters at) refl refl;
      kept = (quiet_behind p.machine.incremental p.held a quiet).kept;
    }

pub next_reads : (p : Posting) (acts : List ArcAct) (circles : Bool) → p.steps < 9999 → 0 < length acts → CanActs p.machine.incremental p.held acts → IsSome p.held.units → motion_behind p.held.motion ≡ p.held.motion → AreTaken circles acts
    → IsReadAs circles p.held (next_block p acts) (behind_next p acts).held (take (next p acts).count acts)
next_reads p [] circles few some can known kept taken = absurd (omega (arith, some))
next_reads p (a ∷ []) circles few some can known kept taken = single_read p a [] circles (drills p.held.motion) refl few can.0 known kept taken.0
next_reads p (a ∷ b ∷ []) circles few some can known kept taken = single_read p a (b ∷ []) circles (drills p.held.motion) refl few can.0 known kept taken.0
next_reads p (a ∷ b ∷ c ∷ more) circles few some can known kept taken = by (as_hole a b c) refl
  where
    by : (o : Option Hole) → as_hole a b c ≡ o
        → IsReadAs circles p.held (next_number p ++ (next_by o (drills p.held.motion) p a).words) (next_by o (drills p.held.motion) p a).held (take (next_by o (drills p.held.motion) p a).count (a ∷ b ∷ c ∷ more))
    by None is = single_read p a (b ∷ c ∷ more) circles (drills p.held.motion) refl few can.0 known kept taken.0
    by (Some hole) is =
        let own = bored a b c hole is in
        let bores = can_bore p.machine.incremental p.held hole a b c more own can in
        record {
          means = λ h same with_circles letters at.
              meant (behind_hole p.held hole) (a ∷ b ∷ c ∷ []) _ _
              (ap (λ ns. cycle_meaning h letters at (ns ++ hole_words p.held hole)) (next_number-words p)
              ∙ ap (λ held. cycle_meaning h letters at (number_words (next_number_of p) ++ hole_words held hole)) (sym same)
              ∙ hole_means h (next_number_of p) hole letters at (subst (λ (held : Held). IsSome held.units) (sym same) known) bores)
              (ap (λ held. behind_hole held hole) same) own.acts;
          kept = refl;
        }
