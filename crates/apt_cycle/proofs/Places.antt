-- What can be written goes by where the tool stands, and by nothing else that holds.
use Rattle.std.proofs.Common.{◌≡◌, ◌∙◌, Bool, List, [], ◌∷◌, ◌++◌, refl, subst, sym}
use Rattle.apt_control.specs.declared.Act.TheVariants as acts
use Rattle.apt_control.specs.declared.held.Held.{Held}
use Rattle.apt_circular.specs.declared.ArcAct.{ArcAct}
use Rattle.apt_circular.specs.declared.ArcAct.TheVariants as arcs
use Rattle.apt_circular.specs.ArcTape.{behind_act, CanAct, CanActs}
use Rattle.apt_cycle.specs.declared.hole.Hole.{Hole}
use Rattle.apt_cycle.specs.Holes.{behind_hole, hole_of}
use Rattle.apt_cycle.proofs.Holes.{CanBore, IsBored}

-- the same place in two states
pub record IsSamePlace (held now : Held) : Type 0 where
  pub x : now.x ≡ held.x
  pub y : now.y ≡ held.y
  pub z : now.z ≡ held.z

pub same_can : (held now : Held) (act : ArcAct) → IsSamePlace held now → CanAct held act → CanAct now act
same_can held now (arcs.Plain act) same can = can
same_can held now (arcs.Arc turn x y z cx cy feed) same can = record { at = can.at; holds = (same.x ∙ can.holds.0, same.y ∙ can.holds.1, same.z ∙ can.holds.2); goes = can.goes; fits = can.fits }

pub same_behind : (incremental : Bool) (held now : Held) (act : ArcAct) → IsSamePlace held now → IsSamePlace (behind_act incremental held act) (behind_act incremental now act)
same_behind incremental held now (arcs.Plain (acts.Units u)) same = record { x = same.x; y = same.y; z = same.z }
same_behind incremental held now (arcs.Plain (acts.Rapid x y z)) same = record { x = refl; y = refl; z = refl }
same_behind incremental held now (arcs.Plain (acts.Cut x y z feed)) same = record { x = refl; y = refl; z = refl }
same_behind incremental held now (arcs.Plain (acts.Do command)) same = same
same_behind incremental held now (arcs.Plain acts.End) same = same
same_behind incremental held now (arcs.Arc turn x y z cx cy feed) same = record { x = refl; y = refl; z = refl }

pub same_acts : (incremental : Bool) (held now : Held) (done : List ArcAct) → IsSamePlace held now → CanActs incremental held done → CanActs incremental now done
same_acts incremental held now [] same can = tt
same_acts incremental held now (act ∷ more) same can =
    (same_can held now act same can.0, same_acts incremental (behind_act incremental held act) (behind_act incremental now act) more (same_behind incremental held now act same) can.1)

-- a hole leaves the tool where its three acts do
pub same_hole : (incremental : Bool) (from held : Held) (hole : Hole)
    → IsSamePlace (behind_act incremental (behind_act incremental (behind_act incremental from (arcs.Plain (acts.Rapid hole.x hole.y hole.top))) (arcs.Plain (acts.Cut hole.x hole.y hole.bottom hole.feed))) (arcs.Plain (acts.Rapid hole.x hole.y hole.top)))
    (behind_hole held hole)
same_hole incremental from held hole = record { x = refl; y = refl; z = refl }

-- the hole of three acts that can be written can be
pub can_bore : (incremental : Bool) (held : Held) (hole : Hole) (a b c : ArcAct) (more : List ArcAct) → IsBored hole a b c → CanActs incremental held (a ∷ b ∷ c ∷ more) → CanBore hole
can_bore incremental held hole a b c more is can = by (subst (λ (three : List ArcAct). CanActs incremental held (three ++ more)) (sym is.acts) can)
  where
    by : CanActs incremental held (hole_of hole ++ more) → CanBore hole
    by can = record { x = can.0.0; y = can.0.1; top = can.0.2; bottom = can.1.0.0.2; feed = can.1.0.1; below = is.below }

-- behind its three acts, what is left can be written
pub left_can : (incremental : Bool) (held : Held) (hole : Hole) (a b c : ArcAct) (more : List ArcAct) → IsBored hole a b c → CanActs incremental held (a ∷ b ∷ c ∷ more) → CanActs incremental (behind_hole held hole) more
left_can incremental held hole a b c more is can = by (subst (λ (three : List ArcAct). CanActs incremental held (three ++ more)) (sym is.acts) can)
  where
    by : CanActs incremental held (hole_of hole ++ more) → CanActs incremental (behind_hole held hole) more
    by can = same_acts incremental _ (behind_hole held hole) more (same_hole incremental held held hole) can.1.1.1
