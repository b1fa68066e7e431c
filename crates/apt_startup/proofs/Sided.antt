-- On which side of its surfaces a start-up ends.
use Rattle.std.proofs.Common.{◌≡◌, Option, Some, None, pos, ◌<ℤ◌, false, List, Result, Ok, Err}
use Rattle.std.specs.Prelude.{IfOk, IfSome}
use Rattle.apt_num.specs.declared.Sign.TheVariants as signs
use Rattle.apt_words.specs.declared.Case.{Case}
use Rattle.apt_words.specs.Rows.{Row, NoneHolds, first_of, unless, unless_case}
use Rattle.apt_words.proofs.Rows.{first_none}
use Rattle.apt_plane.specs.declared.figures.Pt.{Pt}
use Rattle.apt_contact.specs.Contacts.{IsNearTarget}
use Rattle.apt_contact.proofs.Aside.{near_stops_aside}
use Rattle.apt_startup.specs.declared.Goal.{Goal}
use Rattle.apt_startup.specs.declared.StartUp.{StartUp}
use Rattle.apt_startup.specs.Ranges.{IsStartUp, IsGoal}
use Rattle.apt_startup.specs.StartUps.{goal_target, is_on, cases_by, point_by}
use Rattle.apt_startup.specs.Nearest.{IsNearBoth, GoesAside, EachAside}

-- no condition refuses where there is an answer
free_case : (refusal : Option Case) (p q : Pt) → Ok q ≡ unless_case refusal p → refusal ≡ None
free_case None p q e = cc
free_case (Some case) p q e = absurd cc

free : (rows : List Row) (p q : Pt) → Ok q ≡ unless rows p → NoneHolds rows
free rows p q e = first_none rows (free_case (first_of rows) p q e)

goes_aside : (u : StartUp) (g : Goal) (q : Pt) → IsGoal g → is_on u g ≡ false → pos 1 <ℤ u.radius → IsNearTarget (goal_target u g) (pos 1) q → GoesAside u g q
goes_aside u g q is off more near = near_stops_aside g.surface g.how u.start g.surface signs.Zero u.radius (pos 1) q is.surface off more near

ends_aside : (u : StartUp) (second : Option Goal) (q : Pt) → IsStartUp u → IfSome second IsGoal → NoneHolds (cases_by u second) → IsNearBoth u second q → pos 1 <ℤ u.radius
    → EachAside u second q
ends_aside u None q is goal none near more = goes_aside u u.first q is.first none.1.0 more near
ends_aside u (Some g) q is goal none near more = (goes_aside u u.first q is.first none.1.1.0 more near.0, goes_aside u g q goal none.1.1.1.0 more near.1)

pub started_aside : (r : Result Pt Case) (u : StartUp) (second : Option Goal) → IsStartUp u → IfSome second IsGoal → r ≡ unless (cases_by u second) (point_by u second)
    → IfOk r (IsNearBoth u second) → pos 1 <ℤ u.radius → IfOk r (EachAside u second)
started_aside (Ok q) u second is goal e near more = ends_aside u second q is goal (free (cases_by u second) (point_by u second) q e) near more
started_aside (Err case) u second is goal e near more = tt
