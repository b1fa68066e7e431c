-- What a start-up answers is the first case that refuses it, or a point that is nearest.
use Rattle.std.proofs.Common.{◌≡◌, ◌↔◌, Option, Some, Result, IfOk, IsErrOf}
use Rattle.apt_words.specs.declared.Case.{Case}
use Rattle.apt_words.specs.Rows.{first_of, unless}
use Rattle.apt_words.proofs.Rows.{refused_by, given_by}
use Rattle.apt_plane.specs.declared.figures.Pt.{Pt}
use Rattle.apt_startup.specs.declared.Goal.{Goal}
use Rattle.apt_startup.specs.declared.StartUp.{StartUp}
use Rattle.apt_startup.specs.StartUps.{cases_by, point_by}
use Rattle.apt_startup.specs.Nearest.{IsNearest}
use Rattle.apt_startup.proofs.Nearer.{is_nearer}

pub refused : (u : StartUp) (second : Option Goal) (r : Result Pt Case) → r ≡ unless (cases_by u second) (point_by u second)
    → (case : Case) → IsErrOf r case ↔ (first_of (cases_by u second) ≡ Some case)
refused u second r e case = rw e (refused_by (cases_by u second) (point_by u second) case)

pub nearest_two : (u : StartUp) (g : Goal) (r : Result Pt Case) → r ≡ unless (cases_by u (Some g)) (point_by u (Some g)) → IfOk r (IsNearest u (Some g))
nearest_two u g r e = rw e (given_by (cases_by u (Some g)) (point_by u (Some g)) (IsNearest u (Some g)) (is_nearer _ _ _))
