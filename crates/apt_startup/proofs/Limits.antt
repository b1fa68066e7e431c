-- A start-up that no condition refuses ends within the coordinate limit.
use Rattle.std.proofs.Common.{Option, Some, None}
use Rattle.std.proofs.lemmas.Bool.{not-false}
use Rattle.apt_words.specs.Rows.{NoneHolds}
use Rattle.apt_plane.specs.Ranges.{IsPoint}
use Rattle.apt_canon.proofs.Ways.{point_inside}
use Rattle.apt_startup.specs.declared.Goal.{Goal}
use Rattle.apt_startup.specs.declared.StartUp.{StartUp}
use Rattle.apt_startup.specs.StartUps.{cases_by, point_by, start_up_cases, start_point}

point_by-is : (u : StartUp) (second : Option Goal) → NoneHolds (cases_by u second) → IsPoint (point_by u second)
point_by-is u None none = point_inside (point_by u None) (not-false _ none.1.1.0)
point_by-is u (Some g) none = point_inside (point_by u (Some g)) (not-false _ none.1.1.1.1.1.1.0)

pub start_point-is : (u : StartUp) → NoneHolds (start_up_cases u) → IsPoint (start_point u)
start_point-is u none = point_by-is u u.second none
