-- Where a start-up ends.
use Rattle.std.proofs.Common.{◌≡◌, ℤ, Option, Some, None, Result, Ok, Err, is_none, refl, cond}
use Rattle.apt_words.specs.declared.Case.{Case}
use Rattle.apt_words.specs.Rows.{first_of, unless, unless_case}
use Rattle.apt_plane.specs.declared.figures.Pt.{Pt}
use Rattle.apt_startup.specs.declared.StartUp.{StartUp}
use Rattle.apt_startup.specs.StartUps.{start_point, start_up_cases}
use Rattle.apt_records.specs.declared.record.Position.{Position}
use Rattle.apt_records.specs.Vertices.{at_height}
use Rattle.apt_meaning.specs.StartUps.{start_position}

abbrev pub started_at : ℤ → Result Pt Case → Option Position
started_at z (Ok p) = Some (at_height z p)
started_at z (Err case) = None

started_unless : (f : Option Case) (z : ℤ) (p : Pt) → started_at z (unless_case f p) ≡ cond (is_none f) (Some (at_height z p)) None
started_unless None z p = refl
started_unless (Some case) z p = refl

-- where GO leads
pub start_led : (from : Position) (u : StartUp) (r : Result Pt Case) → r ≡ unless (start_up_cases u) (start_point u) → started_at from.z r ≡ start_position from u
start_led from u r e = rw e (started_unless (first_of (start_up_cases u)) from.z (start_point u))
