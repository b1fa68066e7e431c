-- How the answer of the formula is made, and what it tells.
use Rattle.std.proofs.Common.{refl, ◌≡◌, ◌≢◌, ◌↔◌, Bool, true, false, inl, inr, ℤ, pos, unsigned_abs, ◌==◌, Result, Err, IfOk, IsErrOf}
use Rattle.std.specs.Prelude.{if◌then◌else◌}
use Rattle.apt_plane.specs.declared.figures.Pt.{Pt}
use Rattle.apt_plane.specs.declared.figures.Line.{Line}
use Rattle.apt_plane.specs.Vectors.{cross}
use Rattle.apt_plane.specs.Ranges.{IsPoint}
use Rattle.apt_canon.specs.declared.FormFault.{FormFault}
use Rattle.apt_canon.specs.declared.FormFault.TheVariants.{NoMeeting}
use Rattle.apt_canon.specs.Scale.{in_range}
use Rattle.apt_canon.specs.Meeting.{meeting_point, line_line}
use Rattle.apt_canon.proofs.Fits.{not_zero-test, zero_tells, in_range-IsPoint, no_other_fault}

pub meets : (a b : Line) (ha hb turn x y : ℤ) → turn ≡ cross a.dir b.dir → turn ≢ pos 0 → x ≡ (meeting_point a ha b hb).x → y ≡ (meeting_point a ha b hb).y
    → in_range (record { x = x; y = y }) ≡ line_line a ha b hb
meets a b ha hb turn x y e d ex ey = rw (ex, ey, not_zero-test (cross a.dir b.dir) (rw e at d)) refl

found : (z : ℤ) (p : Pt) → IsErrOf (if unsigned_abs z == 0 then Err NoMeeting else in_range p) NoMeeting ↔ (z ≡ pos 0)
found z p = elim (zero_tells z) [
  | inl none ↦ rw none.1 (λ h. none.0, λ h. refl)
  | inr some ↦ rw some.1 (λ h. absurd (no_other_fault p NoMeeting (λ e. cc) h), λ e. absurd (some.0 e))
]

in_range-or : (parallel : Bool) (p : Pt) → IfOk (if parallel then Err NoMeeting else in_range p) (λ q. IsPoint q)
in_range-or true p = tt
in_range-or false p = in_range-IsPoint p

pub answer_parallel : (r : Result Pt FormFault) (a b : Line) (ha hb : ℤ) → r ≡ line_line a ha b hb → IsErrOf r NoMeeting ↔ (cross a.dir b.dir ≡ pos 0)
answer_parallel r a b ha hb e = rw e (found (cross a.dir b.dir) (meeting_point a ha b hb))

pub answer_in_range : (r : Result Pt FormFault) (a b : Line) (ha hb : ℤ) → r ≡ line_line a ha b hb → IfOk r (λ p. IsPoint p)
answer_in_range r a b ha hb e = rw e (in_range-or (unsigned_abs (cross a.dir b.dir) == 0) (meeting_point a ha b hb))
