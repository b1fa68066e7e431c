-- An answer of the formula is a point at most one unit from both lines.
use Rattle.std.proofs.Common.{◌≡◌, ◌≢◌, ◌^◌, ◌≤◌, ℤ, pos, unsigned_abs, ◌==◌, inl, inr, Result, Err, IfOk}
use Rattle.std.specs.Prelude.{if◌then◌else◌}
use Rattle.apt_plane.specs.declared.figures.Pt.{Pt}
use Rattle.apt_plane.specs.declared.figures.Line.{Line}
use Rattle.apt_plane.specs.Vectors.{cross}
use Rattle.apt_plane.specs.Ranges.{IsLine}
use Rattle.apt_canon.specs.declared.FormFault.{FormFault}
use Rattle.apt_canon.specs.declared.FormFault.TheVariants.{NoMeeting}
use Rattle.apt_canon.specs.Scale.{in_range, IsNearLine}
use Rattle.apt_canon.specs.Meeting.{meeting_point, line_line}
use Rattle.apt_canon.proofs.Fits.{zero_tells, if_fits}
use Rattle.apt_canon.proofs.LineMeetings.Meeting.{meeting_point-near}

-- what holds of a point where lines meet holds of the answer
if_meeting : (P : Pt → Type 0) (z : ℤ) (p : Pt) → (z ≢ pos 0 → P p) → IfOk (if unsigned_abs z == 0 then Err NoMeeting else in_range p) P
if_meeting P z p h = elim (zero_tells z) [
  | inl none ↦ rw none.1 tt
  | inr some ↦ rw some.1 (if_fits P p (λ is. h some.0))
]

pub answer_on_a : (r : Result Pt FormFault) (a b : Line) (ha hb : ℤ) → IsLine a → IsLine b → unsigned_abs ha ≤ 10 ^ 8 → unsigned_abs hb ≤ 10 ^ 8
    → r ≡ line_line a ha b hb → IfOk r (λ p. IsNearLine a ha (pos 1) p)
answer_on_a r a b ha hb is_a is_b small_a small_b e =
    rw e (if_meeting (IsNearLine a ha (pos 1)) (cross a.dir b.dir) (meeting_point a ha b hb) (λ d. (meeting_point-near a b ha hb is_a is_b small_a small_b d).0))

pub answer_on_b : (r : Result Pt FormFault) (a b : Line) (ha hb : ℤ) → IsLine a → IsLine b → unsigned_abs ha ≤ 10 ^ 8 → unsigned_abs hb ≤ 10 ^ 8
    → r ≡ line_line a ha b hb → IfOk r (λ p. IsNearLine b hb (pos 1) p)
answer_on_b r a b ha hb is_a is_b small_a small_b e =
    rw e (if_meeting (IsNearLine b hb (pos 1)) (cross a.dir b.dir) (meeting_point a ha b hb) (λ d. (meeting_point-near a b ha hb is_a is_b small_a small_b d).1))
