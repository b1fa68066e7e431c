-- Forward behind a contour.
use Rattle.std.proofs.Common.{◌≡◌, ap, arith, inl, inr, ◌≤◌, ℕ, ℤ, pos, negsuc, neg_ℤ, ◌+ℤ◌, ◌-ℤ◌, ◌*ℤ◌, ◌<ℤ◌}
use Rattle.std.proofs.lemmas.Int.{ints}
use Rattle.apt_num.specs.Sign.{sign_of}
use Rattle.apt_num.proofs.Ring.{as_diff, diff-same, differences}
use Rattle.apt_num.proofs.Squares.{size_square}
use Rattle.apt_num.proofs.Products.{plus_sign, minus_sign}
use Rattle.apt_canon.proofs.FootPoints.Sharp.{times_dot}
use Rattle.apt_plane.specs.declared.figures.Pt.{Pt}
use Rattle.apt_plane.specs.declared.figures.Dir.{Dir}
use Rattle.apt_plane.specs.declared.figures.Surface.{Surface}
use Rattle.apt_plane.specs.declared.figures.Surface.TheVariants as surfaces
use Rattle.apt_plane.specs.Vectors.{displacement, dot, length_squared}
use Rattle.apt_plane.specs.Ranges.{IsSense}
use Rattle.apt_plane.proofs.Displacements.{step_part}
use Rattle.apt_offset.specs.Turns.{tangent, opposite}
use Rattle.apt_stop.specs.Nearness.{heading}
use Rattle.apt_certify.specs.Legs.{IsStep}
use Rattle.apt_meaning.specs.declared.motion.Motion.{Motion}
use Rattle.apt_meaning.specs.Records.{LeadsOn, GoesOn}

-- ---- along the last segment

-- u is the way from the centre to where the step begins, v to where it ends
along_circle : (s ux uy vx vy : ℤ) → ((s *ℤ neg_ℤ vy) *ℤ (vx -ℤ ux)) +ℤ ((s *ℤ vx) *ℤ (vy -ℤ uy)) ≡ s *ℤ ((ux *ℤ vy) -ℤ (uy *ℤ vx))
along_circle s ux uy vx vy = rw (as_diff s, as_diff ux, as_diff uy, as_diff vx, as_diff vy) (simp differences (diff-same _ _ _ _ (omega arith)))

leads_on : (drive : Surface) (sense : ℤ) (start a b : Pt) → IsStep drive sense start a b → pos 0 <ℤ dot (heading sense (tangent drive b)) (displacement a b)
leads_on (surfaces.Line l) sense start a b step = rw (times_dot sense l.dir.dx l.dir.dy (b.x -ℤ a.x) (b.y -ℤ a.y)) step
leads_on (surfaces.Circ c) sense start a b step =
    rw (step_part c.c.x a.x b.x, step_part c.c.y a.y b.y, along_circle sense (a.x -ℤ c.c.x) (a.y -ℤ c.c.y) (b.x -ℤ c.c.x) (b.y -ℤ c.c.y)) step.0

pub forward_leads_on : (forward : Dir) (m : Motion) (end : Pt) → forward ≡ heading m.sense (tangent m.drive end) → LeadsOn m end forward
forward_leads_on forward m end e start a step = rw e (leads_on m.drive m.sense start a end step)

-- ---- against the drive surface

against : (s dx dy : ℤ) → ((s *ℤ dx) *ℤ dx) +ℤ ((s *ℤ dy) *ℤ dy) ≡ s *ℤ ((dx *ℤ dx) +ℤ (dy *ℤ dy))
against s dx dy = times_dot s dx dy dx dy

length_dot : (d : Dir) → dot d d ≡ pos (length_squared d)
length_dot d = omega (arith, ints, size_square d.dx, size_square d.dy)

sign_along : (s : ℤ) (n : ℕ) → IsSense s → 1 ≤ n → sign_of (s *ℤ pos n) ≡ sign_of s
sign_along s n (inl e) some = rw e (plus_sign (pos 1 *ℤ pos n) (omega (arith, ints)))
sign_along s n (inr e) some = rw e (minus_sign (negsuc 0 *ℤ pos n) (omega (arith, ints)))

runs_on : (s : ℤ) (t : Dir) → IsSense s → 1 ≤ length_squared t → sign_of (dot (heading s t) t) ≡ sign_of s
runs_on s t is some = rw (against s t.dx t.dy, length_dot t) (sign_along s (length_squared t) is some)

pub forward_goes_on : (forward : Dir) (m : Motion) (end : Pt) → IsSense m.sense → forward ≡ heading m.sense (tangent m.drive end) → GoesOn m end forward
forward_goes_on forward m end is e some =
    let same = runs_on m.sense (tangent m.drive end) is some in
    rw e (same, ap opposite same)
