-- A motion along a line to where it meets another: it leads onwards, and keeps to its side of it.
use Rattle.std.proofs.Common.{refl, ◌≡◌, arith, false, ℤ, pos, ◌+ℤ◌, ◌-ℤ◌, ◌<ℤ◌, neg_ℤ}
use Rattle.std.proofs.lemmas.Int.{ints}
use Rattle.apt_num.specs.declared.Sign.{Sign}
use Rattle.apt_num.specs.declared.Sign.TheVariants as signs
use Rattle.apt_num.specs.Sign.{OnLine, root_sign_of}
use Rattle.apt_num.proofs.Sums.{at_least-weaker}
use Rattle.apt_plane.specs.declared.figures.Pt.{Pt}
use Rattle.apt_plane.specs.declared.figures.Dir.{Dir}
use Rattle.apt_plane.specs.Vectors.{displacement, cross, dot, length_squared}
use Rattle.apt_plane.specs.Distances.{EveryPoint}
use Rattle.apt_plane.proofs.SegmentLaws.{above-between, below-between, above_at, below_at}
use Rattle.apt_offset.specs.declared.Target.TheVariants as targets
use Rattle.apt_contact.specs.Meetings.{line_on}
use Rattle.apt_stop.specs.Nearness.{heading, is_near, near_stop, side_of}
use Rattle.apt_stop.specs.Ends.{IsKept}
use Rattle.apt_stop.proofs.Far.{IsFar, far_on_side}
use Rattle.apt_stop.proofs.Leads.{Leads, runs_in_sense}
use Rattle.apt_stop.proofs.Tracks.{heading_dot}

-- both ends are at most 8 units past the line, and so is every point
pub keeps_line : (e : Pt) (f : Dir) (g : ℤ) (side : Sign) (p q : Pt) → IsFar side (cross f (displacement e p)) g (length_squared f)
    → OnLine (cross f (displacement e q)) g (length_squared f) (pos 1) → EveryPoint p q (IsKept (targets.Line e f g) near_stop side)
keeps_line e f g signs.Plus p q far on = λ j k some.
    above-between (line_on e f) (g -ℤ pos 8) p q j k
    (above_at (line_on e f) (g -ℤ pos 8) p (at_least-weaker _ (g +ℤ pos 8) _ (length_squared f) (omega (arith, ints)) far))
    (above_at (line_on e f) (g -ℤ pos 8) q (at_least-weaker _ (g -ℤ pos 1) _ (length_squared f) (omega (arith, ints)) on.right))
keeps_line e f g signs.Minus p q far on = λ j k some.
    below-between (line_on e f) (g +ℤ pos 8) p q j k
    (below_at (line_on e f) (g +ℤ pos 8) _ p refl (at_least-weaker _ (neg_ℤ g +ℤ pos 8) _ (length_squared f) (omega (arith, ints)) far))
    (below_at (line_on e f) (g +ℤ pos 8) _ q refl (at_least-weaker _ (neg_ℤ g -ℤ pos 1) _ (length_squared f) (omega (arith, ints)) on.left))
keeps_line e f g signs.Zero p q far on = absurd far

pub leads_to_line : (b : Pt) (d : Dir) (e : Pt) (f : Dir) (h g sense : ℤ) (side : Sign) (p q : Pt) → Leads (line_on b d) (line_on e f) h g sense side p q
    → pos 0 <ℤ dot (heading sense d) (displacement p q)
leads_to_line b d e f h g sense side p q is = rw (heading_dot sense d (displacement p q)) (runs_in_sense (line_on b d) (line_on e f) h g sense side p q is)

-- the start's side, by the tests
pub far_by : (e : Pt) (f : Dir) (g : ℤ) (p : Pt) → is_near (targets.Line e f g) near_stop p ≡ false
    → IsFar (side_of (targets.Line e f g) p) (cross f (displacement e p)) g (length_squared f)
far_by e f g p far = far_on_side (root_sign_of (cross f (displacement e p)) g (length_squared f)) (cross f (displacement e p)) g (length_squared f) refl far
