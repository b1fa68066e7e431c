-- A motion along a track in a sense: the products with its heading, and how far it leads sideways.
use Rattle.std.proofs.Common.{refl, ◌≡◌, ◌≢◌, inl, inr, ◌+◌, ◌*◌, ◌≤◌, ◌<◌, ◌∙◌, ap, arith, ℤ, pos, negsuc, neg_ℤ, ◌-ℤ◌, ◌*ℤ◌, unsigned_abs}
use Rattle.std.proofs.lemmas.Int.{ints}
use Rattle.apt_num.specs.declared.Sign.{Sign}
use Rattle.apt_num.specs.declared.Sign.TheVariants as signs
use Rattle.apt_num.specs.Sign.{OnLine, square}
use Rattle.apt_num.proofs.Ring.{as_diff, diff-same, differences}
use Rattle.apt_canon.proofs.FootPoints.Sharp.{times_dot}
use Rattle.apt_plane.specs.declared.figures.Pt.{Pt}
use Rattle.apt_plane.specs.declared.figures.Dir.{Dir}
use Rattle.apt_plane.specs.Ranges.{IsSense}
use Rattle.apt_plane.specs.Vectors.{displacement, cross, dot, length_squared}
use Rattle.apt_plane.proofs.Turned.{size_sense}
use Rattle.apt_offset.specs.Targets.{signed}
use Rattle.apt_stop.specs.Nearness.{heading}
use Rattle.apt_stop.proofs.Approaches.{at_most_four}
use Rattle.apt_stop.proofs.Leads.{rise_at_least, fall_at_least}
use Rattle.apt_stop.proofs.Onwards.{Runs, cross_step}

cross_parts : (s a b p q : ℤ) → ((s *ℤ a) *ℤ q) -ℤ ((s *ℤ b) *ℤ p) ≡ s *ℤ ((a *ℤ q) -ℤ (b *ℤ p))
cross_parts s a b p q = rw (as_diff s, as_diff a, as_diff b, as_diff p, as_diff q) (simp differences (diff-same _ _ _ _ (omega arith)))

pub heading_dot : (sense : ℤ) (d v : Dir) → dot (heading sense d) v ≡ sense *ℤ dot d v
heading_dot sense d v = times_dot sense d.dx d.dy v.dx v.dy

pub heading_turn : (sense : ℤ) (d v : Dir) → cross (heading sense d) v ≡ sense *ℤ cross d v
heading_turn sense d v = cross_parts sense d.dx d.dy v.dx v.dy

pub heading_length : (sense : ℤ) (d : Dir) → IsSense sense → length_squared (heading sense d) ≡ length_squared d
heading_length sense d is =
    ap (λ m. m * m + unsigned_abs (sense *ℤ d.dy) * unsigned_abs (sense *ℤ d.dy)) (size_sense sense d.dx is) ∙ ap (λ m. unsigned_abs d.dx * unsigned_abs d.dx + m * m) (size_sense sense d.dy is)

-- from a start at most 3 units off the track to an end at most one unit off
pub track_sideways : (b : Pt) (d : Dir) (h : ℤ) (p q : Pt) → OnLine (cross d (displacement b p)) h (length_squared d) (pos 3) → OnLine (cross d (displacement b q)) h (length_squared d) (pos 1)
    → square (cross d (displacement p q)) ≤ 16 * length_squared d
track_sideways b d h p q start end =
    let rise = cross_step d b p q in
    at_most_four (cross d (displacement p q)) (length_squared d)
    (rise_at_least _ _ _ (h -ℤ pos 1) (neg_ℤ h -ℤ pos 3) (negsuc 3) (length_squared d) rise (omega (arith, ints)) end.right start.left)
    (fall_at_least _ _ _ (neg_ℤ h -ℤ pos 1) (h -ℤ pos 3) (negsuc 3) (length_squared d) rise (omega (arith, ints)) end.left start.right)

pub track_runs : (b : Pt) (d : Dir) (h sense : ℤ) (p q : Pt) → IsSense sense → 0 < length_squared d
    → OnLine (cross d (displacement b p)) h (length_squared d) (pos 3) → OnLine (cross d (displacement b q)) h (length_squared d) (pos 1) → Runs (heading sense d) p q
track_runs b d h sense p q is some start end = record {
  heading = rw (heading_length sense d is) some;
  across = rw (heading_length sense d is, heading_turn sense d (displacement p q), size_sense sense (cross d (displacement p q)) is) (track_sideways b d h p q start end);
}

-- a side turns a sense
pub sense_to : (side : Sign) (sense : ℤ) → side ≢ signs.Zero → IsSense sense → IsSense (signed side sense)
sense_to signs.Plus sense some is = is
sense_to signs.Zero sense some is = absurd (some refl)
sense_to signs.Minus sense some (inl e) = inr (rw e refl)
sense_to signs.Minus sense some (inr e) = inl (rw e refl)
