-- The meeting point of two moved lines is at most one unit from each of them.
use Rattle.std.proofs.Common.{◌≡◌, ◌≢◌, ◌^◌, ◌≤◌, ◌∙◌, ap, arith, ℤ, pos, neg_ℤ, ◌+ℤ◌, ◌-ℤ◌, ◌*ℤ◌, unsigned_abs}
use Rattle.apt_num.proofs.Ring.{as_diff, diff-pos, diff-same, differences}
use Rattle.apt_plane.specs.declared.figures.Line.{Line}
use Rattle.apt_plane.specs.Vectors.{displacement, cross}
use Rattle.apt_plane.specs.Ranges.{IsLine}
use Rattle.apt_plane.proofs.Displacements.{cross_self, cross_swap, cross_minus}
use Rattle.apt_plane.proofs.Rounding.{near_displacement, moved}
use Rattle.apt_canon.specs.Scale.{unit, length_of, IsNearLine}
use Rattle.apt_canon.specs.Meeting.{meeting_displacement, meeting_point}
use Rattle.apt_canon.proofs.Products.{units_not_zero}
use Rattle.apt_canon.proofs.Ways.{height_at_first, height_at_second}
use Rattle.apt_canon.proofs.LineMeetings.Near.{near_line}

first_only : (d x y : ℤ) → (d *ℤ x) -ℤ (pos 0 *ℤ y) ≡ d *ℤ x
first_only d x y = rw (as_diff d, as_diff x, as_diff y, diff-pos 0) (simp differences (diff-same _ _ _ _ (omega arith)))

second_only : (d x y : ℤ) → (pos 0 *ℤ x) -ℤ (neg_ℤ d *ℤ y) ≡ d *ℤ y
second_only d x y = rw (as_diff d, as_diff x, as_diff y, diff-pos 0) (simp differences (diff-same _ _ _ _ (omega arith)))

-- the heights of the way above both directions
pub displacement_above_first : (a b : Line) (ha hb : ℤ) → cross a.dir (meeting_displacement a ha b hb) ≡ cross a.dir b.dir *ℤ (ha *ℤ length_of a.dir)
displacement_above_first a b ha hb =
    let first = ha *ℤ length_of a.dir in
    let second = (hb *ℤ length_of b.dir) -ℤ (cross b.dir (displacement b.base a.base) *ℤ unit) in
    cross_minus a.dir b.dir a.dir first second ∙ rw (cross_self a.dir) (first_only (cross a.dir b.dir) first second)

pub displacement_above_second : (a b : Line) (ha hb : ℤ)
    → cross b.dir (meeting_displacement a ha b hb) ≡ cross a.dir b.dir *ℤ ((hb *ℤ length_of b.dir) -ℤ (cross b.dir (displacement b.base a.base) *ℤ unit))
displacement_above_second a b ha hb =
    let first = ha *ℤ length_of a.dir in
    let second = (hb *ℤ length_of b.dir) -ℤ (cross b.dir (displacement b.base a.base) *ℤ unit) in
    cross_minus b.dir b.dir a.dir first second ∙ rw (cross_self b.dir, cross_swap a.dir b.dir) (second_only (cross a.dir b.dir) first second)

shift_parts : (d u c k e : ℤ) → (d *ℤ u) *ℤ (c +ℤ k) ≡ ((d *ℤ u) *ℤ k) +ℤ (d *ℤ (c *ℤ u))
shift_parts d u c k e = rw (as_diff d, as_diff u, as_diff c, as_diff k) (simp differences (diff-same _ _ _ _ (omega arith)))

cancel_parts : (d u c e rest : ℤ) → ((d *ℤ (e -ℤ (c *ℤ u))) +ℤ rest) +ℤ (d *ℤ (c *ℤ u)) ≡ (d *ℤ e) +ℤ rest
cancel_parts d u c e rest = rw (as_diff d, as_diff u, as_diff c, as_diff e, as_diff rest) (simp differences (diff-same _ _ _ _ (omega arith)))

split_height : (d u c k e rest : ℤ) → (d *ℤ u) *ℤ k ≡ (d *ℤ (e -ℤ (c *ℤ u))) +ℤ rest → (d *ℤ u) *ℤ (c +ℤ k) ≡ (d *ℤ e) +ℤ rest
split_height d u c k e rest h = shift_parts d u c k e ∙ rw h (cancel_parts d u c e rest)

near_first : (a b : Line) (ha hb : ℤ) → IsLine a → unsigned_abs ha ≤ 10 ^ 8 → cross a.dir b.dir ≢ pos 0
    → IsNearLine a ha (pos 1) (meeting_point a ha b hb)
near_first a b ha hb is small apart =
    let turn = cross a.dir b.dir in
    let u = meeting_displacement a ha b hb in
    let m = turn *ℤ unit in
    let rounded = moved a.dir u m (units_not_zero turn apart) in
    let v = near_displacement u m in
    let height : m *ℤ cross a.dir v ≡ (turn *ℤ (ha *ℤ length_of a.dir)) +ℤ rounded.0 = rounded.1 ∙ ap (λ z. z +ℤ rounded.0) (displacement_above_first a b ha hb) in
    rw (height_at_first a.dir a.base v) (near_line a.dir turn (cross a.dir v) ha rounded.0 is.dir apart small height rounded.2)

near_second : (a b : Line) (ha hb : ℤ) → IsLine b → unsigned_abs hb ≤ 10 ^ 8 → cross a.dir b.dir ≢ pos 0
    → IsNearLine b hb (pos 1) (meeting_point a ha b hb)
near_second a b ha hb is small apart =
    let turn = cross a.dir b.dir in
    let u = meeting_displacement a ha b hb in
    let m = turn *ℤ unit in
    let c = cross b.dir (displacement b.base a.base) in
    let rounded = moved b.dir u m (units_not_zero turn apart) in
    let v = near_displacement u m in
    let above : m *ℤ cross b.dir v ≡ (turn *ℤ ((hb *ℤ length_of b.dir) -ℤ (c *ℤ unit))) +ℤ rounded.0 = rounded.1 ∙ ap (λ z. z +ℤ rounded.0) (displacement_above_second a b ha hb) in
    let height = split_height turn unit c (cross b.dir v) (hb *ℤ length_of b.dir) rounded.0 above in
    rw (height_at_second b.dir a.base b.base v) (near_line b.dir turn (c +ℤ cross b.dir v) hb rounded.0 is.dir apart small height rounded.2)

pub meeting_point-near : (a b : Line) (ha hb : ℤ) → IsLine a → IsLine b → unsigned_abs ha ≤ 10 ^ 8 → unsigned_abs hb ≤ 10 ^ 8 → cross a.dir b.dir ≢ pos 0
    → IsNearLine a ha (pos 1) (meeting_point a ha b hb) × IsNearLine b hb (pos 1) (meeting_point a ha b hb)
meeting_point-near a b ha hb is_a is_b small_a small_b apart = (near_first a b ha hb is_a small_a apart, near_second a b ha hb is_b small_b apart)

-- and so is a point of the same parts
pub parts-near : (a b : Line) (ha hb x y : ℤ) → IsLine a → IsLine b → unsigned_abs ha ≤ 10 ^ 8 → unsigned_abs hb ≤ 10 ^ 8 → cross a.dir b.dir ≢ pos 0
    → x ≡ (meeting_point a ha b hb).x → y ≡ (meeting_point a ha b hb).y
    → IsNearLine a ha (pos 1) (record { x = x; y = y }) × IsNearLine b hb (pos 1) (record { x = x; y = y })
parts-near a b ha hb x y is_a is_b small_a small_b apart ex ey = rw (ex, ey) (meeting_point-near a b ha hb is_a is_b small_a small_b apart)
