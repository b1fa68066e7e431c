-- The end of a motion round a circle that touches: on its axis, on the half, and not in the direction of the start.
use Rattle.std.proofs.Common.{refl, ◌≡◌, ◌≢◌, ◌∙◌, sym, inl, inr, ℕ, zero, suc, ◌*◌, ◌≤◌, ◌<◌, arith, true, false, ◌&&◌, ℤ, pos, negsuc, neg_ℤ, ◌*ℤ◌, ◌<ℤ◌}
use Rattle.std.proofs.lemmas.Int.{ints}
use Rattle.std.proofs.lemmas.Bool.{and_cases, true≢false}
use Rattle.apt_num.specs.declared.Sign.{Sign}
use Rattle.apt_num.specs.declared.Sign.TheVariants as signs
use Rattle.apt_num.specs.Sign.{OnLine, square, sign_of}
use Rattle.apt_num.proofs.Products.{both_plus, plus_of}
use Rattle.apt_num.proofs.Ring.{neg-*ℤ, *ℤ-neg}
use Rattle.apt_plane.specs.declared.figures.Pt.{Pt}
use Rattle.apt_plane.specs.declared.figures.Dir.{Dir}
use Rattle.apt_plane.specs.declared.figures.Axis.{Axis}
use Rattle.apt_plane.specs.Ranges.{IsSense, IsDir}
use Rattle.apt_plane.specs.Vectors.{displacement, cross, dot, length_squared}
use Rattle.apt_plane.specs.Axes.{IsOnHalf, IsOnAxis}
use Rattle.apt_plane.proofs.Displacements.{cross_swap, dot_swap}
use Rattle.apt_plane.proofs.Turned.{size_sense}
use Rattle.apt_canon.specs.Scale.{times}
use Rattle.apt_canon.proofs.FootPoints.Sharp.{ray_across, ray_forward}
use Rattle.apt_offset.specs.declared.Target.TheVariants as targets
use Rattle.apt_offset.specs.Targets.{signed}
use Rattle.apt_offset.specs.Ranges.{IsCircleTarget}
use Rattle.apt_contact.specs.Meetings.{circle_about}
use Rattle.apt_stop.specs.Choices.{is_same, is_by_axis, touches_on}
use Rattle.apt_stop.proofs.Touching.{within_eight, neg_square}
use Rattle.apt_stop.proofs.Tracks.{heading_dot, heading_turn, heading_length}
use Rattle.apt_stop.proofs.OnRounds.{half_sense, turned_dir}
use Rattle.apt_stop.proofs.OneWay.{AreOneWay, Rounds}
use Rattle.apt_stop.proofs.Aside.{dot_on, cross_on, not_hardly, far_aside}

-- the way e from the centre lies along an axis, on a half of it
pub record LiesOnAxis (along : Dir) (half : Sign) (e : Dir) : Type 0 where
  pub across : 2 * square (cross along e) ≤ length_squared along
  pub onwards : pos 0 <ℤ (signed half (pos 1) *ℤ dot along e)

unturned : (turn : ℤ) (along e : Dir) → IsSense turn → 2 * square (cross (times turn along) e) ≤ length_squared (times turn along) → pos 0 <ℤ dot (times turn along) e
    → (2 * square (cross along e) ≤ length_squared along) × (pos 0 <ℤ (turn *ℤ dot along e))
unturned turn along e sense off forward =
    (rw (heading_turn turn along e, size_sense turn (cross along e) sense, heading_length turn along sense) at off, rw (heading_dot turn along e) at forward)

pub ray_is : (o : Pt) (r : ℤ) (a : Axis) → IsCircleTarget o r → IsDir a.along → a.half ≢ signs.Zero → LiesOnAxis a.along a.half (displacement o (touches_on (targets.Circ o r) a))
ray_is o r a is dir some =
    let turn = signed a.half (pos 1) in
    let sense = half_sense a.half some in
    let u = times turn a.along in
    let e = displacement o (touches_on (targets.Circ o r) a) in
    let dir_u = turned_dir turn a.along sense dir in
    let both = unturned turn a.along e sense (ray_across (circle_about o r) u dir_u) (ray_forward (circle_about o r) u (omega (arith, ints, is.least)) dir_u) in
    record { across = both.0; onwards = both.1 }

-- ---- on the axis, and on its half
on_half : (half : Sign) (k : ℤ) → half ≢ signs.Zero → pos 0 <ℤ (signed half (pos 1) *ℤ k) → IsOnHalf half k
on_half signs.Plus k some h = omega (arith, ints, h)
on_half signs.Zero k some h = absurd (some refl)
on_half signs.Minus k some h = omega (arith, ints, h)

by_axis : (k : ℤ) (n : ℕ) → 2 * square k ≤ n → OnLine k (pos 0) n (pos 8)
by_axis k n h = record { right = within_eight k n h; left = within_eight (neg_ℤ k) n (rw (neg_square k) h) }

pub ray_on_axis : (a : Axis) (q : Pt) → a.half ≢ signs.Zero → LiesOnAxis a.along a.half (displacement a.through q) → IsOnAxis a q
ray_on_axis a q some is =
    (by_axis (cross a.along (displacement a.through q)) (length_squared a.along) is.across, on_half a.half (dot a.along (displacement a.through q)) some is.onwards)

-- ---- where the start lies in the direction of the end, it is on the same half
back_way : (s e : Dir) → AreOneWay s e → AreOneWay e s
back_way s e is = record { across = none (cross s e) (cross e s) (cross_swap s e) is.across; along = rw (← dot_swap s e) is.along }
  where
    none : (x y : ℤ) → y ≡ neg_ℤ x → x ≡ pos 0 → y ≡ pos 0
    none x y e f = omega (arith, ints, e, f)

same_half : (half : Sign) (n : ℕ) (k l d : ℤ) → half ≢ signs.Zero → pos n *ℤ k ≡ l *ℤ d → pos 0 <ℤ d → pos 0 <ℤ (signed half (pos 1) *ℤ l) → is_same half (sign_of k) ≡ true
same_half signs.Plus n k l d some e ahead onwards =
    let up : pos 0 <ℤ (pos n *ℤ k) = rw e (both_plus l d (omega (arith, ints, onwards)) ahead) in
    plus_same k (plus_of n k up)
  where
    plus_same : (k : ℤ) → pos 0 <ℤ k → is_same signs.Plus (sign_of k) ≡ true
    plus_same (pos zero) h = absurd (omega (arith, ints, h))
    plus_same (pos (suc k)) h = refl
    plus_same (negsuc k) h = absurd (omega (arith, ints, h))
same_half signs.Zero n k l d some e ahead onwards = absurd (some refl)
same_half signs.Minus n k l d some e ahead onwards =
    let up : pos 0 <ℤ (pos n *ℤ neg_ℤ k) = turned_up n k l d e (both_plus (neg_ℤ l) d (omega (arith, ints, onwards)) ahead) in
    minus_same k (plus_of n (neg_ℤ k) up)
  where
    turned_up : (n : ℕ) (k l d : ℤ) → pos n *ℤ k ≡ l *ℤ d → pos 0 <ℤ (neg_ℤ l *ℤ d) → pos 0 <ℤ (pos n *ℤ neg_ℤ k)
    turned_up n k l d e h = rw (*ℤ-neg (pos n) k, e, ← neg-*ℤ l d) h

    minus_same : (k : ℤ) → pos 0 <ℤ neg_ℤ k → is_same signs.Minus (sign_of k) ≡ true
    minus_same (pos k) h = absurd (omega (arith, ints, h))
    minus_same (negsuc k) h = refl

-- so it is far from the axis, where the stop is not behind
pub ray_apart : (o : Pt) (r : ℕ) (p q : Pt) (along : Dir) (half : Sign) → Rounds o r p q → 0 < length_squared along → half ≢ signs.Zero → LiesOnAxis along half (displacement o q)
    → (is_by_axis (cross along (displacement o p)) (length_squared along) && is_same half (sign_of (dot along (displacement o p)))) ≡ false
    → AreOneWay (displacement o p) (displacement o q) → ⊥
ray_apart o r p q along half is some there ray past way =
    let s = displacement o p in
    let e = displacement o q in
    elim (and_cases (is_by_axis (cross along s) (length_squared along)) (is_same half (sign_of (dot along s))) past) [
      | inl far ↦ not_hardly o r p q (cross along s) (cross along e) (length_squared along) is way some (far_aside (cross along s) (length_squared along) far) (cross_on s e along way) ray.across
      | inr other ↦
          let back = back_way s e way in
          true≢false (sym (same_half half (length_squared e) (dot along s) (dot e along) (dot e s) there (dot_on e s along back) back.along (rw (dot_swap e along) ray.onwards)) ∙ other)
    ]
