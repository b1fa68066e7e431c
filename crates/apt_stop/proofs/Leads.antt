-- A motion along a line that leads to a line: it runs in its sense, and stays before the far edge of its stop.
use Rattle.std.proofs.Common.{◌≡◌, ◌≢◌, ℕ, zero, suc, ◌<◌, refl, arith, ℤ, pos, negsuc, ◌+ℤ◌, ◌-ℤ◌, ◌*ℤ◌, ◌<ℤ◌, neg_ℤ, false, subst}
use Rattle.std.proofs.lemmas.Int.{ints}
use Rattle.std.proofs.lemmas.Bool.{true≢false}
use Rattle.apt_num.specs.declared.Sign.{Sign}
use Rattle.apt_num.specs.declared.Sign.TheVariants as signs
use Rattle.apt_num.specs.Sign.{AtLeast, OnLine, sign_of}
use Rattle.apt_plane.specs.declared.figures.Pt.{Pt}
use Rattle.apt_plane.specs.declared.figures.Line.{Line}
use Rattle.apt_plane.specs.Ranges.{IsSense}
use Rattle.apt_plane.specs.Vectors.{displacement, cross, dot, length_squared}
use Rattle.apt_stop.specs.Nearness.{heading}
use Rattle.apt_stop.specs.Choices.{is_same}
use Rattle.apt_num.proofs.Sums.{at_least-sum}
use Rattle.apt_stop.proofs.Approaches.{Approach, along-left, along-right, heading_cross, in_sense-left, in_sense-right}
use Rattle.apt_stop.proofs.Far.{IsFar}
use Rattle.apt_stop.proofs.Onwards.{cross_step}
use Rattle.apt_stop.proofs.Sided.{no_turn}

-- from p to x along the track f to the left of d, to the stop g to the left of e
pub record Leads (d e : Line) (f g sense : ℤ) (side : Sign) (p x : Pt) : Type 0 where
  pub drive : 0 < length_squared d.dir
  pub check : 0 < length_squared e.dir
  pub turn : IsSense sense
  pub start : OnLine (cross d.dir (displacement d.base p)) f (length_squared d.dir) (pos 3)
  pub track : OnLine (cross d.dir (displacement d.base x)) f (length_squared d.dir) (pos 1)
  pub stop : OnLine (cross e.dir (displacement e.base x)) g (length_squared e.dir) (pos 1)
  pub far : IsFar side (cross e.dir (displacement e.base p)) g (length_squared e.dir)
  pub crosses : cross e.dir d.dir ≢ pos 0
  pub ahead : is_same side (sign_of (cross e.dir (heading sense d.dir))) ≡ false

-- a bound of one height and one of another bound their difference
pub rise_at_least : (a b w h i k : ℤ) (n : ℕ) → a ≡ b +ℤ w → h +ℤ i ≡ k → AtLeast a h n → AtLeast (neg_ℤ b) i n → AtLeast w k n
rise_at_least a b w h i k n e f p q =
    let rise : a +ℤ neg_ℤ b ≡ w = omega (arith, ints, e) in
    subst (λ (z : ℤ). AtLeast z k n) rise (subst (λ (z : ℤ). AtLeast (a +ℤ neg_ℤ b) z n) f (at_least-sum a (neg_ℤ b) h i n p q))

pub fall_at_least : (a b w h i k : ℤ) (n : ℕ) → a ≡ b +ℤ w → h +ℤ i ≡ k → AtLeast (neg_ℤ a) h n → AtLeast b i n → AtLeast (neg_ℤ w) k n
fall_at_least a b w h i k n e f p q =
    let fall : neg_ℤ a +ℤ b ≡ neg_ℤ w = omega (arith, ints, e) in
    subst (λ (z : ℤ). AtLeast z k n) fall (subst (λ (z : ℤ). AtLeast (neg_ℤ a +ℤ b) z n) f (at_least-sum (neg_ℤ a) b h i n p q))

Leads-Approach : (d e : Line) (f g sense : ℤ) (side : Sign) (p x : Pt) → Leads d e f g sense side p x → Approach d.dir e.dir (displacement p x)
Leads-Approach d e f g sense side p x is =
    let rise = cross_step d.dir d.base p x in record {
      track = is.drive;
      stop = is.check;
      left = rise_at_least _ _ _ (f -ℤ pos 1) (neg_ℤ f -ℤ pos 3) (negsuc 3) (length_squared d.dir) rise (omega (arith, ints)) is.track.right is.start.left;
      right = fall_at_least _ _ _ (neg_ℤ f -ℤ pos 1) (f -ℤ pos 3) (negsuc 3) (length_squared d.dir) rise (omega (arith, ints)) is.track.left is.start.right;
    }

-- the motion heads away from the start's side
heads_right : (m : ℤ) → is_same signs.Plus (sign_of m) ≡ false → m ≢ pos 0 → m <ℤ pos 0
heads_right (pos zero) e d = absurd (d refl)
heads_right (pos (suc m)) e d = absurd (true≢false e)
heads_right (negsuc m) e d = omega (arith, ints)

heads_left : (m : ℤ) → is_same signs.Minus (sign_of m) ≡ false → m ≢ pos 0 → pos 0 <ℤ m
heads_left (pos zero) e d = absurd (d refl)
heads_left (pos (suc m)) e d = omega (arith, ints)
heads_left (negsuc m) e d = absurd (true≢false e)

-- it runs in its sense
pub runs_in_sense : (d e : Line) (f g sense : ℤ) (side : Sign) (p x : Pt) → Leads d e f g sense side p x → pos 0 <ℤ (sense *ℤ dot d.dir (displacement p x))
runs_in_sense d e f g sense signs.Plus p x is =
    let fall = fall_at_least _ _ _ (neg_ℤ g -ℤ pos 1) (g +ℤ pos 8) (pos 7) (length_squared e.dir) (cross_step e.dir e.base p x) (omega (arith, ints)) is.stop.left is.far in
    let turned : is_same signs.Plus (sign_of (sense *ℤ cross e.dir d.dir)) ≡ false = rw (← heading_cross sense d.dir e.dir) is.ahead in
    in_sense-right sense (dot d.dir (displacement p x)) (cross e.dir d.dir) is.turn
    (along-right d.dir e.dir (displacement p x) (Leads-Approach d e f g sense signs.Plus p x is) fall)
    (heads_right (sense *ℤ cross e.dir d.dir) turned (λ z. is.crosses (no_turn sense (cross e.dir d.dir) is.turn z)))
runs_in_sense d e f g sense signs.Minus p x is =
    let rise = rise_at_least _ _ _ (g -ℤ pos 1) (neg_ℤ g +ℤ pos 8) (pos 7) (length_squared e.dir) (cross_step e.dir e.base p x) (omega (arith, ints)) is.stop.right is.far in
    let turned : is_same signs.Minus (sign_of (sense *ℤ cross e.dir d.dir)) ≡ false = rw (← heading_cross sense d.dir e.dir) is.ahead in
    in_sense-left sense (dot d.dir (displacement p x)) (cross e.dir d.dir) is.turn
    (along-left d.dir e.dir (displacement p x) (Leads-Approach d e f g sense signs.Minus p x is) rise)
    (heads_left (sense *ℤ cross e.dir d.dir) turned (λ z. is.crosses (no_turn sense (cross e.dir d.dir) is.turn z)))
runs_in_sense d e f g sense signs.Zero p x is = absurd is.far
