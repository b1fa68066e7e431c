-- Cross products in the sense of a turn, and of four directions with each other.
use Rattle.std.proofs.Common.{refl, ◌≡◌, inl, inr, ◌∙◌, ap, arith, ℤ, pos, negsuc, neg_ℤ, ◌+ℤ◌, ◌-ℤ◌, ◌*ℤ◌, ◌<ℤ◌, unsigned_abs}
use Rattle.std.proofs.lemmas.Int.{ints}
use Rattle.apt_num.proofs.Ring.{as_diff, diff-same, differences, *ℤ-neg, neg-*ℤ-neg}
use Rattle.apt_num.proofs.Squares.{size_neg}
use Rattle.apt_plane.specs.declared.figures.Dir.{Dir}
use Rattle.apt_plane.specs.Vectors.{cross, dot, length_squared, perp}
use Rattle.apt_plane.specs.Ranges.{IsDir, IsSense}
use Rattle.apt_plane.proofs.Heights.{one-times}
use Rattle.apt_plane.proofs.Displacements.{square_length_squared, cross_swap}

-- positive where v lies up to a half turn from u in the sense
abbrev pub turned_by : ℤ → Dir → Dir → ℤ
turned_by sense u v = sense *ℤ cross u v

pub minus-times : (z : ℤ) → negsuc 0 *ℤ z ≡ neg_ℤ z
minus-times z = omega (arith, ints)

-- the sense does not count in a product
pub sense_twice : (sense x y : ℤ) → IsSense sense → (sense *ℤ x) *ℤ (sense *ℤ y) ≡ x *ℤ y
sense_twice sense x y (inl e) = rw (e, one-times x, one-times y) refl
sense_twice sense x y (inr e) = rw (e, minus-times x, minus-times y) (neg-*ℤ-neg x y)

pub turned_back : (sense : ℤ) (u v : Dir) → turned_by sense v u ≡ neg_ℤ (turned_by sense u v)
turned_back sense u v = ap (λ z. sense *ℤ z) (cross_swap u v) ∙ *ℤ-neg sense (cross u v)

pub back_plus : (sense : ℤ) (u v : Dir) → turned_by sense u v <ℤ pos 0 → pos 0 <ℤ turned_by sense v u
back_plus sense u v h = rw (turned_back sense u v) (omega (arith, ints, h))

pub size_sense : (sense z : ℤ) → IsSense sense → unsigned_abs (sense *ℤ z) ≡ unsigned_abs z
size_sense sense z (inl e) = rw (e, one-times z) refl
size_sense sense z (inr e) = rw (e, minus-times z) (size_neg z)

pub sense_back : (sense : ℤ) → IsSense sense → IsSense (neg_ℤ sense)
sense_back sense (inl e) = inr (rw e refl)
sense_back sense (inr e) = inl (rw e refl)

-- in the other sense
pub turned_other : (sense : ℤ) (u v : Dir) → turned_by (neg_ℤ sense) v u ≡ turned_by sense u v
turned_other sense u v = ap (λ z. neg_ℤ sense *ℤ z) (cross_swap u v) ∙ neg-*ℤ-neg sense (cross u v)

-- ---- four directions
plucker_parts : (a b c d e f g h : ℤ) → (((a *ℤ d) -ℤ (b *ℤ c)) *ℤ ((e *ℤ h) -ℤ (f *ℤ g))) +ℤ (((e *ℤ b) -ℤ (f *ℤ a)) *ℤ ((c *ℤ h) -ℤ (d *ℤ g)))
    ≡ ((g *ℤ b) -ℤ (h *ℤ a)) *ℤ ((c *ℤ f) -ℤ (d *ℤ e))
plucker_parts a b c d e f g h =
    rw (as_diff a, as_diff b, as_diff c, as_diff d, as_diff e, as_diff f, as_diff g, as_diff h) (simp differences (diff-same _ _ _ _ (omega arith)))

pub plucker : (s u v w : Dir) → (cross s u *ℤ cross v w) +ℤ (cross v s *ℤ cross u w) ≡ cross w s *ℤ cross u v
plucker s u v w = plucker_parts s.dx s.dy u.dx u.dy v.dx v.dy w.dx w.dy

pub plucker_turned : (sense : ℤ) (s u v w : Dir) → IsSense sense
    → (turned_by sense s u *ℤ turned_by sense v w) +ℤ (turned_by sense v s *ℤ turned_by sense u w) ≡ turned_by sense w s *ℤ turned_by sense u v
plucker_turned sense s u v w is =
    rw (sense_twice sense (cross s u) (cross v w) is, sense_twice sense (cross v s) (cross u w) is, sense_twice sense (cross w s) (cross u v) is) (plucker s u v w)

split_parts : (a b c d e f g h : ℤ) → (((a *ℤ d) -ℤ (b *ℤ c)) *ℤ ((e *ℤ h) -ℤ (f *ℤ g))) +ℤ (((a *ℤ h) -ℤ (b *ℤ g)) *ℤ ((c *ℤ f) -ℤ (d *ℤ e)))
    ≡ ((a *ℤ f) -ℤ (b *ℤ e)) *ℤ ((c *ℤ h) -ℤ (d *ℤ g))
split_parts a b c d e f g h =
    rw (as_diff a, as_diff b, as_diff c, as_diff d, as_diff e, as_diff f, as_diff g, as_diff h) (simp differences (diff-same _ _ _ _ (omega arith)))

pub split_turned : (sense : ℤ) (s a m b : Dir) → IsSense sense
    → (turned_by sense s a *ℤ turned_by sense m b) +ℤ (turned_by sense s b *ℤ turned_by sense a m) ≡ turned_by sense s m *ℤ turned_by sense a b
split_turned sense s a m b is =
    rw (sense_twice sense (cross s a) (cross m b) is, sense_twice sense (cross s b) (cross a m) is, sense_twice sense (cross s m) (cross a b) is)
    (split_parts s.dx s.dy a.dx a.dy m.dx m.dy b.dx b.dy)

-- ---- two directions by their parts along a third and across it
frame_parts : (z a b c d e f : ℤ) → ((a *ℤ a) +ℤ (b *ℤ b)) *ℤ (z *ℤ ((c *ℤ f) -ℤ (d *ℤ e)))
    ≡ (((a *ℤ c) +ℤ (b *ℤ d)) *ℤ (z *ℤ ((a *ℤ f) -ℤ (b *ℤ e)))) -ℤ ((z *ℤ ((a *ℤ d) -ℤ (b *ℤ c))) *ℤ ((a *ℤ e) +ℤ (b *ℤ f)))
frame_parts z a b c d e f = rw (as_diff z, as_diff a, as_diff b, as_diff c, as_diff d, as_diff e, as_diff f) (simp differences (diff-same _ _ _ _ (omega arith)))

pub about_start : (sense : ℤ) (s u v : Dir) → pos (length_squared s) *ℤ turned_by sense u v ≡ (dot s u *ℤ turned_by sense s v) -ℤ (turned_by sense s u *ℤ dot s v)
about_start sense s u v = rw (square_length_squared s) (frame_parts sense s.dx s.dy u.dx u.dy v.dx v.dy)

dot_parts : (a b c d e f : ℤ) → ((a *ℤ a) +ℤ (b *ℤ b)) *ℤ ((c *ℤ e) +ℤ (d *ℤ f))
    ≡ (((a *ℤ c) +ℤ (b *ℤ d)) *ℤ ((a *ℤ e) +ℤ (b *ℤ f))) +ℤ (((a *ℤ d) -ℤ (b *ℤ c)) *ℤ ((a *ℤ f) -ℤ (b *ℤ e)))
dot_parts a b c d e f = rw (as_diff a, as_diff b, as_diff c, as_diff d, as_diff e, as_diff f) (simp differences (diff-same _ _ _ _ (omega arith)))

pub dot_about : (s u v : Dir) → pos (length_squared s) *ℤ dot u v ≡ (dot s u *ℤ dot s v) +ℤ (cross s u *ℤ cross s v)
dot_about s u v = rw (square_length_squared s) (dot_parts s.dx s.dy u.dx u.dy v.dx v.dy)

-- a quarter turn of a direction is one
pub perp_dir : (u : Dir) → IsDir u → IsDir (perp u)
perp_dir u is = record { dx = rw (size_neg u.dy) is.dy; dy = is.dx; length = rw (size_neg u.dy) (omega (arith, is.length)) }
