-- Lengths, cross products and dot products of ways that are given along a direction and to its left.
use Rattle.std.proofs.Common.{◌≡◌, ◌+◌, ◌*◌, ◌∙◌, sym, arith, ℤ, pos, ◌+ℤ◌, ◌*ℤ◌, ◌-ℤ◌, neg_ℤ, unsigned_abs}
use Rattle.std.proofs.lemmas.Int.{ints}
use Rattle.apt_num.proofs.Ring.{as_diff, diff-same, differences}
use Rattle.apt_num.proofs.Squares.{size_square}
use Rattle.apt_plane.specs.declared.figures.Dir.{Dir}
use Rattle.apt_plane.specs.Vectors.{cross, dot, length_squared, perp}
use Rattle.apt_plane.proofs.Displacements.{square_length_squared, cross_turn}
use Rattle.apt_plane.proofs.Lengths.{plus, times}

-- x along a direction, and y to its left
abbrev pub in_frame : Dir → ℤ → ℤ → Dir
in_frame d x y = plus (times x d) (times y (perp d))

frame_square : (a b x y : ℤ) → (((x *ℤ a) +ℤ (y *ℤ neg_ℤ b)) *ℤ ((x *ℤ a) +ℤ (y *ℤ neg_ℤ b))) +ℤ (((x *ℤ b) +ℤ (y *ℤ a)) *ℤ ((x *ℤ b) +ℤ (y *ℤ a)))
    ≡ ((x *ℤ x) +ℤ (y *ℤ y)) *ℤ ((a *ℤ a) +ℤ (b *ℤ b))
frame_square a b x y = rw (as_diff a, as_diff b, as_diff x, as_diff y) (simp differences (diff-same _ _ _ _ (omega arith)))

frame_cross : (a b x y : ℤ) → (a *ℤ ((x *ℤ b) +ℤ (y *ℤ a))) -ℤ (b *ℤ ((x *ℤ a) +ℤ (y *ℤ neg_ℤ b))) ≡ y *ℤ ((a *ℤ a) +ℤ (b *ℤ b))
frame_cross a b x y = rw (as_diff a, as_diff b, as_diff x, as_diff y) (simp differences (diff-same _ _ _ _ (omega arith)))

frame_dot : (a b x y : ℤ) → (a *ℤ ((x *ℤ a) +ℤ (y *ℤ neg_ℤ b))) +ℤ (b *ℤ ((x *ℤ b) +ℤ (y *ℤ a))) ≡ x *ℤ ((a *ℤ a) +ℤ (b *ℤ b))
frame_dot a b x y = rw (as_diff a, as_diff b, as_diff x, as_diff y) (simp differences (diff-same _ _ _ _ (omega arith)))

pub cross_in_frame : (d : Dir) (x y : ℤ) → cross d (in_frame d x y) ≡ y *ℤ pos (length_squared d)
cross_in_frame d x y = rw (square_length_squared d) (frame_cross d.dx d.dy x y)

pub dot_in_frame : (d : Dir) (x y : ℤ) → dot d (in_frame d x y) ≡ x *ℤ pos (length_squared d)
dot_in_frame d x y = rw (square_length_squared d) (frame_dot d.dx d.dy x y)

pub length_in_frame : (d : Dir) (x y : ℤ) → length_squared (in_frame d x y) ≡ (unsigned_abs x * unsigned_abs x + unsigned_abs y * unsigned_abs y) * length_squared d
length_in_frame d x y =
    let whole : pos (length_squared (in_frame d x y)) ≡ ((x *ℤ x) +ℤ (y *ℤ y)) *ℤ pos (length_squared d) =
    square_length_squared (in_frame d x y) ∙ rw (square_length_squared d) (frame_square d.dx d.dy x y) in
    let sizes = rw (← size_square x, ← size_square y) at whole in
    omega (arith, ints, sizes)

-- the part along a direction does not count in its cross product, the part to its left does
pub cross_perp_self : (a : Dir) → cross a (perp a) ≡ pos (length_squared a)
cross_perp_self a = cross_turn a a ∙ sym (square_length_squared a)
