-- A product with a sense, under names that code can cite.
use Rattle.std.proofs.Common.{◌≡◌, ℤ, pos, negsuc, neg_ℤ, ◌*ℤ◌}
use Rattle.apt_plane.proofs.Heights.{one-times}
use Rattle.apt_plane.proofs.Turned.{minus-times}

pub kept : (z : ℤ) → pos 1 *ℤ z ≡ z
kept z = one-times z

pub turned : (z : ℤ) → negsuc 0 *ℤ z ≡ neg_ℤ z
turned z = minus-times z
