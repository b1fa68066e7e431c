use Rattle.std.proofs.Common.{◌≡◌, ◌++◌, ◌-◌}
use Rattle.arrayvec.specs.ArrayVec.{array_vec_len}
use Rattle.apt_post.proofs.left.take_piece.Given as goal

abbrev pub invariant-left : goal.invariant-left
invariant-left g l = record { taken : l.piece.items ++ g.T.Blockwise.left l.tape ≡ g.T.Blockwise.left l.fn.tape }

abbrev pub decreases-left : goal.decreases-left
decreases-left g l = 1024 - array_vec_len l.piece
