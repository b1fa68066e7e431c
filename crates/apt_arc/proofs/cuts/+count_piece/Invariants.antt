use Rattle.apt_arc.proofs.cuts.+count_piece.Given as goal

abbrev pub decreases-count_piece : goal.decreases-count_piece
decreases-count_piece l = l.depth
