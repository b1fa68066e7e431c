use Rattle.apt_arc.proofs.cuts.+append_piece.Given as goal

abbrev pub decreases-append_piece : goal.decreases-append_piece
decreases-append_piece l = l.depth
