use Rattle.apt_arc.proofs.bounds.+number.Given as goal

abbrev pub decreases-number : goal.decreases-number
decreases-number l = l.depth
