use Rattle.apt_arc.proofs.division.+count_from.Given as goal

abbrev pub decreases-count_from : goal.decreases-count_from
decreases-count_from l = l.left
