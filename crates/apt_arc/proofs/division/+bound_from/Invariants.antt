use Rattle.apt_arc.proofs.division.+bound_from.Given as goal

abbrev pub decreases-bound_from : goal.decreases-bound_from
decreases-bound_from l = l.left
