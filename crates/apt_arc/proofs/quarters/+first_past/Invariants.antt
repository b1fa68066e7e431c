use Rattle.apt_arc.proofs.quarters.+first_past.Given as goal

abbrev pub decreases-first_past : goal.decreases-first_past
decreases-first_past l = l.left
