use Rattle.apt_arc.proofs.division.+append_from.Given as goal

abbrev pub decreases-append_from : goal.decreases-append_from
decreases-append_from l = l.left
