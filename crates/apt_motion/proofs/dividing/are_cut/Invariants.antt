use Rattle.std.proofs.Common.{◌≡◌, drop}
use Rattle.std.specs.List.{list_all}
use Rattle.apt_motion.specs.Divided.{is_filled}
use Rattle.apt_motion.proofs.dividing.are_cut.Given as goal

abbrev pub invariant-loop-cut : goal.invariant-loop-cut
invariant-loop-cut l = list_all is_filled (drop l.cut-index l.cuts) ≡ list_all is_filled l.cuts
