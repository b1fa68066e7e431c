use Rattle.std.proofs.Common.{drop, pos, negsuc}
use Rattle.apt_certify.specs.Tracks.{AreReaches}
use Rattle.apt_certify.proofs.Past.{IsWalked}
use Rattle.apt_certify.proofs.deviations.deviations_from.Given as goal

abbrev pub invariant-vertices : goal.invariant-vertices
invariant-vertices l = IsWalked l.track (pos 1) l.fn.start l.fn.vertices l.at (drop l.q-index l.vertices) l.most.over
    × IsWalked l.track (negsuc 0) l.fn.start l.fn.vertices l.at (drop l.q-index l.vertices) l.most.under × AreReaches l.most
