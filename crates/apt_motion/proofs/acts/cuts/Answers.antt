use Rattle.std.proofs.Common.{Ok, arith, FitsSigned, w64}
use Rattle.std.proofs.lemmas.Int.{ints, to_z-of_z}
use Rattle.apt_motion.proofs.Cuts.{cut_asks}
use Rattle.apt_motion.proofs.acts.cuts.Goals as goal

pub run_to_contact-requires-clause-asks : goal.run_to_contact-requires-clause-asks
run_to_contact-requires-clause-asks g c =
    let n = c.args.n in
    let fits : FitsSigned w64 n = omega (arith, ints, c.requires.count) in
    cut_asks c.args.here.now c.args.step.now.deed c.args.contour.now n (Ok c.in-Ok.cut) c.requires.asks (rw (to_z-of_z w64 n fits) at c.in-Ok.ensures.value)
