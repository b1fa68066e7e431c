use Rattle.std.proofs.Common.{◌≡◌, ◌∙◌, ap, arith, FitsSigned, w8}
use Rattle.std.proofs.lemmas.Int.{ints, to_z-of_z}
use Rattle.apt_stop.specs.Nearness.{heading}
use Rattle.apt_meaning.proofs.Forward.{forward_leads_on, forward_goes_on}
use Rattle.apt_meaning.proofs.situation.Situation.cut_to.Goals as goal

pub returns-clause-onwards : goal.returns-clause-onwards
returns-clause-onwards c =
    let m = c.args.motion.now in
    let fits : FitsSigned w8 m.sense = omega (arith, ints, c.requires.motion.sense) in
    let value : c.heading-self.result ≡ heading m.sense c.tangent.result = simp to_z-of_z at c.heading-self.ensures.value in
    forward_leads_on c.heading-self.result m c.args.end (value ∙ ap (heading m.sense) c.tangent.ensures.value)

pub returns-clause-same_drive : goal.returns-clause-same_drive
returns-clause-same_drive c =
    let m = c.args.motion.now in
    let fits : FitsSigned w8 m.sense = omega (arith, ints, c.requires.motion.sense) in
    let value : c.heading-self.result ≡ heading m.sense c.tangent.result = simp to_z-of_z at c.heading-self.ensures.value in
    forward_goes_on c.heading-self.result m c.args.end c.requires.motion.sense (value ∙ ap (heading m.sense) c.tangent.ensures.value)
