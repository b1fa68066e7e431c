use Rattle.std.proofs.Common.{ap, ◌∙◌}
use Rattle.rayon.proofs.ListFacts.{IfOk-then}
use Rattle.rayon.proofs.ToStd.{slice-map}
use Rattle.apt_motion.specs.Drafts.{chords_of}
use Rattle.apt_motion.proofs.counting.count_each.Goals as goal

pub returns : goal.returns
returns g c =
    let slice = ap (λ it. it.slice.now) c.map.ensures.base ∙ c.par_iter.ensures in
    IfOk-then c.collect.result _ _ c.collect.ensures (λ v h.
    let chain = h.1 in
    h.2 ∙ slice-map chain.0 c.args.rounds.now (chain.1 ∙ slice) chords_of h.0 chain.2)
