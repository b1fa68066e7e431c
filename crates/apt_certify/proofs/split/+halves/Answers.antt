use Rattle.apt_certify.proofs.Halves.{verdict_of_parts}
use Rattle.apt_certify.proofs.split.+halves.Goals as goal

pub returns : goal.returns
returns g t c =
    let h = c.halves.ensures in
    rw c.merged.ensures (verdict_of_parts c.args.jobs.now c.halves.result.0.now c.halves.result.1.now c.join.result.0 c.join.result.1 h.whole c.join.ensures.first c.join.ensures.second)
