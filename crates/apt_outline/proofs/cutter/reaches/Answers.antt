use Rattle.std.proofs.Common.{◌≡◌, ◌∙◌, arith}
use Rattle.std.proofs.lemmas.Grind.{common_steps}
use Rattle.apt_outline.specs.Reaches.{reaches_of}
use Rattle.apt_outline.proofs.Reaching.{record_is, legs_reached}
use Rattle.apt_outline.proofs.cutter.reaches.Goals as goal

pub behind-said-requires-clause-r : goal.behind-said-requires-clause-r
behind-said-requires-clause-r c = record_is c.args.records.now c.records.record-index c.record-item.result c.requires (omega arith) c.record-item.is

pub returns-clause-legs : goal.returns-clause-legs
returns-clause-legs c =
    let said : c.records.reaches.items ≡ reaches_of c.args.records.now = grind (arith, common_steps) in
    λ steps follows. said ∙ legs_reached steps c.args.records.now follows
