use Rattle.std.proofs.Common.{◌∙◌, ap, Some, Ok, Err}
use Rattle.apt_records.specs.declared.record.Position.{Position}
use Rattle.apt_meaning.proofs.Moving.{start_led}
use Rattle.apt_meaning.proofs.effects.start_from.Goals as goal

pub returns-in-Ok : goal.returns-in-Ok
returns-in-Ok c = ap (λ (p : Position). Some p) c.level_with.ensures ∙ start_led c.args.from c.args.u.now (Ok c.in-Ok.xy) c.in-Ok.ensures.value

pub returns-in-Err : goal.returns-in-Err
returns-in-Err c = start_led c.args.from c.args.u.now (Err c.in-Err.field-0) c.in-Err.ensures.value
