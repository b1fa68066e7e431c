use Rattle.std.proofs.Common.{Err, ap}
use Rattle.apt_defs.specs.declared.definitions.DefError.{DefError}
use Rattle.apt_outline.proofs.Defining.{not_refused}
use Rattle.apt_outline.proofs.figures.define.Goals as goal

pub unreachable-requires : goal.unreachable-requires
unreachable-requires c =
    let case = c.in-Err-Case.field-0-0 in
    not_refused (record { units = c.args.units; table = c.args.table.now }) _ c.in-Some.name c.in-Some.form case c.requires.defined c.in-Some.ensures
    ((c.in-Err-Case.ensures.refused case).0 (ap (λ (e : DefError). Err e) c.in-Err-Case.field-0-is))
