use Rattle.std.proofs.Common.{rules}
use Rattle.apt_pattern.proofs.drilling.set_figure.Goals as goal

pub returns-in-Err-Case : goal.returns-in-Err-Case
returns-in-Err-Case c = (c.in-Err-Case.field-0-0, (c.in-Err-Case.ensures.refused c.in-Err-Case.field-0-0).0 (search rules), c.in-Err-Case.ensures.err)
