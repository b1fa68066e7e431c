use Rattle.std.proofs.Common.{◌≡◌, Ok, ap, ◌∙◌}
use Rattle.apt_cldata.specs.Fields.{◌>>=◌}
use Rattle.apt_cldata.specs.Reading.{head, versioned, head_in}
use Rattle.apt_cldata.proofs.HeadLaws.{head_there}
use Rattle.apt_cldata.proofs.reading.read_head.Goals as goal

pub returns-clause-there : goal.returns-clause-there
returns-clause-there c =
    let h = head c.in_ok-versioned_head.field-0.number c.in_ok-versioned_head.field-0.at c.in_ok-versioned_head.field-0.rest.now in
    let is : head_in c.args.bytes.now ≡ Ok h = ap (λ r. r >>= λ rest. versioned 6 rest) c.in_ok-version.ensures ∙ c.in_ok-versioned_head.ensures in
    head_there c.args.bytes.now h is
