use Rattle.apt_clreader.proofs.HeldLaws.{head_goes_on}
use Rattle.apt_clreader.proofs.reader.go_on.Goals as goal

pub returns-in-Head-clause-stands : goal.returns-in-Head-clause-stands
returns-in-Head-clause-stands c =
    head_goes_on c.args.part c.args.number c.args.records.items c.args.at c.args.held.items c.behind_start.result c.in-Head.is c.behind_start.ensures.stands
