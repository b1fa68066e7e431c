use Rattle.std.proofs.Common.{rules, ◌≡◌, subst}
use Rattle.apt_pattern.specs.Expansions.{Drilling, gone_to, Refused}
use Rattle.apt_pattern.proofs.Deciding.{goto_refused}
use Rattle.apt_pattern.proofs.drilling.Driller.go_to.Goals as goal

pub returns-in-Err : goal.returns-in-Err
returns-in-Err c deed =
    subst (λ (d : Drilling). gone_to d deed c.args.place.now d.cycle ≡ Refused c.in-Err.case) c.self.view_is
    (goto_refused (record { units = c.self.inside.units; table = c.self.inside.table; patterns = c.self.inside.patterns; cycle = c.self.inside.cycle; holes = c.self.inside.holes }) deed c.args.place.now c.in-Err.case (search rules) c.in-Err.ensures)
