use Rattle.apt_pattern.proofs.Deciding.{visits_taken}
use Rattle.apt_pattern.proofs.expanding.take.Goals as goal

pub returns-in_ok-push_visits-in-Visits : goal.returns-in_ok-push_visits-in-Visits
returns-in_ok-push_visits-in-Visits c =
    visits_taken c.args.st c.args.steps.now.items c.push_visits.new.steps.items _ c.in-Visits.visited c.decide.new.self c.units.result c.cycle.result
    (let is = simp c.in-Visits.is at c.in_ok-decide.ensures in is) c.units.ensures c.cycle.ensures.value c.in_ok-push_visits-in-Visits.ensures
