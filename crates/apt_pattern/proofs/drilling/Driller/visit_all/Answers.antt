use Rattle.std.proofs.Common.{rules, ◌+◌, refl, sym, subst}
use Rattle.apt_pattern.specs.Expansions.{Drilling, visited_all, pattern_named}
use Rattle.apt_pattern.specs.Taking.{IsDecided}
use Rattle.apt_pattern.specs.declared.drilling.Decision.TheVariants as decisions
use Rattle.apt_pattern.specs.declared.drilling.Visited.TheVariants as visiting
use Rattle.apt_pattern.proofs.Deciding.{visits_all}
use Rattle.apt_pattern.proofs.drilling.Driller.visit_all.Goals as goal

pub returns : goal.returns
returns c deed =
    let inside : Drilling = record { units = c.self.inside.units; table = c.self.inside.table; patterns = c.self.inside.patterns; cycle = c.self.inside.cycle; holes = c.self.inside.holes } in
    subst (λ (d : Drilling). IsDecided deed (visited_all d (pattern_named d.patterns c.args.name.now)) (decisions.Visits (visiting.All c.in-Some.pattern)) (record inside { holes = inside.holes + c.in-Some.pattern.count })) c.self.view_is
    (visits_all inside deed c.args.name.now c.in-Some.pattern (inside.holes + c.in-Some.pattern.count) (sym c.in-Some.ensures.value) (search rules) refl c.in-Some.ensures.range)
