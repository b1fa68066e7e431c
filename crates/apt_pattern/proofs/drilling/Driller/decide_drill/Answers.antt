use Rattle.std.proofs.Common.{rules, ◌≡◌, ℤ, sym, subst, w64}
use Rattle.std.specs.Prelude.{FitsSigned, IfOk}
use Rattle.std.proofs.lemmas.Int.{to_z-of_z}
use Rattle.apt_words.specs.declared.deed.Deed.{Deed}
use Rattle.apt_pattern.specs.Expansions.{Drilling, patterned, drilled}
use Rattle.apt_words.specs.declared.drill.Drill.{Drill}
use Rattle.apt_scalar.specs.Scalars.{grid_units}
use Rattle.apt_pattern.specs.Taking.{IsDecided}
use Rattle.apt_pattern.proofs.Deciding.{cycle_set}
use Rattle.apt_pattern.proofs.drilling.Driller.decide_drill.Goals as goal

pub returns-in-Cycle : goal.returns-in-Cycle
returns-in-Cycle c deed =
    let fd : FitsSigned w64 c.in-Cycle.depth = search rules in
    let fc : FitsSigned w64 c.in-Cycle.clearance = search rules in
    let fg : FitsSigned w64 c.grid_units.result = search rules in
    let fh : FitsSigned w64 c.grid_units-in-Cycle.result = search rules in
    let g = simp to_z-of_z at c.grid_units.ensures in
    let h = simp to_z-of_z at c.grid_units-in-Cycle.ensures in
    let set = simp to_z-of_z at (c.set_cycle-in-Cycle.ensures deed) in
    subst (λ (a : Drill). IsDecided deed (drilled c.args.self.now a) c.set_cycle-in-Cycle.result c.set_cycle-in-Cycle.new.self) (sym c.in-Cycle.is)
    (cycle_set c.args.self.now deed c.in-Cycle.depth c.in-Cycle.clearance c.grid_units.result c.grid_units-in-Cycle.result c.set_cycle-in-Cycle.result c.set_cycle-in-Cycle.new.self (subst (λ (d : Drilling). c.grid_units.result ≡ grid_units d.units c.in-Cycle.depth) c.set_cycle.view_is g) (subst (λ (d : Drilling). c.grid_units-in-Cycle.result ≡ grid_units d.units c.in-Cycle.clearance) c.set_cycle.view_is h) set)

pub returns-in-Pattern : goal.returns-in-Pattern
returns-in-Pattern c =
    let fv : FitsSigned w64 c.in-Pattern.v = search rules in
    let fn : FitsSigned w64 c.whole.result = search rules in
    let whole_is = simp to_z-of_z at c.whole.ensures in
    let set = simp to_z-of_z at c.set_pattern.ensures in
    let before = c.args.self.now in
    subst (λ (a : Drill). IfOk c.set_pattern.result (λ d. (deed : Deed) → IsDecided deed (drilled before a) d c.set_pattern.new.self)) (sym c.in-Pattern.is)
    (subst (λ (n : ℤ). IfOk c.set_pattern.result (λ d. (deed : Deed) → IsDecided deed (patterned before c.in-Pattern.name c.in-Pattern.p c.in-Pattern.q n) d c.set_pattern.new.self))
    whole_is set)
