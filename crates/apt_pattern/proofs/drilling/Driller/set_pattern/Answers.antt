use Rattle.std.proofs.Common.{rules, ◌≡◌, ◌∙◌, ap, refl, subst, ℕ, List, nat_eq, w64}
use Rattle.std.specs.Prelude.{FitsSigned, unsigned_abs}
use Rattle.std.proofs.lemmas.Int.{to_z-of_z}
use Rattle.std.specs.Cmp.Lexicographic.{pointwise}
use Rattle.indexmap.specs.IndexMap.{insert_entry}
use Rattle.apt_pattern.specs.Expansions.{Drilling, Refused, patterned}
use Rattle.apt_pattern.specs.Taking.{IsDecided}
use Rattle.apt_pattern.specs.declared.drilling.Decision.TheVariants as decisions
use Rattle.apt_pattern.specs.declared.drilling.Visited.TheVariants as visiting
use Rattle.apt_pattern.proofs.Deciding.{pattern_from, pattern_to, pattern_set}
use Rattle.apt_pattern.proofs.drilling.Driller.set_pattern.Goals as goal

pub returns-in-Err : goal.returns-in-Err
returns-in-Err c deed =
    let inside : Drilling = record { units = c.self.inside.units; table = c.self.inside.table; patterns = c.self.inside.patterns; cycle = c.self.inside.cycle; holes = c.self.inside.holes } in
    subst (λ (d : Drilling). patterned d c.args.name.now c.args.p.now c.args.q.now c.args.n ≡ Refused c.in-Err.case) c.self.view_is
    (pattern_from inside deed c.args.name.now c.args.p.now c.args.q.now c.args.n c.in-Err.case c.in-Err.ensures)

pub returns-in-Err-point_in : goal.returns-in-Err-point_in
returns-in-Err-point_in c deed =
    let inside : Drilling = record { units = c.self.inside.units; table = c.self.inside.table; patterns = c.self.inside.patterns; cycle = c.self.inside.cycle; holes = c.self.inside.holes } in
    subst (λ (d : Drilling). patterned d c.args.name.now c.args.p.now c.args.q.now c.args.n ≡ Refused c.in-Err-point_in.case) c.self.view_is
    (pattern_to inside deed c.args.name.now c.args.p.now c.args.q.now c.args.n c.in-Ok.from c.in-Err-point_in.case c.in-Ok.ensures c.in-Err-point_in.ensures)

pub returns : goal.returns
returns c deed =
    let f : FitsSigned w64 c.args.n = c.ranges.n in
    let done = simp to_z-of_z at c.in_ok-set.ensures.ok in
    let inside : Drilling = record { units = c.self.inside.units; table = c.self.inside.table; patterns = c.self.inside.patterns; cycle = c.self.inside.cycle; holes = c.self.inside.holes } in
    subst (λ (d : Drilling). IsDecided deed (patterned d c.args.name.now c.args.p.now c.args.q.now c.args.n) (decisions.Visits visiting.Nothing) (record inside { patterns = c.set.new.self })) c.self.view_is
    (pattern_set inside deed c.args.name.now c.args.p.now c.args.q.now c.args.n c.in-Ok.from c.in-Ok-point_in.to c.set.new.self (unsigned_abs c.args.n) c.in-Ok.ensures c.in-Ok-point_in.ensures (search rules) (search rules) refl
    (done ∙ ap (λ (name : List ℕ). insert_entry (pointwise nat_eq) inside.patterns name (record { from = c.in-Ok.from; to = c.in-Ok-point_in.to; count = unsigned_abs c.args.n })) c.copied.ensures))
