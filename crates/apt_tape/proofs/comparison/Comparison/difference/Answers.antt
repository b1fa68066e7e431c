use Rattle.std.proofs.Common.{◌∙◌, sym}
use Rattle.apt_tape.specs.Tapes.{acts_on}
use Rattle.apt_circular.specs.Plans.{left_of}
use Rattle.apt_tape.proofs.Comparing.{found_differs, no_first, planned_more}
use Rattle.apt_tape.proofs.comparison.Comparison.difference.Goals as goal

pub returns-then-is_some : goal.returns-then-is_some
returns-then-is_some c = λ begun acts compared.
    found_differs (acts_on begun.machine.now begun.records.now) (left_of c.args.self.left) acts c.args.self.first (sym c.is_some.ensures ∙ c.if-is_some.true) compared.beside

pub returns-then-is_some-2 : goal.returns-then-is_some-2
returns-then-is_some-2 c = λ begun acts compared.
    let none = no_first c.args.self.first (sym c.is_some.ensures ∙ c.if-is_some.false) in
    planned_more (acts_on begun.machine.now begun.records.now) (left_of c.args.self.left) acts (left_of c.next.new.self) c.args.self.first c.args.self.next c.next.result
    (sym c.is_some-2.ensures ∙ c.if-is_some-2.true) c.next.ensures.taken none compared.beside (compared.next none)
