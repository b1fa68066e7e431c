use Rattle.std.proofs.Common.{◌≡◌, ◌∙◌, ◌<◌, ◌++◌, length, sym, ap, subst, arith}
use Rattle.std.proofs.lemmas.Bool.Decides.{nat_tests}
use Rattle.apt_circular.specs.ArcTape.{CanActs}
use Rattle.apt_cycle.specs.CycleTape.{next, next_bytes, behind_next, posted}
use Rattle.apt_circular.specs.Plans.{left_of}
use Rattle.apt_cycle.specs.Windows.{acts_left}
use Rattle.apt_cycle.proofs.BlockByBlock.{taken_on, front_can, front_then_can}
use Rattle.apt_cycle.proofs.left.push_block.Goals as goal

pub push_next-count-requires-clause-can : goal.push_next-count-requires-clause-can
push_next-count-requires-clause-can c =
    let p = c.args.poster.now in
    let w = c.fill.new.self in
    subst (CanActs p.machine.incremental p.held) (sym c.as_slice.ensures.value)
    (front_can p.machine.incremental p.held w.front.items (left_of w.plan) (subst (CanActs p.machine.incremental p.held) (sym c.fill.ensures.same) c.requires.can))

pub returns-clause-can : goal.returns-clause-can
returns-clause-can c =
    let p = c.args.poster.now in
    let w = c.fill.new.self in
    let slice = c.as_slice.ensures.value in
    front_then_can p c.push_next-count.new.self w.front.items (left_of w.plan) _ c.push_next-count.result c.fill.ensures.few c.fill.ensures.full
    (subst (CanActs p.machine.incremental p.held) (sym c.fill.ensures.same) c.requires.can)
    (c.push_next-count.ensures.next ∙ ap (behind_next p) slice) (c.push_next-count.ensures.count ∙ ap (λ acts. (next p acts).count) slice) c.pass.ensures

pub returns-clause-taken : goal.returns-clause-taken
returns-clause-taken c =
    let p = c.args.poster.now in
    let w = c.fill.new.self in
    let slice = c.as_slice.ensures.value in
    let some : 0 < length w.front.items = grind (arith, nat_tests, c.is_empty.ensures, c.if-is_empty.false) in
    subst (λ acts. c.args.piece.now.items ++ posted p acts ≡ c.push_next-count.new.text.items ++ posted c.push_next-count.new.self (acts_left c.pass.new.self)) c.fill.ensures.same
    (taken_on p c.push_next-count.new.self c.args.piece.now.items c.push_next-count.new.text.items w.front.items (left_of w.plan) _ c.push_next-count.result c.fill.ensures.few c.fill.ensures.full some
    (c.push_next-count.ensures.block ∙ ap (λ acts. c.args.piece.now.items ++ next_bytes p acts) slice) (c.push_next-count.ensures.next ∙ ap (behind_next p) slice)
    (c.push_next-count.ensures.count ∙ ap (λ acts. (next p acts).count) slice) c.pass.ensures)
