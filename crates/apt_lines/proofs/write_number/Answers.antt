use Rattle.std.proofs.Common.{◌≡◌, ◌+◌, ◌-◌, ◌++◌, drop, ap, arith, rules, to_z-of_z}
use Rattle.std.proofs.lemmas.List.{drop-set}
use Rattle.itoa.proofs.Decimal.{minus_first}
use Rattle.apt_lines.proofs.Backwards.{digits_fit}
use Rattle.apt_lines.proofs.write_number.Goals as goal

pub write_digits-start-requires : goal.write_digits-start-requires
write_digits-start-requires c = (omega (arith, digits_fit c.unsigned_abs.result (omega arith)), search rules)

pub returns-clause-written : goal.returns-clause-written
returns-clause-written c =
    let w = c.write_digits-start in
    let long = digits_fit c.unsigned_abs.result (omega arith) in
    let e : w.result - 1 + 1 ≡ w.result = omega arith in
    let back = to_z-of_z c.ranges.n in
    rw (drop-set w.new.buf (w.result - 1) 45 (omega arith), e, w.ensures.written, c.unsigned_abs.ensures.value, back)
    (ap (λ text. text ++ drop c.args.end c.args.room.now) (minus_first c.args.n (rw back at c.if-n-ge0.false)))

pub overflow_sub-room : goal.overflow_sub-room
overflow_sub-room c = omega (arith, digits_fit c.unsigned_abs.result (omega arith))

pub overflow_sub-result : goal.overflow_sub-result
overflow_sub-result c = omega (arith, digits_fit c.unsigned_abs.result (omega arith))

pub returns-then-n-ge0-clause-start : goal.returns-then-n-ge0-clause-start
returns-then-n-ge0-clause-start c =
    (omega (arith, digits_fit c.unsigned_abs.result (omega arith)), omega (arith, digits_fit c.unsigned_abs.result (omega arith)))

pub returns-clause-start : goal.returns-clause-start
returns-clause-start c =
    (omega (arith, digits_fit c.unsigned_abs.result (omega arith)), omega (arith, digits_fit c.unsigned_abs.result (omega arith)))
