use Rattle.std.proofs.Common.{◌≡◌, ◌-◌, ◌++◌, length, drop, ap, sym, ◌∙◌, arith, append_assoc}
use Rattle.std.specs.Fmt.{decimal}
use Rattle.apt_lines.specs.Decimals.{blanks}
use Rattle.apt_report.proofs.points.write_seq.Goals as goal

pub returns-clause-written : goal.returns-clause-written
returns-clause-written c =
    let w = c.write_count-start in
    let text = decimal c.args.n in
    let e : w.result - (c.args.end - 8) ≡ 8 - length text = omega (arith, w.ensures.start.0) in
    c.write_blanks.ensures.written ∙ ap (λ rest. blanks (w.result - (c.args.end - 8)) ++ rest) w.ensures.written
    ∙ sym (append_assoc (blanks (w.result - (c.args.end - 8))) text (drop c.args.end c.args.room.now))
    ∙ ap (λ n. (blanks n ++ text) ++ drop c.args.end c.args.room.now) e
