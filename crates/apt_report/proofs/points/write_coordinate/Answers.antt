use Rattle.std.proofs.Common.{◌≡◌, ◌-◌, ◌++◌, length, drop, ap, sym, ◌∙◌, arith, append_assoc, w64}
use Rattle.std.proofs.lemmas.Int.{to_z-of_z}
use Rattle.apt_lines.specs.Decimals.{signed_pointed, blanks}
use Rattle.apt_lines.proofs.Decimals.{starts_at}
use Rattle.apt_report.proofs.points.write_coordinate.Goals as goal

pub returns-clause-written : goal.returns-clause-written
returns-clause-written c =
    let w = c.write_signed_pointed-start in
    let text = signed_pointed c.args.decimals c.args.v in
    let written = rw (to_z-of_z w64 c.args.v c.ranges.v) at w.ensures.written in
    let start = starts_at w.new.room c.args.room.now text w.result c.args.end w.auto.room w.ensures.start.0 c.requires.end written in
    let e : w.result - (c.args.end - 11) ≡ 11 - length text = omega (arith, start) in
    c.write_blanks.ensures.written ∙ ap (λ rest. blanks (w.result - (c.args.end - 11)) ++ rest) written
    ∙ sym (append_assoc (blanks (w.result - (c.args.end - 11))) text (drop c.args.end c.args.room.now))
    ∙ ap (λ n. (blanks n ++ text) ++ drop c.args.end c.args.room.now) e
