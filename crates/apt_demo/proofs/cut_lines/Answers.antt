use Rattle.std.proofs.Common.{refl, w64}
use Rattle.std.proofs.lemmas.Int.{to_z-of_z}
use Rattle.apt_demo.proofs.cut_lines.Goals as goal

pub returns-clause-line : goal.returns-clause-line
returns-clause-line c =
    rw (c.write_text.ensures.written, c.write_signed_pointed-at.ensures.written, c.write_text-at.ensures.written, c.write_number-at.ensures.written, c.whole_line-end.ensures.line, to_z-of_z w64 c.args.x c.ranges.x, to_z-of_z w64 c.args.y c.ranges.y) refl
