use Rattle.std.proofs.Common.{◌≡◌, w64, arith}
use Rattle.std.proofs.lemmas.Int.{to_z-of_z, ints}
use Rattle.apt_canon.specs.Meeting.{line_line}
use Rattle.apt_canon.proofs.LineMeetings.Meets.{answer_parallel, answer_in_range}
use Rattle.apt_canon.proofs.LineMeetings.OnBoth.{answer_on_a, answer_on_b}
use Rattle.apt_canon.proofs.lines.line_line.Goals as goal

value : (c : goal.After-line_line_value) → c.line_line_value.result ≡ line_line c.args.a.now.line c.args.a.now.off c.args.b.now.line c.args.b.now.off
value c =
    let keep_a = to_z-of_z w64 c.args.a.now.off (omega (arith, ints)) in
    let keep_b = to_z-of_z w64 c.args.b.now.off (omega (arith, ints)) in
    rw (keep_a, keep_b) at c.line_line_value.ensures

pub returns-clause-parallel : goal.returns-clause-parallel
returns-clause-parallel c =
    let a = c.args.a.now in
    let b = c.args.b.now in
    answer_parallel c.line_line_value.result a.line b.line a.off b.off (value c)

pub returns-clause-in_range : goal.returns-clause-in_range
returns-clause-in_range c =
    let a = c.args.a.now in
    let b = c.args.b.now in
    answer_in_range c.line_line_value.result a.line b.line a.off b.off (value c)

pub returns-clause-on_a : goal.returns-clause-on_a
returns-clause-on_a c =
    let a = c.args.a.now in
    let b = c.args.b.now in
    answer_on_a c.line_line_value.result a.line b.line a.off b.off c.requires.a.line c.requires.b.line c.requires.a.off c.requires.b.off (value c)

pub returns-clause-on_b : goal.returns-clause-on_b
returns-clause-on_b c =
    let a = c.args.a.now in
    let b = c.args.b.now in
    answer_on_b c.line_line_value.result a.line b.line a.off b.off c.requires.a.line c.requires.b.line c.requires.a.off c.requires.b.off (value c)
