use Rattle.std.proofs.Common.{pos, w64, arith}
use Rattle.std.proofs.lemmas.Int.{to_z-of_z, ints}
use Rattle.apt_plane.specs.declared.figures.Pt.{Pt}
use Rattle.apt_canon.specs.Scale.{IsNearLine}
use Rattle.apt_canon.proofs.LineMeetings.Meeting.{parts-near}
use Rattle.apt_canon.proofs.lines.line_line_point.Goals as goal

abbrev point : (c : goal.After-meeting_point) → Pt
point c = record { x = c.meeting_point.result.x; y = c.meeting_point.result.y }

near : (c : goal.After-meeting_point) → IsNearLine c.args.a.now.line c.args.a.now.off (pos 1) (point c) × IsNearLine c.args.b.now.line c.args.b.now.off (pos 1) (point c)
near c =
    let a = c.args.a.now in
    let b = c.args.b.now in
    let keep_a = to_z-of_z w64 a.off (omega (arith, ints)) in
    let keep_b = to_z-of_z w64 b.off (omega (arith, ints)) in
    parts-near a.line b.line a.off b.off c.meeting_point.result.x c.meeting_point.result.y c.requires.a.line c.requires.b.line c.requires.a.off c.requires.b.off c.requires.apart
    (rw (keep_a, keep_b) at c.meeting_point.ensures.x) (rw (keep_a, keep_b) at c.meeting_point.ensures.y)

pub returns-clause-on_a : goal.returns-clause-on_a
returns-clause-on_a c = (near c).0

pub returns-clause-on_b : goal.returns-clause-on_b
returns-clause-on_b c = (near c).1
