use Rattle.std.proofs.Common.{◌≡◌, ◌≢◌, arith, pos, ◌∙◌, w64}
use Rattle.std.proofs.lemmas.Int.{ints, to_z-of_z}
use Rattle.apt_canon.specs.Meeting.{meeting_point}
use Rattle.apt_canon.proofs.LineMeetings.Meets.{meets}
use Rattle.apt_canon.proofs.lines.line_line_value.Goals as goal

pub returns : goal.returns
returns c =
    let a = c.args.a.now in
    let b = c.args.b.now in
    let ha = c.args.ha in
    let hb = c.args.hb in
    let point = c.meeting_point.result in
    let keep_ha = to_z-of_z w64 ha c.ranges.ha in
    let keep_hb = to_z-of_z w64 hb c.ranges.hb in
    let turned : c.cross_of-turn.result ≢ pos 0 = omega (arith, ints) in
    let x : point.x ≡ (meeting_point a ha b hb).x = rw (keep_ha, keep_hb) at c.meeting_point.ensures.x in
    let y : point.y ≡ (meeting_point a ha b hb).y = rw (keep_ha, keep_hb) at c.meeting_point.ensures.y in
    c.in_range.ensures ∙ meets a b ha hb c.cross_of-turn.result point.x point.y c.cross_of-turn.ensures.value turned x y
