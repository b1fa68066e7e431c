use Rattle.std.proofs.Common.{FitsSigned, w64}
use Rattle.std.proofs.lemmas.Int.{to_z-of_z}
use Rattle.apt_outline.proofs.Beside.{either, first_holds}
use Rattle.apt_outline.proofs.boxes.are_apart.Goals as goal

pub returns-then-is_ahead : goal.returns-then-is_ahead
returns-then-is_ahead c =
    let fa : FitsSigned w64 c.args.a = c.ranges.a in
    let fb : FitsSigned w64 c.args.b = c.ranges.b in
    let fp : FitsSigned w64 c.args.p = c.ranges.p in
    let fq : FitsSigned w64 c.args.q = c.ranges.q in
    let fr : FitsSigned w64 c.args.r = c.ranges.r in
    first_holds _ _ _ c.if-is_ahead.true (simp to_z-of_z at c.is_ahead.ensures)

pub returns-else-is_ahead : goal.returns-else-is_ahead
returns-else-is_ahead c =
    let fa : FitsSigned w64 c.args.a = c.ranges.a in
    let fb : FitsSigned w64 c.args.b = c.ranges.b in
    let fp : FitsSigned w64 c.args.p = c.ranges.p in
    let fq : FitsSigned w64 c.args.q = c.ranges.q in
    let fr : FitsSigned w64 c.args.r = c.ranges.r in
    either _ _ _ _ c.if-is_ahead.false (simp to_z-of_z at c.is_ahead.ensures) (simp to_z-of_z at c.is_ahead-else-is_ahead.ensures)
