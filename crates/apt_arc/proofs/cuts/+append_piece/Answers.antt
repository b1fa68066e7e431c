use Rattle.std.proofs.Common.{◌-◌, ◌++◌, ◌∙◌, ap, refl, sym}
use Rattle.std.specs.Prelude.{vec_capacity}
use Rattle.apt_plane.specs.declared.figures.Pt.{Pt}
use Rattle.apt_arc.specs.Made.{pieces}
use Rattle.apt_arc.proofs.Rooms.{both_fit}
use Rattle.apt_arc.proofs.cuts.+append_piece.Goals as goal

pub returns-clause-items : goal.returns-clause-items
returns-clause-items t c =
    let arc = c.args.arc.now in
    let n = c.args.depth - 1 in
    let a = c.args.a in
    let b = c.args.b in
    let m = c.halve-m.result in
    let halves = (c.if-is_whole.ensures.halved refl).list ∙ ap (λ (m : Pt). pieces n arc.track arc.sag a m ++ pieces n arc.track arc.sag m b) (sym c.halve-m.ensures.value) in
    both_fit (vec_capacity c.args.out.now) (vec_capacity c.append_piece.new.out) c.args.out.now.items c.append_piece.new.out.items c.append_piece-2.new.out.items (pieces n arc.track arc.sag a m) (pieces n arc.track arc.sag m b)
    (pieces c.args.depth arc.track arc.sag a b) c.append_piece.ensures.items c.append_piece-2.ensures.items c.append_piece.ensures.capacity halves
