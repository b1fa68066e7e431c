use Rattle.std.proofs.Common.{rules, ◌≡◌, ◌∙◌, ap, sym, subst, ◌*◌, ◌≤◌, pos, neg_ℤ, FitsSigned}
use Rattle.std.specs.Int.{w128}
use Rattle.std.proofs.lemmas.Int.{to_z-of_z}
use Rattle.apt_num.specs.Sign.{square}
use Rattle.apt_plane.specs.declared.figures.Pt.{Pt}
use Rattle.apt_plane.specs.Vectors.{displacement, dot, length_squared}
use Rattle.apt_canon.specs.Scale.{IsNearLine}
use Rattle.apt_canon.specs.Circles.{framed}
use Rattle.apt_canon.specs.Feet.{foot_point}
use Rattle.apt_canon.proofs.FootPoints.Laws.{foot_near, foot_across}
use Rattle.apt_canon.proofs.feet.foot_point.Goals as goal

point : (c : goal.After-framed) → c.framed.result ≡ foot_point c.args.p c.args.l.now.line c.args.l.now.off
point c =
    let l = c.args.l.now in
    let fits_depth : FitsSigned w128 c.depth.result = search rules in
    let fits_opposite : FitsSigned w128 c.opposite.result = search rules in
    let turned : c.opposite.result ≡ neg_ℤ c.depth.result = simp to_z-of_z at c.opposite.ensures.value in
    let value : c.framed.result ≡ framed c.args.p l.line.dir (pos 0) c.opposite.result = simp to_z-of_z at c.framed.ensures in
    value ∙ ap (λ z. framed c.args.p l.line.dir (pos 0) z) turned ∙ ap (λ z. framed c.args.p l.line.dir (pos 0) (neg_ℤ z)) c.depth.ensures.value

pub returns-clause-value : goal.returns-clause-value
returns-clause-value c = point c

pub returns-clause-on_line : goal.returns-clause-on_line
returns-clause-on_line c =
    let l = c.args.l.now in
    subst (λ (p : Pt). IsNearLine l.line l.off (pos 1) p) (sym (point c)) (foot_near c.args.p l.line l.off c.requires.point c.requires.line.line c.requires.line.off)

pub returns-clause-across : goal.returns-clause-across
returns-clause-across c =
    let l = c.args.l.now in
    subst (λ (p : Pt). 2 * square (dot l.line.dir (displacement c.args.p p)) ≤ length_squared l.line.dir) (sym (point c)) (foot_across c.args.p l.line l.off c.requires.line.line)
