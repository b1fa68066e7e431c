use Rattle.std.proofs.Common.{List, FitsSigned, w64, subst}
use Rattle.std.specs.Option.{MatchOption}
use Rattle.std.proofs.lemmas.Int.{to_z-of_z}
use Rattle.apt_plane.specs.declared.figures.Pt.{Pt}
use Rattle.apt_outline.specs.Guards.{IsClearPath, IsGougeOfPath}
use Rattle.apt_outline.proofs.Guarding.{points_again}
use Rattle.apt_outline.proofs.motions.path_gouge.Goals as goal

pub returns-in-len1-up : goal.returns-in-len1-up
returns-in-len1-up c =
    let fits : FitsSigned w64 c.args.rho = c.ranges.rho in
    subst (λ (points : List Pt). MatchOption c.path_from.result (IsClearPath c.args.rho c.args.parts.now points) (IsGougeOfPath c.args.rho c.args.parts.now points)) (points_again c.args.points.now _ c.in-len1-up.len_at_least)
    (simp to_z-of_z at c.path_from.ensures)
