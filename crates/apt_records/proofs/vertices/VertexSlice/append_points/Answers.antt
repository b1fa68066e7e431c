use Rattle.std.proofs.Common.{◌++◌, ◌∙◌, List, map, ap}
use Rattle.apt_plane.specs.declared.figures.Pt.{Pt}
use Rattle.apt_records.specs.declared.record.Position.{Position}
use Rattle.apt_records.specs.Vertices.{point_of}
use Rattle.apt_records.proofs.Heights.{points_behind}
use Rattle.apt_records.proofs.vertices.VertexSlice.append_points.Goals as goal

pub returns-in-Ok-clause-ok : goal.returns-in-Ok-clause-ok
returns-in-Ok-clause-ok c =
    let s = c.self.inside in
    let before = c.args.points.now.items in
    let level = ap (λ (ps : List Pt). ps ++ map point_of s.apart.now) c.in_ok-extend_from_slice.ensures.items in
    c.in-Ok.ensures.ok ∙ level ∙ points_behind before s.z s.level.now s.apart.now ∙ ap (λ (vs : List Position). before ++ map point_of vs) c.self.view_is
