use Rattle.std.proofs.Common.{◌≡◌, ◌*◌, ◌^◌, ◌≤◌, arith, pos, to_z, w64, ap, ◌∙◌}
use Rattle.std.proofs.lemmas.Int.{ints}
use Rattle.apt_num.specs.Root.{root_near}
use Rattle.apt_canon.proofs.DefinedCircles.Sizes.{nearest_root_small, way_small}
use Rattle.apt_canon.proofs.rounds.length_near.Goals as goal

pub returns : goal.returns
returns c =
    let size : c.length_squared.result ≤ 8 * 10 ^ 16 = rw c.length_squared.ensures (way_small c.args.way c.requires.dx c.requires.dy) in
    let small : c.root_near.result ≤ 10 ^ 9 = nearest_root_small c.length_squared.result c.root_near.result size c.root_near.ensures.nearest in
    let plain : to_z w64 c.root_near.result ≡ pos c.root_near.result = omega (arith, ints) in
    plain ∙ ap pos (c.root_near.ensures.value ∙ ap root_near c.length_squared.ensures)
