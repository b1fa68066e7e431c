use Rattle.std.proofs.Common.{arith, sym, ◌∙◌, ◌<◌, FitsSigned, w64}
use Rattle.std.proofs.lemmas.Int.{ints, to_z-of_z}
use Rattle.apt_arc.proofs.Lists.{pieces_clear}
use Rattle.apt_arc.proofs.Halved.{is_halved}
use Rattle.apt_arc.proofs.cuts.is_whole.Goals as goal

pub returns-else-depth-eq0-clause-whole : goal.returns-else-depth-eq0-clause-whole
returns-else-depth-eq0-clause-whole c =
    let w : FitsSigned w64 c.args.arc.now.sag = omega (arith, ints, c.requires.arc.sag.least, c.requires.arc.sag.most, c.requires.arc.track.x) in
    let value = simp to_z-of_z at c.is_clear.ensures.value in
    λ e. pieces_clear c.args.depth c.args.arc.now.track c.args.arc.now.sag c.args.a c.args.b (sym value ∙ e)

pub returns-else-depth-eq0-clause-halved : goal.returns-else-depth-eq0-clause-halved
returns-else-depth-eq0-clause-halved c =
    let w : FitsSigned w64 c.args.arc.now.sag = omega (arith, ints, c.requires.arc.sag.least, c.requires.arc.sag.most, c.requires.arc.track.x) in
    let value = simp to_z-of_z at c.is_clear.ensures.value in
    let some : 0 < c.args.depth = omega arith in
    λ e. is_halved c.args.depth c.args.arc.now.track c.args.arc.now.sag c.args.a c.args.b some (sym value ∙ e)
