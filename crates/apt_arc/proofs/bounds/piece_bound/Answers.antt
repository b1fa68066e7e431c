use Rattle.std.proofs.Common.{arith, FitsSigned, w64}
use Rattle.std.proofs.lemmas.Int.{ints, to_z-of_z}
use Rattle.apt_arc.proofs.Tracks.{point_near}
use Rattle.apt_arc.proofs.Numbers.{number_bound}
use Rattle.apt_arc.proofs.bounds.piece_bound.Goals as goal

pub clear_length-clear-requires-clause-start : goal.clear_length-clear-requires-clause-start
clear_length-clear-requires-clause-start c = point_near c.args.arc.now.track c.args.a c.requires.arc.track c.requires.piece.start

pub clear_length-clear-requires-clause-end : goal.clear_length-clear-requires-clause-end
clear_length-clear-requires-clause-end c = point_near c.args.arc.now.track c.args.b c.requires.arc.track c.requires.piece.end

pub chord_length-requires-clause-start : goal.chord_length-requires-clause-start
chord_length-requires-clause-start c = point_near c.args.arc.now.track c.args.a c.requires.arc.track c.requires.piece.start

pub chord_length-requires-clause-end : goal.chord_length-requires-clause-end
chord_length-requires-clause-end c = point_near c.args.arc.now.track c.args.b c.requires.arc.track c.requires.piece.end

pub number-requires-clause-least : goal.number-requires-clause-least
number-requires-clause-least c =
    let t = c.args.arc.now.track in
    let r : FitsSigned w64 t.r = omega (arith, ints, c.requires.arc.track.least, c.requires.arc.track.x) in
    let size = simp to_z-of_z at c.unsigned_abs.ensures.value in
    omega (arith, ints, size, c.requires.arc.track.least)

pub returns-clause-bound : goal.returns-clause-bound
returns-clause-bound c =
    let arc = c.args.arc.now in
    let r : FitsSigned w64 arc.track.r = omega (arith, ints, c.requires.arc.track.least, c.requires.arc.track.x) in
    let w : FitsSigned w64 arc.sag = omega (arith, ints, c.requires.arc.sag.least, c.requires.arc.sag.most, c.requires.arc.track.x) in
    let size = simp to_z-of_z at c.unsigned_abs.ensures.value in
    let clear = simp to_z-of_z at c.clear_length-clear.ensures in
    number_bound c.args.depth arc.track arc.sag arc.sense c.args.a c.args.b c.unsigned_abs.result c.clear_length-clear.result c.chord_length.result c.number.result c.requires.arc.track c.requires.arc.sag c.requires.arc.sense
    c.requires.piece size clear c.chord_length.ensures.value c.number.ensures.value
