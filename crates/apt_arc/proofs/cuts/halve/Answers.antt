use Rattle.apt_arc.proofs.Tracks.{point_near, middle_dir, half_pieces}
use Rattle.apt_arc.proofs.cuts.halve.Goals as goal

pub middle-requires-clause-start : goal.middle-requires-clause-start
middle-requires-clause-start c = point_near c.args.arc.now.track c.args.a c.requires.arc.track c.requires.piece.start

pub middle-requires-clause-end : goal.middle-requires-clause-end
middle-requires-clause-end c = point_near c.args.arc.now.track c.args.b c.requires.arc.track c.requires.piece.end

pub middle-requires-clause-dir : goal.middle-requires-clause-dir
middle-requires-clause-dir c = middle_dir c.args.arc.now.track c.args.arc.now.sense c.args.a c.args.b c.requires.arc.track c.requires.piece

pub returns-clause-first : goal.returns-clause-first
returns-clause-first c =
    rw c.middle.ensures
    (half_pieces c.args.arc.now.track c.args.arc.now.sag c.args.arc.now.sense c.args.a c.args.b c.requires.arc.track c.requires.arc.sag c.requires.arc.sense c.requires.piece c.requires.not_clear).0

pub returns-clause-second : goal.returns-clause-second
returns-clause-second c =
    rw c.middle.ensures
    (half_pieces c.args.arc.now.track c.args.arc.now.sag c.args.arc.now.sense c.args.a c.args.b c.requires.arc.track c.requires.arc.sag c.requires.arc.sense c.requires.piece c.requires.not_clear).1
