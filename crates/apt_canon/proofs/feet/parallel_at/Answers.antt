use Rattle.std.proofs.Common.{◌≡◌, w64}
use Rattle.std.proofs.lemmas.Int.{to_z-of_z}
use Rattle.apt_canon.specs.Feet.{parallel_at}
use Rattle.apt_canon.proofs.FootPoints.Parallels.{answer_in_range, answer_same_dir, answer_on_line, answer_beside, answer_away}
use Rattle.apt_canon.proofs.feet.parallel_at.Goals as goal

value : (c : goal.After-parallel_at_value) → c.parallel_at_value.result ≡ parallel_at c.args.l.now c.args.pick c.args.d
value c = rw (to_z-of_z w64 c.args.d c.ranges.d) at c.parallel_at_value.ensures

pub returns-clause-in_range : goal.returns-clause-in_range
returns-clause-in_range c = answer_in_range c.parallel_at_value.result c.args.l.now c.args.pick c.args.d c.requires.line (value c)

pub returns-clause-same_dir : goal.returns-clause-same_dir
returns-clause-same_dir c = answer_same_dir c.parallel_at_value.result c.args.l.now c.args.pick c.args.d (value c)

pub returns-clause-on_line : goal.returns-clause-on_line
returns-clause-on_line c = answer_on_line c.parallel_at_value.result c.args.l.now c.args.pick c.args.d c.requires.line c.requires.distance (value c)

pub returns-clause-beside : goal.returns-clause-beside
returns-clause-beside c = answer_beside c.parallel_at_value.result c.args.l.now c.args.pick c.args.d c.requires.line c.requires.distance (value c)

pub returns-clause-away : goal.returns-clause-away
returns-clause-away c = answer_away c.parallel_at_value.result c.args.l.now c.args.pick c.args.d c.requires.line c.requires.distance (value c)
