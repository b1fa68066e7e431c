use Rattle.apt_arc.proofs.Divided.{only}
use Rattle.apt_arc.proofs.division.chords.Goals as goal

pub returns-clause-only : goal.returns-clause-only
returns-clause-only c = only c.args.arc.now c.requires
