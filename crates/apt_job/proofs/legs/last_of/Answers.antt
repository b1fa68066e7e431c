use Rattle.std.proofs.Common.{pos}
use Rattle.apt_job.proofs.Ranges.{last_at}
use Rattle.apt_job.proofs.legs.last_of.Goals as goal

pub returns-in-len1-up : goal.returns-in-len1-up
returns-in-len1-up c = last_at c.args.start (record { x = pos 0; y = pos 0 }) c.args.points.now c.in-len1-up.len_at_least
