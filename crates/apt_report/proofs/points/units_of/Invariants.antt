use Rattle.std.proofs.Common.{◌≡◌, drop}
use Rattle.apt_post.specs.Plan.{units_of}
use Rattle.apt_report.proofs.points.units_of.Given as goal

abbrev pub invariant-records : goal.invariant-records
invariant-records l = units_of (drop l.record-index l.records) ≡ units_of l.fn.records
