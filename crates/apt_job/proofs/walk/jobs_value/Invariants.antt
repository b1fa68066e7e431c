use Rattle.std.proofs.Common.{◌≡◌, ◌≤◌, drop, length}
use Rattle.apt_job.proofs.Steps.{IsWalk}
use Rattle.apt_job.proofs.walk.jobs_value.Given as goal

abbrev pub invariant-steps : goal.invariant-steps
invariant-steps l =
    record {
      walk : IsWalk l.fn.steps l.fn.records.items l.here (drop l.at l.records.items) l.jobs.items (drop l.st-index l.steps);
      place : l.at ≤ length l.records.items;
      count : length l.records.items ≡ length l.fn.records.items;
    }
