use Rattle.std.proofs.Common.{Err}
use Rattle.apt_tape.specs.Runs.{kind_of, code_of}
use Rattle.apt_core.proofs.TapeRuns.{run_ends, taken_on}
use Rattle.apt_core.proofs.reading.run_input.Goals as goal

pub returns-in-Ok-clause-run : goal.returns-in-Ok-clause-run
returns-in-Ok-clause-run g c =
    let has = c.in_ok-run.ensures.has in
    let begun = c.new.result in (
      has.0,
      has.1,
      taken_on g.T.Taker.has begun c.args.none c.args.machine.now has.0 _ c.new.ensures.taken c.new.ensures.kind c.new.ensures.code
          (c.finish.ensures begun.taken (kind_of begun.reader) (code_of begun.reader) has.0 (rw c.in-Ok.is at has.2)),
    )

pub returns-in-Err-clause-run : goal.returns-in-Err-clause-run
returns-in-Err-clause-run g c =
    let has = c.in_ok-run.ensures.has in
    let begun = c.new.result in (
      has.0,
      has.1,
      taken_on g.T.Taker.has begun c.args.none c.args.machine.now has.0 (Err c.in-Err.error) c.new.ensures.taken c.new.ensures.kind c.new.ensures.code
          (run_ends g.T.Taker.has begun has.0 c.in-Err.error (rw c.in-Err.is at has.2)),
    )
