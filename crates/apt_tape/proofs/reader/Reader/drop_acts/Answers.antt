use Rattle.apt_control.specs.Control.{nothing_held}
use Rattle.apt_tape.proofs.Runs.{plain_behind}
use Rattle.apt_tape.proofs.reader.Reader.drop_acts.Goals as goal

pub returns-in-Plain-clause-behind : goal.returns-in-Plain-clause-behind
returns-in-Plain-clause-behind c = λ acts front stands.
    rw c.in-Plain.is (plain_behind acts c.in-Plain.reader c.drop_acts.new.self front (c.drop_acts.ensures.behind nothing_held) (rw c.in-Plain.is at stands))
