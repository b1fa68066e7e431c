use Rattle.apt_core.proofs.Chains.{bad_cl_told}
use Rattle.apt_core.proofs.reading.records_input.Goals as goal

pub returns-in-Ok-clause-records : goal.returns-in-Ok-clause-records
returns-in-Ok-clause-records g c =
    let has = c.in_ok-run.ensures.has in
    (has.0, has.1, c.in-Ok.ensures.value has.0 has.2)

pub returns-in-Err-clause-records : goal.returns-in-Err-clause-records
returns-in-Err-clause-records g c =
    let has = c.in_ok-run.ensures.has in
    (has.0, has.1, rw c.cl_answer.ensures (bad_cl_told has.0 c.in-Err.error (c.in-Err.ensures.value has.0 has.2)))
