use Rattle.std.proofs.Common.{subst}
use Rattle.apt_words.specs.Answers.{IsDue}
use Rattle.apt_unroll.specs.Trace.{Trace, trace_of}
use Rattle.apt_motion.specs.Ends.{refusal_in}
use Rattle.apt_part.specs.Plain.{StandsFor}
use Rattle.apt_part.proofs.Undrilled.{records_stand}
use Rattle.apt_part.proofs.part.part_by.Goals as goal

pub returns : goal.returns
returns g c =
    let stands = subst (λ (t : Trace). StandsFor t c.in_ok-plain.plain) c.in-Ok.ensures.value c.in_ok-plain.ensures.stands in
    subst (λ due. IsDue refusal_in due c.record_plain.result) (records_stand c.args.machine.now (trace_of c.args.program) c.in_ok-plain.plain stands) c.record_plain.ensures
