use Rattle.std.proofs.Common.{ap}
use Rattle.apt_control.specs.declared.held.Held.{Held}
use Rattle.apt_circular.proofs.reading.with_motion.Goals as goal

pub returns : goal.returns
returns c = λ held more is. record {
  before = ap (λ (h : Held). record h { motion = c.args.motion }) is.before;
  behind = ap (λ (h : Held). record h { motion = c.args.motion }) is.behind;
  said = is.said;
  i = is.i;
  j = is.j;
}
