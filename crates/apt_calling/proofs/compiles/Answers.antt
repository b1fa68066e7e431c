use Rattle.std.proofs.Common.{◌≡◌, true, refl}
use Rattle.apt_shelf.specs.Memory.{files_of}
use Rattle.apt_core.specs.Words.{work_in, texts}
use Rattle.apt_calling.proofs.Concluding.{done_has_compiled}
use Rattle.apt_calling.proofs.compiles.Goals.{in-Done, in_default}
use Rattle.apt_calling.proofs.compiles.Goals as goal

pub returns : goal.returns
returns g c = elim c.match-apt.branch [
  | in-Done w ↦ λ t n asks.
      done_has_compiled n (work_in (texts c.args.words.now)) (files_of c.args.shelf.now) (files_of c.apt.new.shelf) _ _ _ c.apt.result c.apt.ensures.runs asks w.in-Done.is refl refl
  | in_default w ↦ λ t n asks. absurd (let is = w.result-is in let taken : c.match-apt.result ≡ true = t in cc)
]
