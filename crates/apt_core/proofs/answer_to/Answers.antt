use Rattle.std.proofs.Common.{refl}
use Rattle.apt_core.proofs.answer_to.Goals as goal

pub returns-in-Compile : goal.returns-in-Compile
returns-in-Compile g c = rw (c.in-Compile.is, c.of.ensures) (refl, c.compile.ensures)

pub returns-in-Certify : goal.returns-in-Certify
returns-in-Certify g c = rw (c.in-Certify.is, c.of-in-Certify.ensures) (refl, c.certify.ensures)

pub returns-in-Decode : goal.returns-in-Decode
returns-in-Decode g c = rw (c.in-Decode.is, c.from_work.ensures) c.decode.ensures

pub returns-in-List : goal.returns-in-List
returns-in-List g c = rw (c.in-List.is, c.from_work-in-List.ensures) c.list.ensures

pub returns-in-Demo : goal.returns-in-Demo
returns-in-Demo g c = rw (c.in-Demo.is, c.of-in-Demo.ensures) (refl, record { comes = c.demo.ensures; untouched = refl })

pub returns-in-Guard : goal.returns-in-Guard
returns-in-Guard g c = rw (c.in-Guard.is, c.of-in-Guard.ensures) (refl, c.guard.ensures)
