use Rattle.apt_core.specs.Words.{work_in, texts}
use Rattle.apt_core.specs.Promise.{Outside, outside}
use Rattle.apt_core.proofs.Running.{run_is}
use Rattle.apt_core.proofs.Usage.{usage_asked}
use Rattle.apt_core.proofs.apt.Goals as goal

pub returns-clause-usage : goal.returns-clause-usage
returns-clause-usage g c =
    let work = work_in (texts c.args.words.now) in
    let before : Outside = outside g.H.Shelf g.K.Sink c.args.shelf.now c.args.out.now in
    let after : Outside = outside g.H.Shelf g.K.Sink c.answer-reply.new.shelf c.tell.new.out in
    usage_asked work before after c.tell.result (run_is work before after c.answer-reply.result c.tell.result c.answer-reply.ensures.works c.tell.ensures)
