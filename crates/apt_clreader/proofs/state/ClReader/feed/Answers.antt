use Rattle.std.proofs.Common.{subst}
use Rattle.apt_clreader.specs.Steps.{GoesOn}
use Rattle.apt_clreader.proofs.HeldLaws.{goes_on_has_read}
use Rattle.apt_clreader.proofs.state.ClReader.feed.Goals as goal

pub returns-clause-stands : goal.returns-clause-stands
returns-clause-stands c = λ front stands.
    let reader = c.args.self in
    let on = subst (λ bytes. GoesOn reader.part reader.number reader.records.items reader.at bytes c.go_on.result) c.in_ok-extend_from_slice.ensures.items c.go_on.ensures.stands in
    goes_on_has_read front c.args.piece.now reader c.go_on.result stands on
