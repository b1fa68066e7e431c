use Rattle.std.proofs.Common.{◌++◌, [], ◌∙◌, ap, subst}
use Rattle.std.proofs.lemmas.List.{append-nil}
use Rattle.std.specs.FinMap.{insert}
use Rattle.apt_shelf.specs.Told.{Steps}
use Rattle.apt_shelf.proofs.ToldLaws.{adds_written, keeps_prefix, on_err}
use Rattle.apt_shelf.proofs.pieces.write_all.Goals as goal

pub returns-in_err-push-clause-err : goal.returns-in_err-push-clause-err
returns-in_err-push-clause-err g c =
    let begun = c.in_ok-start_write.ensures.ok in
    on_err _ _ (keeps_prefix _ _ _ _ _ [] _ [] _ begun.0 (append-nil _) begun.1 (rw c.new-pieces.ensures at c.in_err-push.ensures.err))

pub returns-in_err-finish-clause-err : goal.returns-in_err-finish-clause-err
returns-in_err-finish-clause-err g c =
    let begun = c.in_ok-start_write.ensures.ok in
    let front = c.in_ok-push.ensures.ok in
    let whole = front.1.1 ∙ ap (λ p. p ++ c.args.bytes.now) c.new-pieces.ensures in
    on_err _ _ (keeps_prefix _ _ _ _ _ front.1.0 _ [] _ (front.0 ∙ begun.0) (rw (append-nil) whole) (adds_written _ _ _ _ _ [] _ begun.0 begun.1 front.1.2) c.in_err-finish.ensures.err)

pub returns-clause-ok : goal.returns-clause-ok
returns-clause-ok g c =
    let told = g.H.Shelf.told in
    let begun = c.in_ok-start_write.ensures.ok in
    let front = c.in_ok-push.ensures.ok in
    let whole = front.1.1 ∙ ap (λ p. p ++ c.args.bytes.now) c.new-pieces.ensures in
    let written = adds_written _ _ _ _ _ [] _ begun.0 begun.1 front.1.2 in
    subst (λ v. Steps (λ m. insert m c.args.name.now v) (told c.args.shelf.now) (told c.finish.new.shelf)) whole
    (adds_written _ _ _ _ _ front.1.0 _ (front.0 ∙ begun.0) written c.in_ok-finish.ensures.ok.1)
