use Rattle.std.proofs.Common.{[], sym, ◌∙◌}
use Rattle.std.proofs.lemmas.List.{append-nil}
use Rattle.apt_shelf.proofs.EntriesLaws.{file_appended, file_kept, file_begun}
use Rattle.apt_shelf.proofs.ReadingLaws.{grows_there, grows_behind}
use Rattle.apt_shelf.proofs.ToldLaws.{on_err}
use Rattle.apt_shelf.proofs.store.add_to_file.Goals as goal

pub returns-in_ok-extend_from_slice-in-Some-clause-ok :
    goal.returns-in_ok-extend_from_slice-in-Some-clause-ok
returns-in_ok-extend_from_slice-in-Some-clause-ok c =
    file_appended _ _ _ c.index_mut.result.now _ _ _ c.deref.ensures.value c.in-Some.ensures.found c.index_mut.ensures.value c.in_ok-extend_from_slice-in-Some.ensures.items

pub returns-in_ok-extend_from_slice-in-Some-clause-grows :
    goal.returns-in_ok-extend_from_slice-in-Some-clause-grows
returns-in_ok-extend_from_slice-in-Some-clause-grows c =
    grows_there _ _ _ c.index_mut.result.now c.extend_from_slice.new.self _ _ c.deref.ensures.value c.in-Some.ensures.found c.index_mut.ensures.value c.in_ok-extend_from_slice-in-Some.ensures.items

pub returns-in_err-extend_from_slice-in-Some-clause-err :
    goal.returns-in_err-extend_from_slice-in-Some-clause-err
returns-in_err-extend_from_slice-in-Some-clause-err c =
    on_err _ _ (file_kept _ _ _ c.index_mut.result.now _ _ c.deref.ensures.value c.in-Some.ensures.found c.index_mut.ensures.value c.in_err-extend_from_slice-in-Some.ensures.items)

pub returns-in_err-extend_from_slice-in-Some-clause-grows :
    goal.returns-in_err-extend_from_slice-in-Some-clause-grows
returns-in_err-extend_from_slice-in-Some-clause-grows c =
    grows_there _ _ _ c.index_mut.result.now c.extend_from_slice.new.self _ [] c.deref.ensures.value c.in-Some.ensures.found c.index_mut.ensures.value (c.in_err-extend_from_slice-in-Some.ensures.items ∙ sym (append-nil _))

pub returns-in_ok-push-in-None-clause-ok : goal.returns-in_ok-push-in-None-clause-ok
returns-in_ok-push-in-None-clause-ok c =
    file_begun _ _ _ _ _ _ _ c.deref.ensures.value c.in-None.ensures.absent c.in_ok-push-in-None.ensures.items c.in_ok-from_str-in-None.ensures.ok c.in_ok-from_slice-in-None.ensures.items

pub returns-in_ok-push-in-None-clause-grows : goal.returns-in_ok-push-in-None-clause-grows
returns-in_ok-push-in-None-clause-grows c = grows_behind _ _ _ c.in_ok-push-in-None.ensures.items
