use Rattle.std.proofs.Common.{[]}
use Rattle.apt_shelf.proofs.EntriesLaws.{file_rewritten, file_pushed}
use Rattle.apt_shelf.proofs.ReadingLaws.{grows_behind, grows_same, left_grown, left_held}
use Rattle.apt_shelf.proofs.store.empty_file.Goals as goal

pub returns-in-Some-clause-ok : goal.returns-in-Some-clause-ok
returns-in-Some-clause-ok c =
    file_rewritten _ _ _ c.index_mut.result.now c.replace-bytes.new.dest _ [] c.deref.ensures.value c.in-Some.ensures.found c.index_mut.ensures.value (rw c.replace-bytes.ensures.after c.new.ensures.items)

pub returns-in-Some-clause-within : goal.returns-in-Some-clause-within
returns-in-Some-clause-within c =
    (left_held _ _ _ c.index_mut.result.now c.replace-bytes.new.dest _ _ _ _ c.deref.ensures.value c.in-Some.ensures.found c.index_mut.ensures.value c.replace-bytes.ensures.value c.hold.ensures c.requires.within).0

pub returns-in-Some-clause-left : goal.returns-in-Some-clause-left
returns-in-Some-clause-left c =
    (left_held _ _ _ c.index_mut.result.now c.replace-bytes.new.dest _ _ _ _ c.deref.ensures.value c.in-Some.ensures.found c.index_mut.ensures.value c.replace-bytes.ensures.value c.hold.ensures c.requires.within).1

pub returns-in_ok-push-in-None-clause-ok : goal.returns-in_ok-push-in-None-clause-ok
returns-in_ok-push-in-None-clause-ok c =
    file_pushed _ _ _ _ _ _ _ c.deref.ensures.value c.in-None.ensures.absent c.in_ok-push-in-None.ensures.items c.in_ok-from_str-in-None.ensures.ok c.new-in-None.ensures.items

pub returns-in_ok-push-in-None-clause-within : goal.returns-in_ok-push-in-None-clause-within
returns-in_ok-push-in-None-clause-within c =
    (left_grown _ _ _ (grows_behind _ _ _ c.in_ok-push-in-None.ensures.items) c.requires.within).0

pub returns-in_ok-push-in-None-clause-left : goal.returns-in_ok-push-in-None-clause-left
returns-in_ok-push-in-None-clause-left c =
    (left_grown _ _ _ (grows_behind _ _ _ c.in_ok-push-in-None.ensures.items) c.requires.within).1

pub returns-in_err-push-in-None-clause-within : goal.returns-in_err-push-in-None-clause-within
returns-in_err-push-in-None-clause-within c =
    (left_grown _ _ _ (grows_same _ _ c.in_err-push-in-None.ensures.items) c.requires.within).0
