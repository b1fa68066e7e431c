use Rattle.std.proofs.Common.{◌≢◌, ◌∙◌, sym, Some, below_more, arith}
use Rattle.apt_shelf.specs.Entries.{entry, entries, name_at}
use Rattle.std.proofs.lemmas.List.{length-map}
use Rattle.apt_shelf.proofs.EntriesLaws.{name_is, name_is_other, is_absent, held_at_index, get_absent}
use Rattle.apt_shelf.proofs.store.index_of.Goals as goal

pub loop-i-preserved : goal.loop-i-preserved
loop-i-preserved c =
    below_more (λ j. name_at (entries c.args.files.now) j ≢ Some c.args.name.now) _ c.loop-i.invariant
    (name_is_other c.args.files.now _ _ _ _ c.loop-i-test.true c.index-files-i.is c.as_str.ensures.value (sym c.eq.ensures ∙ c.if-eq.false))

pub returns-then-eq-clause-found : goal.returns-then-eq-clause-found
returns-then-eq-clause-found c = record {
  within = omega (arith, c.loop-i-test.true, length-map c.args.files.now entry);
  here = name_is c.args.files.now _ _ _ _ c.loop-i-test.true c.index-files-i.is c.as_str.ensures.value (sym c.eq.ensures ∙ c.if-eq.true);
  before = c.loop-i.invariant;
}

pub returns-then-eq-clause-holds : goal.returns-then-eq-clause-holds
returns-then-eq-clause-holds c = held_at_index c.args.files.now _ _ (returns-then-eq-clause-found c)

pub returns-clause-absent : goal.returns-clause-absent
returns-clause-absent c = is_absent c.args.files.now c.loop-i.i _ (omega arith) c.loop-i.invariant

pub returns-clause-holds_none : goal.returns-clause-holds_none
returns-clause-holds_none c = get_absent (entries c.args.files.now) _ (returns-clause-absent c)
