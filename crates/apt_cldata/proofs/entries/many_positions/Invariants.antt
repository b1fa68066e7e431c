use Rattle.std.proofs.Common.{◌≡◌, ◌+◌, ◌/◌, ◌≤◌, length, vec_len, vec_capacity}
use Rattle.apt_cldata.specs.Reading.{numbers_of}
use Rattle.apt_cldata.specs.Records.{positions_by}
use Rattle.apt_cldata.proofs.Chains.{behind}
use Rattle.apt_cldata.proofs.entries.many_positions.Given as goal

abbrev pub invariant-triples : goal.invariant-triples
invariant-triples l = record {
  read : behind l.list.items (positions_by l.i (numbers_of l.rest)) ≡ positions_by 0 (numbers_of l.fn.words);
  place : l.i + length l.rest ≡ length l.fn.words;
  room : vec_len l.list + length l.rest / 3 ≤ vec_capacity l.list;
}

abbrev pub decreases-triples : goal.decreases-triples
decreases-triples l = length l.rest
