use Rattle.std.proofs.Common.{◌≡◌, ◌+◌, ◌-◌, ◌≤◌, length, drop}
use Rattle.std.specs.List.{prefix_len}
use Rattle.apt_lexis.specs.Sentences.{is_plain}
use Rattle.apt_lexis.proofs.fast.plain_front.Given as goal

abbrev pub invariant-lanes : goal.invariant-lanes
invariant-lanes l = record {
  within : l.at ≤ length l.text;
  front : prefix_len is_plain l.text ≡ l.at + prefix_len is_plain (drop l.at l.text);
}

abbrev pub decreases-lanes : goal.decreases-lanes
decreases-lanes l = length l.text - l.at
