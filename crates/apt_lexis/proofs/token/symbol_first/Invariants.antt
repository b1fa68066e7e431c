use Rattle.std.proofs.Common.{◌≡◌, ◌-◌, ◌≤◌, map, take, length}
use Rattle.std.specs.List.{prefix_len}
use Rattle.apt_lexis.specs.Tokens.{capital, is_letter_or_digit}
use Rattle.apt_lexis.proofs.token.symbol_first.Given as goal

abbrev pub invariant-capitals : goal.invariant-capitals
invariant-capitals l = record {
  few : l.len ≤ 6;
  within : l.len ≤ prefix_len is_letter_or_digit l.text;
  room : length l.capitals ≡ 6;
  same : take l.len l.capitals ≡ map capital (take l.len l.text);
}

abbrev pub decreases-capitals : goal.decreases-capitals
decreases-capitals l = length l.text - l.len
