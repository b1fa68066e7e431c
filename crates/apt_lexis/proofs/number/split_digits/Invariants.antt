use Rattle.std.proofs.Common.{◌≡◌, ◌+◌, ◌^◌, ◌<◌, ◌≤◌, length}
use Rattle.std.specs.List.{prefix_len, take_while}
use Rattle.apt_words.specs.Symbols.{is_digit}
use Rattle.apt_lexis.specs.Titles.{behind}
use Rattle.apt_lexis.specs.Tokens.{number_of}
use Rattle.apt_lexis.proofs.number.split_digits.Given as goal

abbrev pub invariant-digits : goal.invariant-digits
invariant-digits l = record {
  number : number_of l.number (take_while is_digit l.rest) ≡ number_of 0 (take_while is_digit l.text);
  count : l.count + prefix_len is_digit l.rest ≡ prefix_len is_digit l.text;
  rest : behind is_digit l.rest ≡ behind is_digit l.text;
  few : l.count ≤ 12;
  small : l.number < 10 ^ l.count;
}

abbrev pub decreases-digits : goal.decreases-digits
decreases-digits l = length l.rest
