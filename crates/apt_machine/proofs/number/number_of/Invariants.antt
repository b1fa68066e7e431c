use Rattle.std.proofs.Common.{◌≡◌, ◌^◌, ◌<◌, drop}
use Rattle.apt_machine.specs.Numbers.{digits_from}
use Rattle.apt_machine.proofs.number.number_of.Given as goal

abbrev pub invariant-digits : goal.invariant-digits
invariant-digits l = record {
  number : digits_from l.number (drop l.b-index l.text) ≡ digits_from 0 l.text;
  small : l.number < 10 ^ l.b-index;
}
