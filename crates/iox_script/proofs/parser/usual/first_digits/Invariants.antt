use Rattle.std.proofs.Common.{◌≡◌, true, take}
use Rattle.std.specs.List.{list_all}
use Rattle.std.specs.Str.Parse.{digits_value}
use Rattle.iox_script.specs.Numerals.{is_digit}
use Rattle.iox_script.proofs.parser.usual.first_digits.Given as goal

abbrev pub invariant-loop-at : goal.invariant-loop-at
invariant-loop-at l = record {
  digits : list_all is_digit (take l.at l.bytes) ≡ true;
  value : digits_value 10 (take l.at l.bytes) ≡ l.number;
}
