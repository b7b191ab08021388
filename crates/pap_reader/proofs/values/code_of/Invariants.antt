use Rattle.std.proofs.Common.{◌≡◌, ◌≤◌, take}
use Rattle.std.specs.Str.Parse.{AllDigits, digits_value}
use Rattle.pap_reader.proofs.values.code_of.Given as goal

-- the digits so far, and the code that they write
abbrev pub invariant-loop-digit : goal.invariant-loop-digit
invariant-loop-digit l = record {
  digits : AllDigits l.radix (take l.digit-index l.digits);
  value : l.code ≡ digits_value l.radix (take l.digit-index l.digits);
  small : l.code ≤ 127;
}
