use Rattle.std.proofs.Common.{◌≡◌, ◌≤◌, take}
use Rattle.std.specs.Str.Parse.{digits_value_after}
use Rattle.scaled_decimal.specs.Limits.{limit}
use Rattle.scaled_decimal.proofs.reading.long_value_after.Given as goal

abbrev pub invariant-loop-digit : goal.invariant-loop-digit
invariant-loop-digit l = record {
  value : l.number ≡ digits_value_after 10 l.start (take l.digit-index l.digits);
  kept : l.number ≤ limit;
}
