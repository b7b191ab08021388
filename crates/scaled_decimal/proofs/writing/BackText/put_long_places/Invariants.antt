use Rattle.std.proofs.Common.{◌≡◌, ◌/◌, ◌^◌}
use Rattle.scaled_decimal.specs.PlainTexts.{last_digits}
use Rattle.scaled_decimal.proofs.writing.BackText.put_long_places.Given as goal

abbrev pub invariant-loop : goal.invariant-loop
invariant-loop l = record {
  text : l.self ≡ last_digits l.counter l.n;
  front : l.front ≡ l.n / 10 ^ l.counter;
}
