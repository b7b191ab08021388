use Rattle.std.proofs.Common.{◌≡◌, ◌≤◌}
use Rattle.scaled_decimal.specs.Decimals.{decimal}
use Rattle.scaled_decimal.specs.ShortenedDecimals.{shortened}
use Rattle.scaled_decimal.specs.Limits.{IsWithinLimit, most_places}
use Rattle.scaled_decimal.proofs.decimal.Dec.shortened.Given as goal

abbrev pub invariant-loop-places : goal.invariant-loop-places
invariant-loop-places l = record {
  is : shortened l.least (decimal l.numerator l.places) ≡ shortened l.least l.fn.self;
  kept : IsWithinLimit l.numerator;
  few : l.places ≤ most_places;
}

abbrev pub decreases-loop-places : goal.decreases-loop-places
decreases-loop-places l = l.places
