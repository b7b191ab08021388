use Rattle.std.proofs.Common.{◌≤◌, ◌-◌, ℕ}
use Rattle.scaled_decimal.specs.Decimals.{ten_to}
use Rattle.scaled_decimal.specs.ExactQuotients.{Divides}
use Rattle.scaled_decimal.proofs.exact.divisor_places.Given as goal

abbrev pub invariant-loop-places : goal.invariant-loop-places
invariant-loop-places l = record {
  few : l.places ≤ 30;
  least : (j : ℕ) → Divides l.d (ten_to j) → l.places ≤ j;
}

abbrev pub decreases-loop-places : goal.decreases-loop-places
decreases-loop-places l = 30 - l.places
