use Rattle.std.proofs.Common.{◌≡◌, drop}
use Rattle.std.specs.Prelude.{fold}
use Rattle.scaled_decimal.specs.Decimals.{sum}
use Rattle.carry_bindings.specs.Carrying.{amounts, total}
use Rattle.carry_bindings.specs.private.OutputViews.{names_before, place_in}
use Rattle.carry_bindings.proofs.AmountLemmas.{IsPartial}
use Rattle.carry_bindings.proofs.carried.total.Given as goal

abbrev pub invariant-loop-at : goal.invariant-loop-at
invariant-loop-at l = record {
  same : fold sum l.total (amounts l.name (drop l.at l.earlier)) ≡ total (amounts l.name l.earlier);
  bounded : IsPartial l.at l.total;
  place : l.place ≡ place_in l.name (names_before l.earlier l.at);
}
