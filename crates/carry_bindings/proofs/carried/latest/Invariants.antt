use Rattle.std.proofs.Common.{◌≡◌, drop}
use Rattle.std.specs.Prelude.{fold}
use Rattle.carry_bindings.specs.Carrying.{amounts, latest}
use Rattle.carry_bindings.specs.private.OutputViews.{names_before, place_in}
use Rattle.carry_bindings.proofs.carried.latest.Given as goal

abbrev pub invariant-loop-at : goal.invariant-loop-at
invariant-loop-at l = record {
  same : fold (λ earlier d. d) l.latest (amounts l.name (drop l.at l.earlier)) ≡ latest (amounts l.name l.earlier);
  place : l.place ≡ place_in l.name (names_before l.earlier l.at);
}
