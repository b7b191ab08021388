-- The laws that other crates may cite.
-- A sum of bounded amounts fits and is bounded; an output of a bounded run is; a numerator is least at its own scale.
pub use Rattle.carry_bindings.proofs.AmountLemmas.{IsPartial, sum_fits, sum_partial, amount_by, abs_grows}
-- `fits` is true exactly where a value fits a limit.
pub use Rattle.carry_bindings.proofs.FitLemmas.{told}
