use Rattle.std.proofs.Common.{ℕ, ◌<◌, get_or}
use Rattle.scaled_decimal.specs.Decimals.{Decimal}
use Rattle.scaled_decimal.specs.Limits.{IsKept}
use Rattle.pay_run.proofs.inputs.each_is_kept.Given as goal

abbrev pub invariant-loop-value : goal.invariant-loop-value
invariant-loop-value l = (k : ℕ) (d : Decimal) → k < l.value-index → IsKept (get_or l.values k d)
