use Rattle.pap_cli.proofs.TaxLemmas.{IsUnderway}
use Rattle.pap_cli.proofs.sample.tax_sum.Given as goal

abbrev pub invariant-loop-row : goal.invariant-loop-row
invariant-loop-row l = IsUnderway l.initial.row-iterator l.row-iterator l.total
