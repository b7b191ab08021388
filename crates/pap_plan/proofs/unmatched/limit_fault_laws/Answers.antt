use Rattle.pap_plan.proofs.LimitFaultLemmas.{faultless_is_matched, first_is_unmatched, tells_suited}
use Rattle.pap_plan.proofs.unmatched.limit_fault_laws.Goals as goal

pub returns-clause-none : goal.returns-clause-none
returns-clause-none c = faultless_is_matched

pub returns-clause-first : goal.returns-clause-first
returns-clause-first c = first_is_unmatched

pub returns-clause-suited : goal.returns-clause-suited
returns-clause-suited c = tells_suited
