use Rattle.pap_types.proofs.FaultLaws.{refused_by_first, faultless_is_well_typed}
use Rattle.pap_types.proofs.fault_list.type_fault_laws.Goals as goal

pub returns-clause-first : goal.returns-clause-first
returns-clause-first c = refused_by_first

pub returns-clause-none : goal.returns-clause-none
returns-clause-none c = faultless_is_well_typed
