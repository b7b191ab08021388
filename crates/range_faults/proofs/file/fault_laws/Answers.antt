use Rattle.range_faults.proofs.FaultLaws.{file_first, one_list}
use Rattle.range_faults.proofs.file.fault_laws.Goals as goal

pub returns-clause-one : goal.returns-clause-one
returns-clause-one c = one_list

pub returns-clause-first : goal.returns-clause-first
returns-clause-first c = file_first
