use Rattle.pap_plan.proofs.AnswerLaws.{some, one}
use Rattle.pap_plan.proofs.AcceptedLaws.{never_fail, small_bounds, ranges_named, judged_read, ordered_walked, judged_rows}
use Rattle.pap_plan.proofs.acceptance.acceptance_laws.Goals as goal

pub returns-clause-some : goal.returns-clause-some
returns-clause-some c = some

pub returns-clause-one : goal.returns-clause-one
returns-clause-one c = one

pub returns-clause-runs : goal.returns-clause-runs
returns-clause-runs c = never_fail

pub returns-clause-bound : goal.returns-clause-bound
returns-clause-bound c = small_bounds

pub returns-clause-ranges : goal.returns-clause-ranges
returns-clause-ranges c = ranges_named

pub returns-clause-read : goal.returns-clause-read
returns-clause-read c = judged_read

pub returns-clause-walk : goal.returns-clause-walk
returns-clause-walk c = ordered_walked

pub returns-clause-rows : goal.returns-clause-rows
returns-clause-rows c = judged_rows
