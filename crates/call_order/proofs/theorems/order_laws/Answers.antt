use Rattle.call_order.proofs.AnswerLemmas.{some, never_both, one_fault}
use Rattle.call_order.proofs.Standing.{calls_stand}
use Rattle.call_order.proofs.theorems.order_laws.Goals as goal

pub returns-clause-one_answer : goal.returns-clause-one_answer
returns-clause-one_answer c = record { some = some; never_both = never_both; one_fault = one_fault }

pub returns-clause-calls : goal.returns-clause-calls
returns-clause-calls c = calls_stand
