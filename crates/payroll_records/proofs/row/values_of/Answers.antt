use Rattle.payroll_records.proofs.row.values_of.Goals as goal

pub returns-clause-supplied : goal.returns-clause-supplied
returns-clause-supplied c = rw c.given_in.ensures c.in_ok-values.ensures.supplied

pub returns-clause-in_order : goal.returns-clause-in_order
returns-clause-in_order c = rw c.given_in.ensures c.in_ok-values.ensures.in_order
