use Rattle.pap_expr.proofs.constants.step.Goals as goal

pub returns-in-ClassPoint : goal.returns-in-ClassPoint
returns-in-ClassPoint c = rw c.in-ClassPoint.is (c.due.ensures 0)

pub returns-in-ValueOpen : goal.returns-in-ValueOpen
returns-in-ValueOpen c = rw c.in-ValueOpen.is (c.due-in-ValueOpen.ensures 0)

pub returns-in-NewOpen : goal.returns-in-NewOpen
returns-in-NewOpen c = rw c.in-NewOpen.is (c.due-in-NewOpen.ensures 0)

pub returns-in-Close : goal.returns-in-Close
returns-in-Close c = rw c.in-Close.is (c.close.ensures 1)
