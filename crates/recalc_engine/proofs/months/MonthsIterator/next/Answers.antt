use Rattle.std.proofs.Common.{subst}
use Rattle.std.specs.Iterator.{YieldsFirstBy}
use Rattle.recalc_engine.specs.KeptRows.{ArePaired}
use Rattle.recalc_engine.specs.LentRows.{lent_row}
use Rattle.recalc_engine.proofs.MonthLemmas.{next_year}
use Rattle.recalc_engine.proofs.months.MonthsIterator.next.Goals as goal

pub returns-clause-steps : goal.returns-clause-steps
returns-clause-steps c =
    let parts = c.in_ok-year.ensures.cases.0 in
    let paired = (subst ArePaired parts c.self.invariant).0 in
    let given = subst (λ t. YieldsFirstBy lent_row (λ rest. rest) t c.next-2.result c.next-2.new.self) c.of-self-inside.ensures c.next-2.ensures.steps in
    rw (← c.self.view_is, c.in_default.ensures.steps.0) (next_year c.self.inside.years.now c.in_ok-year.years.now c.in_ok-year.year.now c.next-2.result c.next-2.new.self parts paired given)
