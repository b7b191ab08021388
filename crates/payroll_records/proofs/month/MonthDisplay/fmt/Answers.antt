use Rattle.std.proofs.Common.{arith}
use Rattle.payroll_records.proofs.DayTextLemmas.{with_zero, four_places}
use Rattle.payroll_records.proofs.month.MonthDisplay.fmt.Goals as goal

pub returns-clause-writes : goal.returns-clause-writes
returns-clause-writes g c =
    let exists = c.args.self.now.exists in
    let year = four_places c.args.self.now.year (omega (arith, exists.years)) (omega (arith, exists.years)) in
    let month = with_zero c.args.self.now.month (omega (arith, exists.to)) in
    rw (c.laid_out.ensures, month, year) at c.write.ensures.writes
