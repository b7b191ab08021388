use Rattle.std.proofs.Common.{arith}
use Rattle.payroll_records.proofs.DayTextLemmas.{with_zero, four_places, day_below_100}
use Rattle.payroll_records.proofs.day.DayDisplay.fmt.Goals as goal

pub returns-clause-writes : goal.returns-clause-writes
returns-clause-writes g c =
    let day = c.args.self.now in
    let exists = c.args.self.now.exists in
    let few = day_below_100 day.year day.month day.day exists in
    let year = four_places day.year (omega (arith, exists.years)) (omega (arith, exists.years)) in
    let month = with_zero day.month few.0 in
    let last = with_zero day.day few.1 in
    rw (c.laid_out.ensures, c.laid_out-2.ensures, month, last, year) at c.write.ensures.writes
