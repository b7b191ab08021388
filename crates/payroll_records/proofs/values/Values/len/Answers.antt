use Rattle.std.proofs.Common.{arith}
use Rattle.payroll_records.specs.KeptValues.{listed}
use Rattle.payroll_records.proofs.ValueLemmas.{named_length}
use Rattle.payroll_records.proofs.values.Values.len.Goals as goal

pub returns-clause-all : goal.returns-clause-all
returns-clause-all c =
    let same = named_length (listed c.self.inside.names) c.self.inside.numbers.items c.self.invariant.same in
    rw (← c.self.view_is) (omega (arith, same, c.len.ensures, c.self.inside.numbers.ok))

pub returns-clause-few : goal.returns-clause-few
returns-clause-few c =
    let same = named_length (listed c.self.inside.names) c.self.inside.numbers.items c.self.invariant.same in
    omega (arith, same, c.len.ensures, c.self.inside.numbers.ok, c.self.invariant.are.few)
