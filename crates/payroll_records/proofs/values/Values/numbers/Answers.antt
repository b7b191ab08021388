use Rattle.std.proofs.Common.{◌∙◌, sym}
use Rattle.payroll_records.specs.KeptValues.{listed}
use Rattle.payroll_records.proofs.ValueLemmas.{numbers_are}
use Rattle.payroll_records.proofs.values.Values.numbers.Goals as goal

pub returns-clause-all : goal.returns-clause-all
returns-clause-all c = rw (← c.self.view_is) (c.as_slice.ensures.value ∙ sym (numbers_are (listed c.self.inside.names) _ c.self.invariant.same))
