use Rattle.std.proofs.Common.{◌∙◌, sym}
use Rattle.payroll_records.proofs.ValueLemmas.{names_are}
use Rattle.payroll_records.proofs.values.Values.names.Goals as goal

pub returns-clause-all : goal.returns-clause-all
returns-clause-all c = rw (← c.self.view_is) (c.as_slice.ensures ∙ sym (names_are _ c.self.inside.numbers.items c.self.invariant.same))
