use Rattle.std.proofs.Common.{[], arith}
use Rattle.payroll_records.specs.KeptValues.{listed}
use Rattle.payroll_records.specs.declared.values.NamedValue.{NamedValue}
use Rattle.payroll_records.proofs.ValueLemmas.{named_length, number_at}
use Rattle.payroll_records.proofs.values.Values.find.Goals as goal

pub index-requires : goal.index-requires
index-requires c =
    let within = rw (← c.self.view_is) at c.in-Ok.ensures.found.within in
    let same = named_length (listed c.self.inside.names) c.self.inside.numbers.items c.self.invariant.same in
    omega (arith, within, same, c.self.inside.numbers.ok)

pub returns-in-Ok : goal.returns-in-Ok
returns-in-Ok c =
    let names = listed c.self.inside.names in
    let numbers = c.self.inside.numbers.items in
    let v : NamedValue = record { name = []; value = c.index.result.now } in
    let at = rw (← c.self.view_is) at (c.in-Ok.ensures.found.at v) in
    rw (← c.self.view_is, at, number_at names numbers c.in-Ok.at v c.self.invariant.same, ← c.index.ensures)
