use Rattle.payroll_records.specs.KeptValues.{listed}
use Rattle.payroll_records.proofs.ValueLemmas.{beyond, places}
use Rattle.payroll_records.proofs.values.Values.place.Goals as goal

pub returns-then-is_beyond-clause-absent : goal.returns-then-is_beyond-clause-absent
returns-then-is_beyond-clause-absent c =
    let behind = beyond (listed c.self.inside.names) c.self.inside.numbers.items c.args.name.now c.self.invariant (rw (c.is_beyond.ensures, c.as_slice-names.ensures) at c.if-is_beyond.true) in
    rw (← c.self.view_is, c.as_slice-names.ensures) behind

pub returns : goal.returns
returns c =
    let facts = c.binary_search.ensures in
    let both = places (listed c.self.inside.names) c.self.inside.numbers.items c.args.name.now c.binary_search.result c.self.invariant
    (rw c.as_slice-names.ensures at facts.bound) (rw c.as_slice-names.ensures at facts.position) in
    rw (← c.self.view_is) (record { found = both.0; absent = both.1 })
