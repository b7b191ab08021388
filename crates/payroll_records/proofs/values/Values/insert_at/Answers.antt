use Rattle.std.proofs.Common.{◌≡◌, rules, arith}
use Rattle.std.specs.List.{insert}
use Rattle.payroll_records.specs.KeptValues.{listed}
use Rattle.payroll_records.proofs.ValueLemmas.{at_most, kept_put, named_length, value_put}
use Rattle.payroll_records.proofs.values.Values.insert_at.Goals as goal

pub insert-requires-clause-within : goal.insert-requires-clause-within
insert-requires-clause-within c =
    let gap = rw (← c.self.view_is) at c.requires.gap in
    at_most (listed c.self.inside.names) c.self.inside.numbers.items c.args.at c.args.item c.self.invariant gap

pub insert-requires-clause-few : goal.insert-requires-clause-few
insert-requires-clause-few c =
    let few = rw (← c.self.view_is) at c.requires.few in
    let same = c.self.invariant.same in
    let length = named_length (listed c.self.inside.names) c.self.inside.numbers.items same in
    omega (arith, few, same, length)

pub insert-requires-2 : goal.insert-requires-2
insert-requires-2 c =
    let gap = rw (← c.self.view_is) at c.requires.gap in
    let same = c.self.invariant.same in
    let low = at_most (listed c.self.inside.names) c.self.inside.numbers.items c.args.at c.args.item c.self.invariant gap in
    omega (arith, low, same, c.self.inside.numbers.ok, c.reserve.ensures.len)

pub invariant_of-self-2 : goal.invariant_of-self-2
invariant_of-self-2 c =
    let gap = rw (← c.self.view_is) at c.requires.gap in
    let few = rw (← c.self.view_is) at c.requires.few in
    let names : listed c.insert.new.self ≡ insert (listed c.self.inside.names) c.args.at c.args.item.name = search rules in
    let numbers : c.insert-2.new.self.items ≡ insert c.self.inside.numbers.items c.args.at c.args.item.value = search rules in
    rw (names, numbers) (kept_put (listed c.self.inside.names) c.self.inside.numbers.items c.args.at c.args.item c.self.invariant gap few)

pub returns-clause-ok : goal.returns-clause-ok
returns-clause-ok c =
    let gap = rw (← c.self.view_is) at c.requires.gap in
    let names : listed c.insert.new.self ≡ insert (listed c.self.inside.names) c.args.at c.args.item.name = search rules in
    let numbers : c.insert-2.new.self.items ≡ insert c.self.inside.numbers.items c.args.at c.args.item.value = search rules in
    rw (names, numbers, ← c.self.view_is) (value_put (listed c.self.inside.names) c.self.inside.numbers.items c.args.at c.args.item c.self.invariant gap)
