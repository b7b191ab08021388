use Rattle.std.proofs.Common.{refl, arith}
use Rattle.payroll_records.specs.KeptValues.{listed, named_numbers}
use Rattle.payroll_records.proofs.ValueLemmas.{guessed, placed, place_within, would_go}
use Rattle.payroll_records.proofs.values.Values.look_up.Goals as goal

pub returns-then-stands_at : goal.returns-then-stands_at
returns-then-stands_at c =
    let there = rw (c.stands_at.ensures, c.as_slice-names.ensures) at c.if-stands_at.true in
    let at = guessed (listed c.self.inside.names) c.self.inside.numbers.items c.args.name.now c.args.guess.place c.self.invariant there in
    let within = place_within (named_numbers (listed c.self.inside.names) c.self.inside.numbers.items) c.args.name.now c.args.guess.place at in
    rw (← c.self.view_is, at) (record { place = refl; few = omega (arith, within, c.self.invariant.are.few) })

pub returns-then-goes_at-clause-place : goal.returns-then-goes_at-clause-place
returns-then-goes_at-clause-place c =
    let there = rw (c.goes_at.ensures, c.as_slice-names.ensures) at c.if-goes_at.true in
    rw (← c.self.view_is, would_go (listed c.self.inside.names) c.self.inside.numbers.items c.args.name.now c.args.guess.place c.self.invariant there) refl

pub returns-then-goes_at-2-clause-place : goal.returns-then-goes_at-2-clause-place
returns-then-goes_at-2-clause-place c =
    let there = rw (c.goes_at-2.ensures, c.as_slice-names.ensures) at c.if-goes_at-2.true in
    rw (← c.self.view_is, would_go (listed c.self.inside.names) c.self.inside.numbers.items c.args.name.now c.args.guess.gap c.self.invariant there) refl

pub returns-in-Ok : goal.returns-in-Ok
returns-in-Ok c =
    let facts = c.binary_search.ensures in
    let at = placed (listed c.self.inside.names) c.self.inside.numbers.items c.args.name.now c.binary_search.result c.self.invariant
    (rw c.as_slice-names.ensures at facts.bound) (rw c.as_slice-names.ensures at facts.position) in
    let here = rw c.in-Ok.is at at in
    let within = place_within (named_numbers (listed c.self.inside.names) c.self.inside.numbers.items) c.args.name.now c.in-Ok.at here in
    rw (← c.self.view_is, here) (record { place = refl; few = omega (arith, within, c.self.invariant.are.few) })

pub returns-in-Err-clause-place : goal.returns-in-Err-clause-place
returns-in-Err-clause-place c =
    let facts = c.binary_search.ensures in
    let at = placed (listed c.self.inside.names) c.self.inside.numbers.items c.args.name.now c.binary_search.result c.self.invariant
    (rw c.as_slice-names.ensures at facts.bound) (rw c.as_slice-names.ensures at facts.position) in
    rw (← c.self.view_is, at, c.in-Err.is) refl
