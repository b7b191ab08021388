use Rattle.std.proofs.Common.{◌≡◌, ◌<◌, false, true, sym, ◌∙◌, length, arith}
use Rattle.std.proofs.lemmas.List.{get_or_default}
use Rattle.std.proofs.Math.ListN.{length-map}
use Rattle.payroll_records.specs.NamedValues.{name_of}
use Rattle.carry_bindings.specs.Filling.{takes}
use Rattle.carry_bindings.specs.private.Views.{taken}
use Rattle.carry_bindings.proofs.NameLemmas.{name_known, name_unknown, taken_at}
use Rattle.carry_bindings.proofs.names.unknown.Goals as goal

pub returns-then-not-marks-at : goal.returns-then-not-marks-at
returns-then-not-marks-at c =
    let slots = c.args.slots.now in
    let values = c.args.values.now in
    let name = c.name-item.result in
    let within = rw c.names-name-items.ensures.all at c.loop-at-test.true in
    let is = rw c.names-name-items.ensures.all at c.name-item.is in
    let mark = rw c.requires at c.if-not-marks-at.true in
    let none : takes slots name ≡ false = sym (taken_at slots values c.loop-at.at name false within is (sym mark)) in
    sym (sym c.loop-at.invariant ∙ name_unknown slots values c.loop-at.at name within is none)

pub loop-at-preserved : goal.loop-at-preserved
loop-at-preserved c =
    let slots = c.args.slots.now in
    let values = c.args.values.now in
    let name = c.name-item.result in
    let within = rw c.names-name-items.ensures.all at c.loop-at-test.true in
    let is = rw c.names-name-items.ensures.all at c.name-item.is in
    let mark = rw c.requires at c.if-not-marks-at.false in
    let inside : c.loop-at.at < length (taken slots values) = omega (arith, within, length-map values name_of, length-map values (λ v. takes slots v.name)) in
    let same = get_or_default (taken slots values) c.loop-at.at true false inside ∙ mark in
    let some : takes slots name ≡ true = sym (taken_at slots values c.loop-at.at name true within is (sym same)) in
    name_known slots values c.loop-at.at name within is some ∙ c.loop-at.invariant
