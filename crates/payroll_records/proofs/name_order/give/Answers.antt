use Rattle.std.proofs.Common.{◌≡◌, ◌∙◌, arith, rules, length, ◌<◌, get_or, true, false}
use Rattle.std.proofs.lemmas.List.{get_or_default}
use Rattle.payroll_records.specs.declared.values.NamedValue.{NamedValue}
use Rattle.payroll_records.proofs.GivenLemmas.{one_given}
use Rattle.payroll_records.proofs.name_order.give.Goals as goal

pub returns-clause-one : goal.returns-clause-one
returns-clause-one c = λ yes.
    let v : NamedValue = record { name = c.index-names-place.result; value = c.in-Some.value } in
    let within : c.args.place < length c.args.names.now = omega (arith, c.if-place-names.false) in
    let long : length c.args.given.now ≡ 256 = search rules in
    let inside : c.args.place < length c.args.given.now = omega (arith, long, within, c.requires.are.few) in
    let free : get_or c.args.given.now c.args.place false ≡ false = c.if-given-place.false in
    let more = one_given c.args.names.now c.args.numbers.now.items c.args.given.now c.args.place v c.requires.are.rising within
    (omega (arith, within, c.requires.long)) inside c.index-names-place.is (get_or_default c.args.given.now c.args.place true false inside ∙ free) in
    record { value = v; is = c.in-Some.ensures; is_new = more.is_new; put = more.put }
