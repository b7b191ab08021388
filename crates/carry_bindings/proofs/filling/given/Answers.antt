use Rattle.std.proofs.Common.{sym, ◌∙◌, arith}
use Rattle.std.proofs.Math.ListN.{length-map}
use Rattle.payroll_records.proofs.Laws.{place_within}
use Rattle.carry_bindings.proofs.NameLemmas.{given_at, given_none}
use Rattle.carry_bindings.proofs.filling.given.Goals as goal

pub offset_bounds-numbers-at : goal.offset_bounds-numbers-at
offset_bounds-numbers-at c =
    let within = place_within c.args.values.now c.args.slot.now.name c.in-Some.at (sym c.requires ∙ c.in-Some.is) in
    omega (arith, within, c.numbers.ensures.are.few)

pub bounds-numbers-at : goal.bounds-numbers-at
bounds-numbers-at c =
    let within = place_within c.args.values.now c.args.slot.now.name c.in-Some.at (sym c.requires ∙ c.in-Some.is) in
    rw c.numbers.ensures.all (omega (arith, within, length-map c.args.values.now (λ v. v.value)))

pub returns-in-Some : goal.returns-in-Some
returns-in-Some c =
    sym (given_at c.args.values.now c.args.slot.now c.in-Some.at c.index-numbers-at.result (sym c.requires ∙ c.in-Some.is) (rw c.numbers.ensures.all at c.index-numbers-at.is))

pub returns-in-None : goal.returns-in-None
returns-in-None c = sym (given_none c.args.values.now c.args.slot.now (sym c.requires ∙ c.in-None.is))
