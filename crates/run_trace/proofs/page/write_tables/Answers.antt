use Rattle.std.proofs.Common.{◌∙◌, ap, map, length, arith}
use Rattle.std.proofs.lemmas.Result.{on_ok_weaker}
use Rattle.std.proofs.lemmas.List.{length-map}
use Rattle.pap_tree.specs.Declarations.{declaration_of}
use Rattle.pap_plan.specs.Plans.{flowchart}
use Rattle.run_trace.proofs.StepLemmas.{as_many}
use Rattle.run_trace.proofs.PageLemmas.{tables_added}
use Rattle.run_trace.proofs.page.write_tables.Goals as goal

pub write_inputs-requires : goal.write_inputs-requires
write_inputs-requires c =
    let inputs = c.args.inputs.now in
    let many = as_many (flowchart c.args.plan.now).inputs inputs (c.text.ensures.safe inputs c.requires).given in
    let declared = ap (map declaration_of) (c.as_slice-declared.ensures.value ∙ ap (λ p. p.inputs.items) (c.plan.ensures.text ∙ c.text.ensures.text)) in
    let counted = length-map c.as_slice-declared.result.now declaration_of in
    let same = ap (λ l. length l) declared in
    omega (arith, many, counted, same)

pub returns : goal.returns
returns c =
    let declared = ap (map declaration_of) (c.as_slice-declared.ensures.value ∙ ap (λ p. p.inputs.items) (c.plan.ensures.text ∙ c.text.ensures.text)) in
    on_ok_weaker c.write_cost.result
    (λ three. tables_added c.args.plan.now c.args.given.now c.args.inputs.now c.in_ok-finished.finished
    c.as_slice-declared.result.now c.bound.result c.as_slice.result.now c.args.part.now c.put.new.self
    c.write_inputs.new.part c.write_outputs.new.part c.write_cost.new.part c.in_ok-finished.ensures declared
    c.as_slice.ensures c.bound.ensures.bound c.in_ok-put.ensures c.in_ok-write_inputs.ensures c.in_ok-write_outputs.ensures
    three)
    c.write_cost.ensures
