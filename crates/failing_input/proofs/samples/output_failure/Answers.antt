use Rattle.std.proofs.Common.{ap, ◌∙◌, length, arith}
use Rattle.std.proofs.lemmas.List.{length-map}
use Rattle.pap_tree.specs.Declarations.{declaration_of}
use Rattle.failing_input.proofs.OutputLemmas.{output_of}
use Rattle.failing_input.proofs.samples.output_failure.Goals as goal

pub output_beyond-requires : goal.output_beyond-requires
output_beyond-requires c =
    let ins = ap length (c.as_slice-inputs.ensures.value ∙ ap (λ p. p.inputs.items) c.plan-plan.ensures.text) in
    let outs = ap length (c.as_slice-outputs.ensures.value ∙ ap (λ p. p.outputs.items) c.plan-plan.ensures.text) in
    let all = length-map c.args.t.now.inputs.items declaration_of in
    let others = length-map c.args.t.now.outputs.items declaration_of in
    omega (arith, ins, outs, all, others, c.requires)

pub returns-in-Some : goal.returns-in-Some
returns-in-Some c =
    let ins = ap length (c.as_slice-inputs.ensures.value ∙ ap (λ p. p.inputs.items) c.plan-plan.ensures.text) in
    let outs = c.as_slice-outputs.ensures.value ∙ ap (λ p. p.outputs.items) c.plan-plan.ensures.text in
    output_of c.args.t.now _ c.as_slice-outputs.result.now c.args.values.now c.in-Some.name (omega (arith, ins)) outs c.in-Some.ensures
