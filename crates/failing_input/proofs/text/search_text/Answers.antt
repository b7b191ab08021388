use Rattle.std.proofs.Common.{ap, ◌∙◌, subst, length, arith}
use Rattle.std.proofs.lemmas.List.{length-map}
use Rattle.pap_tree.specs.Declarations.{declaration_of}
use Rattle.pap_tree.specs.Flowchart.{flowchart_of}
use Rattle.failing_input.specs.Searches.{IsSearchAnswer}
use Rattle.failing_input.proofs.PartLemmas.{admitted_many}
use Rattle.failing_input.proofs.text.search_text.Goals as goal

pub fails_text-requires : goal.fails_text-requires
fails_text-requires c =
    let f = flowchart_of c.args.t.now in
    let h = subst (IsSearchAnswer f c.args.limits.now) c.in-Fails.is c.requires in
    let same = admitted_many c.args.limits.now f.inputs c.in-Fails.inputs.items h.admitted in
    let ins = ap length (c.as_slice.ensures.value ∙ ap (λ p. p.inputs.items) c.plan.ensures.text) in
    let all = length-map c.args.t.now.inputs.items declaration_of in
    let vs = ap length c.as_slice-in-Fails.ensures.value in
    omega (arith, same, ins, all, vs)
