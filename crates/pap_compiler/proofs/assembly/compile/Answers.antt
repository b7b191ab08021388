use Rattle.std.proofs.Common.{arith, ap, ◌∙◌, map, sym, subst}
use Rattle.pap_tree.specs.Flowchart.{flowchart_of, body_of, routine_of}
use Rattle.pap_compiler.specs.CodeDecisions.{body_length}
use Rattle.pap_compiler.specs.private.CodeDecisions.{methods_length}
use Rattle.pap_compiler.proofs.PlanLemmas.{length_small}
use Rattle.pap_types.proofs.Laws.{cost_at_most}
use Rattle.call_order.proofs.Laws.{bound_small}
use Rattle.pap_compiler.specs.Correct.{IsCodeOf}
use Rattle.pap_compiler.proofs.PlanRuns.{is_code}
use Rattle.pap_compiler.proofs.assembly.compile.Goals as goal

pub returns-clause-means : goal.returns-clause-means
returns-clause-means c =
    let f = flowchart_of c.args.t.now in
    let small = bound_small f c.args.order.now c.plan-plan.ensures.counted c.requires.ordered in
    subst (IsCodeOf f) (sym c.in_ok-code.ensures) (is_code f c.plan-plan.ensures.well_typed (λ inputs s. omega (arith, small, cost_at_most f inputs)))

pub layout_of-requires : goal.layout_of-requires
layout_of-requires c =
    let small = length_small (flowchart_of c.args.t.now) c.plan-plan.ensures.counted in
    let main = ap (λ b. body_length (body_of b)) (c.deref.ensures.value ∙ ap (λ p. p.main.items) c.plan-plan.ensures.text) in
    let methods = ap (λ l. methods_length (map routine_of l)) (c.deref-2.ensures.value ∙ ap (λ p. p.methods.items) c.plan-plan.ensures.text) in
    omega (arith, small, main, methods)
