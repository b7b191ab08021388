use Rattle.std.proofs.Common.{arith, ap, length, map, ◌∙◌}
use Rattle.pap_tree.specs.Flowchart.{body_of, routine_of}
use Rattle.pap_compiler.specs.CodeDecisions.{body_length}
use Rattle.pap_compiler.specs.private.CodeDecisions.{methods_length}
use Rattle.pap_compiler.specs.private.NameViews.{plan_in}
use Rattle.pap_compiler.proofs.PlanLemmas.{length_small}
use Rattle.pap_compiler.proofs.assembly.emit_plan.Goals as goal

pub emit_body-requires-clause-room : goal.emit_body-requires-clause-room
emit_body-requires-clause-room c =
    let small = length_small (plan_in c.args.names.now) c.plan-plan.ensures.counted in
    let main = ap (λ b. body_length (body_of b)) (c.deref.ensures.value ∙ ap (λ p. p.main.items) c.plan-plan.ensures.text) in
    omega (arith, small, main, ap length c.requires.empty)

pub emit_methods-requires-clause-room : goal.emit_methods-requires-clause-room
emit_methods-requires-clause-room c =
    let small = length_small (plan_in c.args.names.now) c.plan-plan.ensures.counted in
    let main = ap (λ b. body_length (body_of b)) (c.deref.ensures.value ∙ ap (λ p. p.main.items) c.plan-plan.ensures.text) in
    let methods = ap (λ l. methods_length (map routine_of l)) (c.deref-2.ensures.value ∙ ap (λ p. p.methods.items) c.plan-plan.ensures.text) in
    let first = c.in_ok-emit_body.ensures.place in
    let second = c.in_ok-put.ensures.place in
    omega (arith, small, main, methods, first, second, ap length c.requires.empty)
