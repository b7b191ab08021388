use Rattle.std.proofs.Common.{ap, arith, map}
use Rattle.std.proofs.lemmas.Result.{on_ok_weaker}
use Rattle.pap_tree.specs.Flowchart.{flowchart_of, body_of, routine_of}
use Rattle.pap_tree.specs.Statements.{written}
use Rattle.pap_types.specs.Counts.{methods_written}
use Rattle.flowchart_findings.proofs.FindingLemmas.{main_room, methods_room, three_parts}
use Rattle.flowchart_findings.proofs.flowchart.add_findings.Goals as goal

pub add_body-requires : goal.add_body-requires
add_body-requires c =
    let room = main_room (flowchart_of c.args.plan.now) _ c.requires.counted (ap (λ l. written (body_of l)) c.deref.ensures.value) in
    omega (arith, room)

pub add_methods-requires : goal.add_methods-requires
add_methods-requires c =
    let room = methods_room (flowchart_of c.args.plan.now) _ c.requires.counted (ap (λ l. methods_written (map routine_of l)) c.deref-2.ensures.value) in
    omega (arith, room)

pub returns : goal.returns
returns c =
    on_ok_weaker c.add_methods.result
    (λ three. three_parts c.args.names.now c.args.reached.now c.args.exits.now c.main.result c.args.plan.now c.deref.result.now
    c.deref-2.result.now c.args.out.now.items _ _ _ _ c.deref.ensures.value c.deref-2.ensures.value c.main.ensures
    c.in_ok-add_declarations.ensures c.in_ok-add_body.ensures three)
    c.add_methods.ensures
