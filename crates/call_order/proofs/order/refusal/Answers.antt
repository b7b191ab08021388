use Rattle.pap_tree.specs.Flowchart.{flowchart_of}
use Rattle.call_order.specs.Chains.{ReachesItself}
use Rattle.call_order.proofs.WholeLemmas.{BeginsTooMany, known, declared_name, first_in, none_in}
use Rattle.call_order.proofs.order.refusal.Goals as goal

pub first_in_cycle-requires : goal.first_in_cycle-requires
first_in_cycle-requires c = known (flowchart_of c.args.t.now).methods _ c.requires.graph

pub returns-in-Ok-Some : goal.returns-in-Ok-Some
returns-in-Ok-Some c =
    let ms = (flowchart_of c.args.t.now).methods in
    let f = rw c.in-Ok-Some.field-0-is at c.in-Ok-Some.ensures in
    let h = first_in ms c.args.graph.now ReachesItself c.in-Ok-Some.number c.requires.graph f in
    (c.in-Ok-Some.number, h, declared_name _ _ _ _ c.plan.ensures.text c.index.ensures h.below)

pub returns-in-Ok-None : goal.returns-in-Ok-None
returns-in-Ok-None c =
    let ms = (flowchart_of c.args.t.now).methods in
    let f = rw c.in-Ok-None.field-0-is at c.in-Ok-None.ensures in
    let h = first_in ms c.args.graph.now BeginsTooMany c.args.first c.requires.graph c.requires.long in
    record {
      acyclic = none_in ms c.args.graph.now ReachesItself c.requires.graph f;
      first = (c.args.first, h, declared_name _ _ _ _ c.plan.ensures.text c.index-in-Ok-None.ensures h.below);
    }
