use Rattle.std.proofs.Common.{refl}
use Rattle.call_order.proofs.LevelLemmas.{read_at}
use Rattle.call_order.proofs.MarkLemmas.{marking_more, itself, known_next, executes_next}
use Rattle.call_order.proofs.cycles.marks_itself.Goals as goal

pub mark-requires-clause-method : goal.mark-requires-clause-method
mark-requires-clause-method c =
    let is = read_at c.args.graph.now c.args.method c.index-graph-method.result c.methods-next-items.result.now c.index-graph-method.is c.requires.method c.methods-next-items.ensures in
    known_next c.args.graph.now c.args.method _ _ c.requires.known is c.loop-next-test.true

pub loop-next-preserved : goal.loop-next-preserved
loop-next-preserved c =
    let is = read_at c.args.graph.now c.args.method c.index-graph-method.result c.methods-next-items.result.now c.index-graph-method.is c.requires.method c.methods-next-items.ensures in
    marking_more _ _ _ _ _ _ c.loop-next.seen _ c.loop-next.invariant refl (executes_next c.args.graph.now c.args.method _ _ is c.loop-next-test.true) c.mark.ensures.marked c.mark.ensures.marks

pub returns : goal.returns
returns c =
    let is = read_at c.args.graph.now c.args.method c.index-graph-method.result c.methods-next-items.result.now c.index-graph-method.is c.requires.method c.methods-next-items.ensures in
    itself _ _ _ _ _ _ _ c.requires.unmarked c.loop-next.invariant c.loop-next-test.false is refl
