use Rattle.std.proofs.Common.{true, arith, refl, ◌∙◌}
use Rattle.std.proofs.lemmas.List.{length-set}
use Rattle.call_order.proofs.LevelLemmas.{read_at}
use Rattle.call_order.proofs.MarkLemmas.{marking_more, marking_done, left_less, known_next, executes_next}
use Rattle.call_order.proofs.cycles.+mark.Goals as goal

pub mark-requires : goal.mark-requires
mark-requires t c =
    let is = read_at c.args.graph.now c.args.method c.index-graph-i.result c.methods-next-items.result.now c.index-graph-i.is c.requires.method c.methods-next-items.ensures in
    let h = left_less c.args.graph.now c.args.method c.args.seen.now (omega (arith, c.requires.all, c.requires.method)) c.if-seen-i.false in
    (omega (arith, h, c.loop-next.invariant.fewer), (c.requires.known, (c.loop-next.auto.seen ∙ length-set c.args.seen.now c.args.method true ∙ c.requires.all, known_next c.args.graph.now c.args.method _ _ c.requires.known is c.loop-next-test.true)))

pub loop-next-preserved : goal.loop-next-preserved
loop-next-preserved t c =
    let is = read_at c.args.graph.now c.args.method c.index-graph-i.result c.methods-next-items.result.now c.index-graph-i.is c.requires.method c.methods-next-items.ensures in
    marking_more _ _ _ _ _ _ c.loop-next.seen _ c.loop-next.invariant refl (executes_next c.args.graph.now c.args.method _ _ is c.loop-next-test.true) c.mark.ensures.marked c.mark.ensures.marks

pub returns-clause-marks : goal.returns-clause-marks
returns-clause-marks t c =
    let is = read_at c.args.graph.now c.args.method c.index-graph-i.result c.methods-next-items.result.now c.index-graph-i.is c.requires.method c.methods-next-items.ensures in
    marking_done _ _ _ _ _ _ _ (omega (arith, c.requires.all, c.requires.method)) refl c.if-seen-i.false c.loop-next.invariant c.loop-next-test.false is
