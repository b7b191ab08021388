use Rattle.std.proofs.Common.{◌≡◌, None, ap, length, subst, arith}
use Rattle.pap_tree.specs.Flowchart.{flowchart_of}
use Rattle.call_order.specs.Faults.{IsFirstBelow}
use Rattle.call_order.specs.private.LevelViews.{level_at, HaveLevels, IsByLevel}
use Rattle.call_order.proofs.WholeLemmas.{known}
use Rattle.call_order.proofs.FoundLemmas.{long_fault, sorted}
use Rattle.call_order.proofs.order.by_chains.Goals as goal

pub levels_of-requires : goal.levels_of-requires
levels_of-requires c = known (flowchart_of c.args.t.now).methods c.args.graph.now c.requires.graph

pub refusal-requires : goal.refusal-requires
refusal-requires c =
    let first = subst (λ l. IsFirstBelow (λ k. level_at l k ≡ None) (length l) c.in-Some.first) c.deref.ensures.value c.in-Some.ensures in
    long_fault (flowchart_of c.args.t.now) _ _ _ c.requires.graph c.in_ok-levels.ensures first

pub by_level-requires-clause-few : goal.by_level-requires-clause-few
by_level-requires-clause-few c =
    let levels = ap length c.deref-2.ensures.value in
    omega (arith, levels, c.in_ok-levels.ensures.all, c.requires.few)

pub returns : goal.returns
returns c =
    let placed = subst HaveLevels c.deref.ensures.value c.in_default.ensures in
    let by = subst (λ l. IsByLevel l c.in_ok-by_level.field-0.items) c.deref-2.ensures.value c.in_ok-by_level.ensures in
    sorted (flowchart_of c.args.t.now) _ _ _ c.requires.graph c.in_ok-levels.ensures placed by
