use Rattle.std.proofs.lemmas.Result.{IfOk-weaker}
use Rattle.pap_tree.specs.Flowchart.{flowchart_of}
use Rattle.failing_input.specs.Searches.{IsSearchAnswer}
use Rattle.failing_input.specs.private.PartViews.{IsOutcome}
use Rattle.failing_input.proofs.PartLemmas.{passes_walk, fails_walk}
use Rattle.failing_input.proofs.WholeLemmas.{found_from}
use Rattle.failing_input.proofs.search.failing_input.Goals as goal

pub safe_whole-requires-clause-passed : goal.safe_whole-requires-clause-passed
safe_whole-requires-clause-passed c =
    passes_walk (flowchart_of c.args.t.now) c.args.limits.now c.in_ok-passed.passed c.if-passed.true c.in_ok-passed.ensures

pub returns-else-passed : goal.returns-else-passed
returns-else-passed c =
    let f = flowchart_of c.args.t.now in
    let limits = c.args.limits.now in
    IfOk-weaker c.search_parts.result (IsOutcome f limits) (IsSearchAnswer f limits)
    (λ s h. found_from f limits s (fails_walk f limits c.in_ok-passed.passed c.if-passed.false c.in_ok-passed.ensures) h)
    c.search_parts.ensures
