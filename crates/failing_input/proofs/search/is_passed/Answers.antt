use Rattle.std.proofs.lemmas.Result.{IfOk-weaker}
use Rattle.pap_tree.specs.Flowchart.{flowchart_of}
use Rattle.failing_input.specs.private.PartViews.{IsWalked, IsEnd}
use Rattle.failing_input.proofs.PartLemmas.{judged}
use Rattle.failing_input.proofs.search.is_passed.Goals as goal

pub returns : goal.returns
returns c =
    let f = flowchart_of c.args.t.now in
    let limits = c.args.limits.now in
    IfOk-weaker c.has_passed.result (IsEnd c.analyse.result) (IsWalked f limits)
    (λ b h. judged f limits c.analyse.result b c.analyse.ensures.ranges c.analyse.ensures.fault h) c.has_passed.ensures
