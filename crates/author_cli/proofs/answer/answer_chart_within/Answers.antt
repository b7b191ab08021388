use Rattle.std.proofs.Common.{subst}
use Rattle.author_cli.specs.Answers.{IsChartWithin, file_of}
use Rattle.author_cli.specs.private.AnswerViews.{answer_of}
use Rattle.author_cli.proofs.FrontLemmas.{chart_within_of}
use Rattle.author_cli.proofs.answer.answer_chart_within.Goals as goal

pub returns-clause-made : goal.returns-clause-made
returns-clause-made g c =
    let plan = c.args.plan.now in
    let limits = c.args.limits.now in
    let bytes = c.in_ok-plan_bytes.plan_bytes.items in
    let bytes' = c.in_ok-plan_bytes.limits_bytes.items in
    let page = answer_of c.in_ok-chart_within.field-0 in
    let second = c.deref-2.result.now in
    let of_plan = subst (λ b. IsChartWithin (file_of plan b) (file_of limits second) page)
    c.deref.ensures.value c.in_ok-chart_within.ensures in
    let of_both = subst (λ b. IsChartWithin (file_of plan bytes) (file_of limits b) page)
    c.deref-2.ensures.value of_plan in
    let read = c.in_ok-plan_bytes.ensures.read in (
      λ files told. chart_within_of files plan limits bytes bytes' page (read files told) of_both,
      c.in_ok-plan_bytes.ensures.kept,
    )
