use Rattle.std.proofs.Common.{inl, inr, map}
use Rattle.pap_tree.specs.Flowchart.{flowchart_of}
use Rattle.interval_analysis.specs.Answers.{named_range}
use Rattle.plan_answers.proofs.Laws.{if_ok_map}
use Rattle.plain_words.specs.Places.{named_text}
use Rattle.pap_plan.specs.declared.refusal.PlanRefusal.TheVariants.{Range}
use Rattle.author_cli.specs.Answers.{ShowsRanges, ChartsRefused, IsChartWithin}
use Rattle.author_cli.specs.private.AnswerViews.{answer_of}
use Rattle.author_cli.proofs.ChartLemmas.{chart_accepted}
use Rattle.author_cli.proofs.charted.chart_bound.Goals as goal

pub returns-in-Ok : goal.returns-in-Ok
returns-in-Ok c =
    let plan = named_text c.args.plan in
    let limits = named_text c.args.limits in
    let f = flowchart_of c.args.bound.now.typed in
    let l = c.args.bound.now.limits in
    if_ok_map c.chart_ranges.result (λ answer. ShowsRanges plan limits f l (answer_of answer))
    (λ answer. IsChartWithin plan limits (answer_of answer))
    (λ answer shows. inl (chart_accepted plan limits f l (map named_range c.in-Ok.survey.verdict.outputs.items) (answer_of answer)
    c.requires.passed c.in-Ok.ensures.ranges shows))
    c.chart_ranges.ensures

pub returns-in-Err : goal.returns-in-Err
returns-in-Err c =
    let plan = named_text c.args.plan in
    let limits = named_text c.args.limits in
    let fault = c.in-Err.refused.fault in
    if_ok_map c.chart_stopped.result (λ answer. ChartsRefused (Range fault) plan limits (answer_of answer))
    (λ answer. IsChartWithin plan limits (answer_of answer)) (λ answer h. inr (Range fault, h)) c.chart_stopped.ensures
