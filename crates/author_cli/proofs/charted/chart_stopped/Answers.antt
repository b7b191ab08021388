use Rattle.std.proofs.Common.{sym, ◌∙◌}
use Rattle.pap_tree.specs.Flowchart.{flowchart_of}
use Rattle.plan_answers.proofs.Laws.{if_ok_map}
use Rattle.plain_words.specs.Places.{named_text}
use Rattle.pap_plan.specs.declared.refusal.PlanRefusal.TheVariants.{Range}
use Rattle.author_cli.specs.Answers.{ShowsRefused, ChartsRefused}
use Rattle.author_cli.specs.private.AnswerViews.{answer_of}
use Rattle.author_cli.proofs.ChartLemmas.{refused_found, chart_walked}
use Rattle.author_cli.proofs.charted.chart_stopped.Goals as goal

pub chart_walked-requires : goal.chart_walked-requires
chart_walked-requires c =
    refused_found (flowchart_of c.args.bound.now.typed) c.args.bound.now.limits c.args.refused.now
    (sym c.is_memory_fault.ensures ∙ c.if-is_memory_fault.false) c.requires.operands c.requires.reached c.requires.values
    c.requires.exits

pub returns : goal.returns
returns c =
    let plan = named_text c.args.plan in
    let limits = named_text c.args.limits in
    let f = flowchart_of c.args.bound.now.typed in
    let l = c.args.bound.now.limits in
    let fault = c.args.refused.now.fault in
    if_ok_map c.chart_walked.result (λ answer. ShowsRefused plan limits f l fault (answer_of answer))
    (λ answer. ChartsRefused (Range fault) plan limits (answer_of answer))
    (λ answer shows. chart_walked plan limits f l fault (answer_of answer) c.requires.bound.passed c.requires.fault
    (sym c.is_memory_fault.ensures ∙ c.if-is_memory_fault.false) shows)
    c.chart_walked.ensures
