use Rattle.std.proofs.Common.{sym, ◌∙◌}
use Rattle.plan_answers.proofs.Laws.{if_ok_map}
use Rattle.std.specs.Prelude.{Some}
use Rattle.plain_words.specs.Places.{named_text}
use Rattle.author_cli.specs.Answers.{IsChart, ChartsRefused}
use Rattle.author_cli.specs.private.AnswerViews.{answer_of}
use Rattle.author_cli.proofs.ChartLemmas.{chart_refused}
use Rattle.author_cli.proofs.charted.chart_refused.Goals as goal

pub returns : goal.returns
returns c =
    let plan = named_text c.args.plan in
    let limits = named_text c.args.limits in
    if_ok_map c.page_of.result (λ answer. IsChart plan (Some limits) (answer_of answer))
    (λ answer. ChartsRefused c.args.fault.now plan limits (answer_of answer))
    (λ answer page. chart_refused plan limits c.args.fault.now (answer_of answer) c.requires (sym c.is_memory.ensures ∙ c.if-is_memory.false) page)
    c.page_of.ensures
