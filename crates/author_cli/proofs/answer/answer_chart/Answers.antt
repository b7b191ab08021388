use Rattle.std.proofs.Common.{None, subst}
use Rattle.outside.specs.Told.{IsToldFront}
use Rattle.author_cli.specs.Answers.{IsChart, file_of}
use Rattle.author_cli.specs.private.AnswerViews.{answer_of}
use Rattle.author_cli.proofs.FrontLemmas.{chart_of}
use Rattle.author_cli.proofs.answer.answer_chart.Goals as goal

pub returns-clause-made : goal.returns-clause-made
returns-clause-made g c =
    let plan = c.args.plan.now in
    let bytes = c.in_ok-bytes.bytes.items in
    let page = answer_of c.in_ok-page_of.field-0 in (
      λ files told. chart_of files plan bytes page
          (subst (λ t. IsToldFront t plan 1048577 bytes) told c.in_ok-bytes.ensures.front)
          (subst (λ b. IsChart (file_of plan b) None page) c.deref.ensures.value c.in_ok-page_of.ensures),
      c.in_ok-bytes.ensures.cause.kept_ok,
    )
