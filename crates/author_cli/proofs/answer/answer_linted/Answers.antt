use Rattle.std.proofs.Common.{subst}
use Rattle.author_cli.specs.Answers.{file_of}
use Rattle.author_cli.specs.Linted.{IsLinted}
use Rattle.author_cli.specs.private.AnswerViews.{answer_of}
use Rattle.author_cli.proofs.FrontLemmas.{linted_of}
use Rattle.author_cli.proofs.answer.answer_linted.Goals as goal

pub returns-clause-made : goal.returns-clause-made
returns-clause-made g c =
    let plan = c.args.plan.now in
    let limits = c.args.limits.now in
    let bytes = c.in_ok-plan_bytes.plan_bytes.items in
    let bytes' = c.in_ok-plan_bytes.limits_bytes.items in
    let made = answer_of c.in_ok-lint_plan.field-0 in
    let second = c.deref-2.result.now in
    let of_plan = subst (λ b. IsLinted (file_of plan b) (file_of limits second) made.text made.reason)
    c.deref.ensures.value c.in_ok-lint_plan.ensures in
    let of_both = subst (λ b. IsLinted (file_of plan bytes) (file_of limits b) made.text made.reason)
    c.deref-2.ensures.value of_plan in
    let read = c.in_ok-plan_bytes.ensures.read in (
      λ files told. linted_of files plan limits bytes bytes' made (read files told) of_both,
      c.in_ok-plan_bytes.ensures.kept,
    )
