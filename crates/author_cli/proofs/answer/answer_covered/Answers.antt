use Rattle.std.proofs.Common.{subst}
use Rattle.author_cli.specs.Answers.{file_of}
use Rattle.author_cli.specs.Covered.{IsCoverAnswer}
use Rattle.author_cli.specs.private.AnswerViews.{answer_of}
use Rattle.author_cli.specs.private.WordViews.{medium_of}
use Rattle.author_cli.proofs.CoverFrontLemmas.{covered_of}
use Rattle.author_cli.proofs.answer.answer_covered.Goals as goal

pub returns-clause-made : goal.returns-clause-made
returns-clause-made g c =
    let plan = c.args.plan.now in
    let limits = c.args.limits.now in
    let table = c.args.table.now in
    let medium = medium_of c.args.medium in
    let least = c.args.least in
    let read = c.in_ok-read.read in
    let made = answer_of c.in_ok-cover_plan.field-0 in
    let second = c.deref-2.result.now in
    let third = c.deref-3.result.now in
    let of_plan = subst (λ b. IsCoverAnswer medium least (file_of plan b) (file_of limits second) third made.text made.reason)
    c.deref.ensures.value c.in_ok-cover_plan.ensures in
    let of_limits = subst (λ b. IsCoverAnswer medium least (file_of plan read.plan.items) (file_of limits b) third made.text made.reason)
    c.deref-2.ensures.value of_plan in
    let of_table = subst (λ b. IsCoverAnswer medium least (file_of plan read.plan.items) (file_of limits read.limits.items) b made.text made.reason)
    c.deref-3.ensures.value of_limits in (
      λ files told. covered_of files medium least plan limits table read made (c.in_ok-read.ensures.read files told) of_table,
      c.in_ok-read.ensures.kept,
    )
