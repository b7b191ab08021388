use Rattle.std.proofs.Common.{subst}
use Rattle.outside.specs.Told.{IsToldFront}
use Rattle.author_cli.specs.Answers.{IsRanges, file_of}
use Rattle.author_cli.specs.private.AnswerViews.{answer_of}
use Rattle.author_cli.proofs.FrontLemmas.{ranges_of}
use Rattle.author_cli.proofs.answer.answer_ranges.Goals as goal

pub returns-clause-made : goal.returns-clause-made
returns-clause-made g c =
    let plan = c.args.plan.now in
    let bytes = c.in_ok-bytes.bytes.items in
    let begun = answer_of c.in_ok-ranges_of.field-0 in (
      λ files told. ranges_of files plan bytes begun
          (subst (λ t. IsToldFront t plan 1048577 bytes) told c.in_ok-bytes.ensures.front)
          (subst (λ b. IsRanges (file_of plan b) begun) c.deref.ensures.value c.in_ok-ranges_of.ensures),
      c.in_ok-bytes.ensures.cause.kept_ok,
    )
