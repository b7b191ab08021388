use Rattle.plan_answers.proofs.Laws.{its_plan}
use Rattle.pap_plan.proofs.Laws.{refused_or}
use Rattle.pap_cli.proofs.answer.refused_reply.Goals as goal

pub refused-requires : goal.refused-requires
refused-requires c =
    let plan = c.args.plan.bytes.now in
    let limits = c.args.limits.bytes.now in
    let refusal = c.args.told.now.refusal in
    its_plan plan limits refusal (refused_or plan limits refusal c.requires.refused)
