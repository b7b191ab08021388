use Rattle.plan_answers.proofs.Laws.{its_plan}
use Rattle.author_cli.proofs.traced.answer_refused.Goals as goal

pub refused-requires : goal.refused-requires
refused-requires c = its_plan c.args.plan.bytes.now c.args.limits.bytes.now c.args.fault.now c.requires
