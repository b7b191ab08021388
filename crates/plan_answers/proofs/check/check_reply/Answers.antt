use Rattle.std.proofs.Common.{◌≡◌}
use Rattle.pap_plan.specs.Plans.{meaning}
use Rattle.plan_answers.specs.Answers.{acceptance, IsRefusal, CheckAnswers}
use Rattle.plan_answers.specs.Replies.{reply_of}
use Rattle.plan_answers.proofs.AnswerLemmas.{its_plan}
use Rattle.plan_answers.proofs.ReplyLemmas.{if_ok_map, check_accepted, check_refused}
use Rattle.plan_answers.proofs.check.check_reply.Goals as goal

pub refused-requires : goal.refused-requires
refused-requires c = its_plan c.args.plan.now c.args.limits.now c.in-Err.fault c.in-Err.ensures.refused

pub returns-in-Err : goal.returns-in-Err
returns-in-Err c =
    if_ok_map c.refused.result (λ reply. IsRefusal c.args.plan.now c.in-Err.fault (reply_of reply)) (λ reply. CheckAnswers c.args.plan.now c.args.limits.now (reply_of reply))
    (λ reply h. check_refused c.args.plan.now c.args.limits.now c.in-Err.fault (reply_of reply) c.in-Err.ensures.refused h) c.refused.ensures

pub returns-in-Ok : goal.returns-in-Ok
returns-in-Ok c =
    if_ok_map c.acceptance.result (λ reply. reply_of reply ≡ acceptance (meaning c.in-Ok.plan)) (λ reply. CheckAnswers c.args.plan.now c.args.limits.now (reply_of reply))
    (λ reply h. check_accepted c.args.plan.now c.args.limits.now c.in-Ok.plan (reply_of reply) c.in-Ok.ensures.accepted h) c.acceptance.ensures
