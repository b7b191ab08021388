use Rattle.std.proofs.Common.{refl}
use Rattle.plan_answers.specs.Replies.{reply_of}
use Rattle.flowchart_page.proofs.HeaderLemmas.{line_written}
use Rattle.flowchart_page.proofs.verdict.refusal_line.Goals as goal

pub returns : goal.returns
returns c =
    line_written c.args.plan.now c.args.refusal.now (reply_of c.in_ok-reply.reply) c.in_ok-reply.reply.text.items
    c.pop.new.self.items c.in_ok-reply.reply.text.len c.in_ok-reply.ensures refl c.in_ok-reply.reply.text.ok.0
    c.pop.ensures.rest
