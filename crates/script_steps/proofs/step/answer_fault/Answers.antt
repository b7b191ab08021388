use Rattle.script_steps.specs.private.Replies.{reply_of}
use Rattle.script_steps.proofs.WriteLemmas.{refusal_unwritten}
use Rattle.script_steps.proofs.step.answer_fault.Goals as goal

pub returns-clause-err : goal.returns-clause-err
returns-clause-err g c = λ e is.
    refusal_unwritten (g.W.Sink.written c.args.sink.now) (g.W.Sink.written c.write_reply.new.sink) c.args.fault.now
    (reply_of c.in_ok-reply.reply) e c.in_ok-reply.ensures (c.write_reply.ensures.alone e is)
    (c.write_reply.ensures.err e is)
