use Rattle.std.proofs.Common.{◌≡◌, subst}
use Rattle.outside.specs.Told.{AppendsShort}
use Rattle.author_cli.specs.private.AnswerViews.{answer_of}
use Rattle.author_cli.proofs.answer.write_answer.Goals as goal

pub returns-clause-leaves : goal.returns-clause-leaves
returns-clause-leaves g c =
    let made = c.in_ok-text.field-0 in
    let value = c.deref.ensures.value in
    let text_is = c.in_ok-text.text-is in
    let same : c.deref.result.now ≡ made.text.items = cc in
    let before = g.W.Sink.written c.args.sink.now in
    let after = g.W.Sink.written c.put_all.new.sink in
    record {
      answer = answer_of made;
      written = subst (λ t. AppendsShort before after t) same c.in-Err.ensures.err;
      answers = c.in_ok-text.ensures.made.0;
      kept = c.in_ok-text.ensures.made.1;
    }
