use Rattle.std.specs.Prelude.{string_bytes}
use Rattle.std.proofs.lemmas.Result.{IfOk-weaker}
use Rattle.pay_run.specs.Accepted.{accepted}
use Rattle.plain_words.specs.Places.{files_of}
use Rattle.plain_words.specs.States.{SaysState}
use Rattle.author_cli.specs.Given.{SaysGiven}
use Rattle.author_cli.proofs.GivenLemmas.{answers_state, first_given, has_reason}
use Rattle.author_cli.proofs.given.given_words.Goals as goal

pub unreachable-requires : goal.unreachable-requires
unreachable-requires c =
    has_reason (accepted c.args.judged.now) c.args.values.now c.args.state.now c.in_ok-reasons.reasons.items c.deref.result.now
    c.requires c.in_ok-reasons.ensures c.deref.ensures.value c.in_default.ensures.value

pub returns-clause-says : goal.returns-clause-says
returns-clause-says c =
    let p = accepted c.args.judged.now in
    let values = c.args.values.now in
    let files = files_of c.args.plan c.args.limits in
    let reason = c.in-Some.reason.now in
    let first =
    first_given p values c.in_ok-reasons.reasons.items c.deref.result.now reason c.in_ok-reasons.ensures c.deref.ensures.value
    c.in-Some.ensures.value in
    IfOk-weaker c.state_words.result (λ words. SaysState files reason (string_bytes words))
    (λ words. SaysGiven p values files c.args.state.now (string_bytes words))
    (λ words says. record {
      reason = reason;
      first = first;
      answer = answers_state p values c.args.state.now reason c.requires first;
      says = says;
    })
    c.state_words.ensures.place
