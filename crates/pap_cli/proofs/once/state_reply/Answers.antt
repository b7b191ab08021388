use Rattle.std.proofs.Common.{◌∙◌, subst}
use Rattle.std.specs.Prelude.{string_bytes}
use Rattle.plain_words.specs.Places.{files_of}
use Rattle.diagnostics.specs.FaultLines.{IsStateLine, TellsEach}
use Rattle.pap_cli.proofs.ReasonLemmas.{state_answer}
use Rattle.pap_cli.proofs.once.state_reply.Goals as goal

pub returns-clause-answer : goal.returns-clause-answer
returns-clause-answer c = λ f.
    let reply = c.in_ok-reply.reply in
    state_answer f c.args.state.now reply.text.items reply.refused reply.steps (c.in_ok-reply.ensures f)

pub returns-clause-reason : goal.returns-clause-reason
returns-clause-reason c =
    let text = string_bytes c.in_ok-reason.reason in
    subst (λ l. TellsEach (IsStateLine (files_of c.args.plan c.args.limits)) l text) (c.as_slice.ensures.value ∙ c.in_ok-reasons.ensures) c.in_ok-reason.ensures
