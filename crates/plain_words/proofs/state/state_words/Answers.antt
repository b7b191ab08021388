use Rattle.std.proofs.Common.{rules, ◌∙◌}
use Rattle.std.specs.Prelude.{string_bytes}
use Rattle.std.proofs.lemmas.Result.{IfOk-weaker}
use Rattle.plain_words.specs.Places.{files_of}
use Rattle.plain_words.proofs.Shown.{says_state}
use Rattle.plain_words.proofs.state.state_words.Goals as goal

pub returns-clause-place : goal.returns-clause-place
returns-clause-place c =
    let files = files_of c.args.plan c.args.limits in
    let found = c.with_help-found in
    IfOk-weaker c.reason_line.result _ _
    (λ words says. says_state files c.args.reason.now c.in_ok-find_reason.field-0 found.result c.deref.result.now
    (string_bytes words) c.in_ok-find_reason.ensures found.ensures.place (found.ensures.help ∙ c.state_help.ensures)
    (search rules) says)
    c.reason_line.ensures.text
