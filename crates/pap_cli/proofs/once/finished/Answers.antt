use Rattle.std.proofs.Common.{◌++◌, ◌∙◌, ap, string_bytes}
use Rattle.plan_answers.proofs.Laws.{on_err_any}
use Rattle.pap_cli.specs.private.RunViews.{named_lines}
use Rattle.pap_cli.proofs.RunLemmas.{counted_run, finished_reply}
use Rattle.pap_cli.proofs.once.finished.Goals as goal

pub returns-in_err-write_values-clause-memory : goal.returns-in_err-write_values-clause-memory
returns-in_err-write_values-clause-memory g c = on_err_any c.from_residual-in_err-write_values.result _
    (counted_run c.args.plan.now c.args.inputs.now c.in_ok-ran.ran c.args.steps.now c.run.new.steps
    c.in_ok-ran.ensures.ran c.in_ok-ran.ensures.counted)

pub returns-in_err-write-clause-memory : goal.returns-in_err-write-clause-memory
returns-in_err-write-clause-memory g c = on_err_any c.from_residual-in_err-write.result _
    (counted_run c.args.plan.now c.args.inputs.now c.in_ok-ran.ran c.args.steps.now c.run.new.steps
    c.in_ok-ran.ensures.ran c.in_ok-ran.ensures.counted)

pub returns-clause-answer : goal.returns-clause-answer
returns-clause-answer g c =
    finished_reply c.args.plan.now c.args.inputs.now c.in_ok-ran.ran c.into_bytes.result.items
    (string_bytes c.new-text.result) (string_bytes c.write_values.new.text) c.in_ok-ran.ensures.ran
    c.new-text.ensures.bytes
    (c.in_ok-write_values.ensures ∙ ap (λ l. string_bytes c.new-text.result ++ named_lines l) c.as_slice.ensures)
    (ap (λ v. v.items) c.into_bytes.ensures.value ∙ c.in_ok-write.ensures.bytes)
