use Rattle.std.proofs.Common.{◌≡◌, ◌∙◌, ap}
use Rattle.std.specs.Prelude.{Bool, None, ◌++◌}
use Rattle.std.proofs.lemmas.Result.{err_from_is_err_and}
use Rattle.script_steps.specs.Shown.{shown}
use Rattle.script_steps.specs.declared.stop.LineStop.TheVariants.{Memory}
use Rattle.script_run.proofs.DeliverLaws.{answer_lost, broken_as, nothing_kept, refusal_kept}
use Rattle.script_run.proofs.StepLaws.{err_same}
use Rattle.script_run.proofs.deliver.keep_answer.Goals as goal

pub returns-in_ok-extend_from_slice-in-Ok-Some-clause-delivered : goal.returns-in_ok-extend_from_slice-in-Ok-Some-clause-delivered
returns-in_ok-extend_from_slice-in-Ok-Some-clause-delivered g c =
    refusal_kept c.in-Ok-Some.refusal c.args.refusals.now c.extend_from_slice.new.self
    (rw c.in-Ok-Some.field-0-is at c.in-Ok-Some.ensures.answered)
    (c.in_ok-extend_from_slice-in-Ok-Some.ensures.items ∙ ap (λ v. c.args.refusals.now.items ++ v) c.deref.ensures.value)

pub returns-in-Ok-None-clause-delivered : goal.returns-in-Ok-None-clause-delivered
returns-in-Ok-None-clause-delivered g c =
    nothing_kept c.args.refusals.now (rw c.in-Ok-None.field-0-is at c.in-Ok-None.ensures.answered)

pub returns-in_err-extend_from_slice-in-Ok-Some-clause-broken : goal.returns-in_err-extend_from_slice-in-Ok-Some-clause-broken
returns-in_err-extend_from_slice-in-Ok-Some-clause-broken g c = λ stop is.
    let told = g.F.Files.told in
    let failed = g.F.Files.failed in
    let files = c.args.files.now in
    let next = c.answer_unwritten.new.files in
    let old = shown (told files) (failed files) None c.args.steps.now in
    let new = shown (told next) (failed next) None c.answer_unwritten.new.steps in
    let p = err_from_is_err_and c.from_residual.result c.from_residual.ensures.1 in
    let memory : Memory ≡ stop = cc (p.1, p.2) in
    broken_as {T = Bool} old new c.args.script.now c.answer_unwritten.new.script c.args.line.now
    (err_same {T = Bool} memory) (answer_lost old new c.in-Ok-Some.ensures.answered.answered)
