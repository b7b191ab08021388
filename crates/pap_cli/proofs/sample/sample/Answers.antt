use Rattle.std.proofs.Common.{◌∙◌, Bool, ap, subst, sym}
use Rattle.std.specs.Prelude.{Err}
use Rattle.std.proofs.lemmas.Result.{err_from_is_err_and}
use Rattle.pap_cli.specs.Outside.{output}
use Rattle.pap_cli.specs.SampleClauses.{LeavesOnSample}
use Rattle.pap_cli.specs.Statuses.{done_status}
use Rattle.pap_cli.proofs.SampleLemmas.{leaves_whole, leaves_cut, leaves_stop, leaves_unsaid}
use Rattle.pap_cli.proofs.sample.sample.Goals as goal

pub returns-in_err-ended-clause-leaves : goal.returns-in_err-ended-clause-leaves
returns-in_err-ended-clause-leaves g c =
    let p = err_from_is_err_and c.from_residual.result c.from_residual.ensures.1 in
    leaves_stop c.args.employees c.args.steps.now c.run_sample.new.steps (g.W.Sink.written c.args.sink.now) c.in_err-ended.ensures.memory c.from_residual.result (p.1 ∙ ap (λ s. Err s) p.2)

pub returns-in_err-text-clause-leaves : goal.returns-in_err-text-clause-leaves
returns-in_err-text-clause-leaves g c =
    let p = err_from_is_err_and c.from_residual-in_err-text.result c.from_residual-in_err-text.ensures.1 in
    leaves_unsaid c.args.employees c.args.steps.now c.run_sample.new.steps (g.W.Sink.written c.args.sink.now) c.in_ok-ended.ended c.in_ok-ended.ensures.ok c.from_residual-in_err-text.result (p.1 ∙ ap (λ s. Err s) p.2)

pub returns-in-Ok-clause-leaves : goal.returns-in-Ok-clause-leaves
returns-in-Ok-clause-leaves g c =
    subst (λ (r : Bool). LeavesOnSample c.args.employees (output (g.W.Sink.written c.args.sink.now) c.args.steps.now)
    (output (g.W.Sink.written c.put_all.new.sink) c.run_sample.new.steps) (done_status r)) (sym c.any.ensures)
    (leaves_whole c.args.employees c.args.steps.now c.run_sample.new.steps (g.W.Sink.written c.args.sink.now) (g.W.Sink.written c.put_all.new.sink) c.in_ok-ended.ended c.as_bytes.result.now c.in_ok-ended.ensures.ok
    (c.as_bytes.ensures.value ∙ c.in_ok-text.ensures) c.in-Ok.ensures.ok)

pub returns-clause-leaves : goal.returns-clause-leaves
returns-clause-leaves g c =
    leaves_cut c.args.employees c.args.steps.now c.run_sample.new.steps (g.W.Sink.written c.args.sink.now) (g.W.Sink.written c.put_all.new.sink) c.in_ok-ended.ended c.as_bytes.result.now c.in_ok-ended.ensures.ok
    (c.as_bytes.ensures.value ∙ c.in_ok-text.ensures) c.in-Err.ensures.err
