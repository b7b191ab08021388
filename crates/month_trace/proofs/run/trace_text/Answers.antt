use Rattle.std.proofs.Common.{ap, ◌∙◌}
use Rattle.pap_tree.specs.Flowchart.{body_of}
use Rattle.month_trace.proofs.MethodLemmas.{main_runs}
use Rattle.month_trace.proofs.run.trace_text.Goals as goal

pub run_body-requires : goal.run_body-requires
run_body-requires c =
    let main = c.as_slice-main.ensures.value ∙ ap (λ p. p.main.items) c.plan.ensures.text in
    main_runs c.args.plan.now c.args.inputs.now c.deref_mut.result.now c.in_ok-values.values.items c.main.result
    (body_of c.as_slice-main.result.now)
    c.plan.ensures.well_typed c.plan.ensures.counted (ap body_of main) c.deref_mut.ensures.value
    c.in_ok-values.ensures c.requires
