use Rattle.std.proofs.Common.{Some, sym, ap, ◌∙◌}
use Rattle.std.specs.Option.{option_map}
use Rattle.pap_tree.specs.Flowchart.{body_of, flowchart_of}
use Rattle.run_values.proofs.MethodLemmas.{body_by, body_none, method_body}
use Rattle.run_values.proofs.methods.method_body.Goals as goal

pub returns-in-Some-method_at-clause-body : goal.returns-in-Some-method_at-clause-body
returns-in-Some-method_at-clause-body c =
    ap (λ b. Some (body_of b)) c.as_slice.ensures.value
    ∙ ap (option_map (λ m. m.body)) c.in-Some-method_at.ensures
    ∙ body_by (flowchart_of c.args.plan.now).methods c.args.name.now c.in-Some.number (sym c.in-Some.ensures)

pub returns-in-Some-method_at-clause-run : goal.returns-in-Some-method_at-clause-run
returns-in-Some-method_at-clause-run c =
    method_body (flowchart_of c.args.plan.now) c.args.name.now (body_of c.as_slice.result.now) c.plan-counted.ensures.well_typed
    c.plan-counted.ensures.counted (sym (returns-in-Some-method_at-clause-body c))

pub returns-in-None-method_at-clause-body : goal.returns-in-None-method_at-clause-body
returns-in-None-method_at-clause-body c =
    ap (option_map (λ m. m.body)) c.in-None-method_at.ensures
    ∙ body_by (flowchart_of c.args.plan.now).methods c.args.name.now c.in-Some.number (sym c.in-Some.ensures)

pub returns-in-None-clause-body : goal.returns-in-None-clause-body
returns-in-None-clause-body c = body_none (flowchart_of c.args.plan.now).methods c.args.name.now (sym c.in-None.ensures)
