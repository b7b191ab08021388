use Rattle.std.proofs.Common.{sym, ap, ◌∙◌, subst, rules}
use Rattle.pap_tree.specs.Flowchart.{body_of, flowchart_of}
use Rattle.checked_run.specs.RunEnds.{EndsAs}
use Rattle.checked_run.proofs.EndLemmas.{main_can, ends_as, fails_as, written_whole}
use Rattle.checked_run.proofs.run.checked_run.Goals as goal

pub run_body-requires : goal.run_body-requires
run_body-requires c =
    let main = c.as_slice-main.ensures.value ∙ ap (λ p. p.main.items) c.plan.ensures.text in
    main_can c.args.plan.now c.args.inputs.now c.deref_mut.result.now c.in_ok-values.values.items c.main.result
    (body_of c.as_slice-main.result.now)
    c.plan.ensures.well_typed c.plan.ensures.counted (ap body_of main) c.deref_mut.ensures.value
    c.in_ok-values.ensures

pub returns-in-Ok : goal.returns-in-Ok
returns-in-Ok c =
    let main = c.as_slice-main.ensures.value ∙ ap (λ p. p.main.items) c.plan.ensures.text in
    let whole =
    written_whole c.in_ok-values.values.len c.run_body.new.values c.in_ok-values.values.items (search rules)
    (search rules) in
    subst (EndsAs (flowchart_of c.args.plan.now) c.args.inputs.now) (sym whole)
    (ends_as c.args.plan.now c.args.inputs.now c.deref_mut.result.now c.in_ok-values.values.items c.main.result
    (body_of c.as_slice-main.result.now) c.main.ensures (ap body_of main) c.deref_mut.ensures.value
    c.in_ok-values.ensures c.run_body.new.values c.requires c.run_body.auto.values c.in-Ok.ensures.0)

pub returns-in-Err : goal.returns-in-Err
returns-in-Err c =
    let main = c.as_slice-main.ensures.value ∙ ap (λ p. p.main.items) c.plan.ensures.text in
    fails_as c.args.plan.now c.args.inputs.now c.deref_mut.result.now c.in_ok-values.values.items c.main.result
    (body_of c.as_slice-main.result.now) c.main.ensures (ap body_of main) c.deref_mut.ensures.value
    c.in_ok-values.ensures c.in-Err.failure c.in-Err.ensures
