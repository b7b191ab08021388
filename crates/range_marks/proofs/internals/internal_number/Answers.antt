use Rattle.std.proofs.Common.{◌≡◌, length, vec_len, sym, ap, ◌∙◌, subst}
use Rattle.pap_tree.specs.Flowchart.{flowchart_of}
use Rattle.range_marks.specs.private.InternalViews.{IsInternal}
use Rattle.range_marks.proofs.NumberLemmas.{declarations_counted, no_variable, input_number, other_number}
use Rattle.range_marks.proofs.internals.internal_number.Goals as goal

pub returns-in_err-number : goal.returns-in_err-number
returns-in_err-number c =
    let f = flowchart_of c.args.plan.now in
    subst (λ o. IsInternal f c.args.name.now o) (sym c.from_residual.ensures)
    (no_variable f c.args.name.now c.variable.result c.plan-text.ensures.well_typed c.variable.ensures c.in_err-number.was)

pub returns-in_err-behind_inputs : goal.returns-in_err-behind_inputs
returns-in_err-behind_inputs c =
    let p = c.args.plan.now in
    let f = flowchart_of p in
    let inputs : c.len.result ≡ length f.inputs =
    c.len.ensures ∙ ap (λ q. vec_len q.inputs) c.plan-text.ensures.text ∙ declarations_counted p.inputs in
    subst (λ o. IsInternal f c.args.name.now o) (sym c.from_residual-in_err-behind_inputs.ensures)
    (input_number f c.args.name.now c.variable.result c.in_ok-number.number c.len.result c.plan-text.ensures.well_typed
    c.variable.ensures c.in_ok-number.was inputs c.in_err-behind_inputs.ensures)

pub returns : goal.returns
returns c =
    let p = c.args.plan.now in
    let f = flowchart_of p in
    let inputs : c.len.result ≡ length f.inputs =
    c.len.ensures ∙ ap (λ q. vec_len q.inputs) c.plan-text.ensures.text ∙ declarations_counted p.inputs in
    let outputs : c.len-2.result ≡ length f.outputs =
    c.len-2.ensures ∙ ap (λ q. vec_len q.outputs) c.plan-text.ensures.text ∙ declarations_counted p.outputs in
    other_number f c.args.name.now c.variable.result c.in_ok-number.number c.len.result c.in_ok-behind_inputs.behind_inputs
    c.len-2.result c.checked_sub-2.result c.plan-text.ensures.well_typed c.variable.ensures c.in_ok-number.was inputs
    c.in_ok-behind_inputs.ensures.0 c.in_ok-behind_inputs.ensures.1 outputs c.checked_sub-2.ensures
