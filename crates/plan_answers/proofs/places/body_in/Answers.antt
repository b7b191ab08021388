use Rattle.std.proofs.Common.{ap, sym, Some, None, ◌∙◌}
use Rattle.std.specs.Prelude.{option_map}
use Rattle.pap_tree.specs.Flowchart.{body_of}
use Rattle.plan_answers.proofs.PlaceLemmas.{body_other}
use Rattle.plan_answers.proofs.places.body_in.Goals as goal

pub returns-in_err-routine : goal.returns-in_err-routine
returns-in_err-routine c =
    rw c.from_residual.ensures (body_other c.args.plan.now c.args.method.now c.main.result
    c.as_slice-methods.result.now None c.main.ensures (sym c.if-eq.ensures) c.as_slice-methods.ensures.value
    (sym (ap (option_map (λ m. m.now)) c.in_err-routine.was) ∙ c.method_named.ensures))

pub returns : goal.returns
returns c =
    body_other c.args.plan.now c.args.method.now c.main.result
    c.as_slice-methods.result.now (Some c.in_ok-routine.routine.now)
    c.main.ensures (sym c.if-eq.ensures) c.as_slice-methods.ensures.value
    (sym (ap (option_map (λ m. m.now)) c.in_ok-routine.was) ∙ c.method_named.ensures)
    ∙ ap (λ l. Some (body_of l)) (sym c.as_slice.ensures.value)
