use Rattle.std.proofs.Common.{ap, ◌∙◌, Some, None}
use Rattle.std.specs.Prelude.{option_and_then, slice_get}
use Rattle.carry_bindings.proofs.OutputLemmas.{amount_is, beyond, there}
use Rattle.carry_bindings.proofs.outputs.amount_at.Goals as goal

pub returns-in_err-place : goal.returns-in_err-place
returns-in_err-place c name at =
    let outputs = ap Some c.as_slice.ensures ∙ c.in_ok-outputs.ensures.value in
    c.from_residual-in_err-place.ensures
    ∙ amount_is name c.args.e.now c.as_slice.result.now c.args.place None outputs at (ap (option_and_then (slice_get c.as_slice.result.now)) c.in_err-place.was)

pub returns-in_err-output : goal.returns-in_err-output
returns-in_err-output c name at =
    let outputs = ap Some c.as_slice.ensures ∙ c.in_ok-outputs.ensures.value in
    c.from_residual-in_err-output.ensures
    ∙ amount_is name c.args.e.now c.as_slice.result.now c.args.place None outputs at
    (ap (option_and_then (slice_get c.as_slice.result.now)) c.in_ok-place.was ∙ beyond c.as_slice.result.now c.in_ok-place.field-0 c.in_err-output.ensures.lookup.0)

pub returns : goal.returns
returns c name at =
    let outputs = ap Some c.as_slice.ensures ∙ c.in_ok-outputs.ensures.value in
    amount_is name c.args.e.now c.as_slice.result.now c.args.place (Some c.in_ok-output.output.now) outputs at
    (ap (option_and_then (slice_get c.as_slice.result.now)) c.in_ok-place.was ∙ there c.as_slice.result.now c.in_ok-place.field-0 c.in_ok-output.output.now c.in_ok-output.ensures.lookup.0 c.in_ok-output.ensures.lookup.1)
