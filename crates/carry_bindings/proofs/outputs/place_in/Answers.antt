use Rattle.std.proofs.Common.{map, ap, ◌∙◌, Some}
use Rattle.std.specs.Prelude.{option_map}
use Rattle.payroll_records.specs.NamedValues.{name_of}
use Rattle.carry_bindings.specs.private.OutputViews.{place_in}
use Rattle.carry_bindings.proofs.OutputLemmas.{place_found}
use Rattle.carry_bindings.proofs.outputs.place_in.Goals as goal

pub returns : goal.returns
returns c names before alike =
    let name = c.args.name.now in
    let outputs = ap Some c.as_slice.ensures ∙ c.in_ok-outputs.ensures.value in
    c.place_of.ensures ∙ place_found name c.as_slice.result.now ∙ ap (λ o. place_in name (option_map (map name_of) o)) outputs
