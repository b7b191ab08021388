use Rattle.std.proofs.Common.{sym, ap, ap₂, ◌∙◌}
use Rattle.std.specs.Option.{option_or}
use Rattle.pap_tree.specs.Flowchart.{flowchart_of}
use Rattle.pap_plan.specs.Bindings.{limit_without_input}
use Rattle.pap_plan.specs.private.BindingViews.{without_limit, without_input}
use Rattle.pap_plan.proofs.BindingLemmas.{limits_found, inputs_found}
use Rattle.pap_plan.proofs.bindings.unmatched_name.Goals as goal

pub returns-in-Some : goal.returns-in-Some
returns-in-Some c =
    ap (λ o. option_or o (limit_without_input (flowchart_of c.args.plan.now) c.args.ranges.now))
    (sym c.in-Some.is ∙ c.input_without_limit.ensures ∙ ap (λ ds. without_limit ds c.args.ranges.now) c.deref.ensures.value ∙ limits_found c.args.plan.now.inputs.items c.args.ranges.now)

pub returns-in-None : goal.returns-in-None
returns-in-None c =
    let items = c.args.plan.now.inputs.items in
    let none = sym c.in-None.is ∙ c.input_without_limit.ensures ∙ ap (λ ds. without_limit ds c.args.ranges.now) c.deref.ensures.value ∙ limits_found items c.args.ranges.now in
    c.limit_without_input.ensures ∙ ap₂ without_input c.deref-in-None.ensures.value c.as_slice.ensures ∙ inputs_found items c.args.ranges.now.inputs
    ∙ ap (λ o. option_or o (limit_without_input (flowchart_of c.args.plan.now) c.args.ranges.now)) none
