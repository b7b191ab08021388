use Rattle.std.proofs.Common.{◌≡◌, map, ap, ◌∙◌, rules}
use Rattle.pap_tree.specs.Declarations.{declaration_of}
use Rattle.pap_types.specs.Meaning.{bound_of}
use Rattle.pap_plan.specs.Plans.{flowchart, meaning}
use Rattle.pap_plan.proofs.Laws.{small_bounds}
use Rattle.pay_run.specs.Accepted.{accepted}
use Rattle.pay_run.specs.Runs.{named_values}
use Rattle.pay_run.proofs.RunLemmas.{has_run, written_whole}
use Rattle.pay_run.proofs.outputs.run.Goals as goal

pub returns-clause-ran : goal.returns-clause-ran
returns-clause-ran g c =
    let f = flowchart c.args.plan.now in
    let declared : map declaration_of c.as_slice-declared.result.now ≡ f.outputs =
    ap (λ l. map declaration_of l) (c.as_slice-declared.ensures.value ∙ ap (λ p. p.outputs.items) c.plan.ensures.text ∙ ap (λ p. p.outputs.items) c.text.ensures.text) in
    let values : c.deref.result.now ≡ c.run-cost.new.outputs = c.deref.ensures.value ∙ written_whole c.in_ok-values.values.len c.run-cost.new.outputs c.in_ok-values.values.items (search rules) (search rules) in
    let named = c.from_vec.ensures ∙ c.name_values.ensures ∙ ap (λ l. named_values l c.deref.result.now) declared ∙ ap (named_values f.outputs) values in
    let most = small_bounds c.args.plan.now.plan c.args.plan.now.limits (meaning c.args.plan.now) c.law.ensures in
    has_run (accepted c.args.plan.now) c.args.inputs.now c.run-cost.new.outputs (record { outputs = c.from_vec.result; cost = c.run-cost.result }) (bound_of f) c.run-cost.ensures.outputs c.run-cost.ensures.ranges c.run-cost.ensures.cost c.run-cost.ensures.bound most named
