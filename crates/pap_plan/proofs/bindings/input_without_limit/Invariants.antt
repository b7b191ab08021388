use Rattle.std.proofs.Common.{◌≡◌, drop}
use Rattle.pap_plan.specs.private.BindingViews.{without_limit}
use Rattle.pap_plan.proofs.bindings.input_without_limit.Given as goal

abbrev pub invariant-loop-input : goal.invariant-loop-input
invariant-loop-input l = without_limit (drop l.input-index l.inputs) l.ranges ≡ without_limit l.inputs l.ranges
