use Rattle.std.proofs.Common.{◌≡◌, drop}
use Rattle.pap_plan.specs.private.BindingViews.{without_input}
use Rattle.pap_plan.proofs.bindings.limit_without_input.Given as goal

abbrev pub invariant-loop-limit : goal.invariant-loop-limit
invariant-loop-limit l = without_input l.inputs (drop l.limit-index l.limits) ≡ without_input l.inputs l.limits
