use Rattle.std.proofs.Common.{◌≡◌, drop}
use Rattle.pap_plan.proofs.BindingLemmas.{carry_among}
use Rattle.pap_plan.proofs.inputs.carry_named.Given as goal

abbrev pub invariant-loop-binding : goal.invariant-loop-binding
invariant-loop-binding l = carry_among (drop l.binding-index l.binding-items) l.name ≡ carry_among l.binding-items l.name
