use Rattle.std.proofs.Common.{◌≡◌, ◌++◌, map}
use Rattle.std.specs.Vec.Iter.{into_iter_items}
use Rattle.pap_plan.specs.StageRefusals.{text_refusal}
use Rattle.diagnostics.proofs.stages.as_text_refusals.Given as goal

abbrev pub invariant-loop-fault : goal.invariant-loop-fault
invariant-loop-fault l = record {
  told : l.refusals.items ≡ map text_refusal l.yielded;
  rest : l.yielded ++ into_iter_items l.fault-iterator ≡ l.fn.faults.items;
}
