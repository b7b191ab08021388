use Rattle.std.proofs.Common.{◌≡◌, ◌≤◌, length, map, take}
use Rattle.std.specs.Prelude.{vec_len, vec_capacity}
use Rattle.pap_tree.specs.Declarations.{declaration_of}
use Rattle.pay_run.specs.Runs.{named_values}
use Rattle.pay_run.proofs.outputs.name_values.Given as goal

abbrev pub invariant-loop-at : goal.invariant-loop-at
invariant-loop-at l = record {
  items : l.outputs.items ≡ named_values (map declaration_of (take l.at l.declared)) (take l.at l.values);
  len : vec_len l.outputs ≡ l.at;
  room : length l.declared ≤ vec_capacity l.outputs;
}
