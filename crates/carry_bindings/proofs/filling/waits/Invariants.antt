use Rattle.std.proofs.Common.{◌≡◌, drop}
use Rattle.std.specs.Prelude.{is_none}
use Rattle.std.specs.List.{find}
use Rattle.carry_bindings.proofs.filling.waits.Given as goal

abbrev pub invariant-loop-e : goal.invariant-loop-e
invariant-loop-e l = find (λ e. is_none e.outputs) (drop l.e-index l.earlier) ≡ find (λ e. is_none e.outputs) l.earlier
