use Rattle.std.proofs.Common.{◌≡◌, drop}
use Rattle.std.specs.Prelude.{codes}
use Rattle.carry_bindings.specs.Carrying.{named}
use Rattle.pap_cli.proofs.sample.tax_in.Given as goal

abbrev pub invariant-loop-output : goal.invariant-loop-output
invariant-loop-output l = named (codes "LST") (drop l.output-index l.outputs) ≡ named (codes "LST") l.outputs
