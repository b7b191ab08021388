use Rattle.std.proofs.Common.{◌≡◌, ◌++◌, drop}
use Rattle.std.specs.List.{flat_map}
use Rattle.report_csv.specs.private.Views.{output_line}
use Rattle.report_csv.proofs.run.with_outputs.Given as goal

abbrev pub invariant-loop-output : goal.invariant-loop-output
invariant-loop-output l =
    l.rows ++ flat_map (output_line l.front) (drop l.output-index l.outputs)
    ≡ l.initial.rows ++ flat_map (output_line l.front) l.outputs
