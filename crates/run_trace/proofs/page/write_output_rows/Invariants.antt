use Rattle.std.proofs.Common.{◌≡◌, ◌++◌, take}
use Rattle.std.specs.List.{flat_map}
use Rattle.run_trace.specs.RunPages.{output_row}
use Rattle.run_trace.proofs.page.write_output_rows.Given as goal

abbrev pub invariant-loop-output : goal.invariant-loop-output
invariant-loop-output l = l.part ≡ l.initial.part ++ flat_map output_row (take l.output-index l.outputs)
