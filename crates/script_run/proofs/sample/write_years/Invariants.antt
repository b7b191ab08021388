use Rattle.std.proofs.Common.{◌≡◌, ◌≤◌, ◌+◌, ◌-◌, ◌++◌, string_bytes}
use Rattle.std.specs.List.{flat_map}
use Rattle.script_run.specs.Samples.{year_lines, numbers, script_of}
use Rattle.script_run.proofs.sample.write_years.Given as goal

abbrev pub invariant-loop-employee : goal.invariant-loop-employee
invariant-loop-employee l = record {
  above : 1 ≤ l.employee;
  below : l.employee ≤ l.employees + 1;
  appended : string_bytes l.script ≡ string_bytes l.initial.script ++ script_of (flat_map year_lines (numbers
      (l.employee - 1)));
}
