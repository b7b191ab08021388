use Rattle.std.proofs.Common.{◌≡◌, ◌≤◌, ◌+◌, ◌-◌, ◌++◌, map, string_bytes}
use Rattle.script_run.specs.Samples.{change_line, numbers, script_of}
use Rattle.script_run.proofs.sample.write_corrections.Given as goal

abbrev pub invariant-loop-employee : goal.invariant-loop-employee
invariant-loop-employee l = record {
  above : 1 ≤ l.employee;
  below : l.employee ≤ l.employees + 1;
  appended : string_bytes l.script ≡ string_bytes l.initial.script ++ script_of (map change_line (numbers
      (l.employee - 1)));
}
