use Rattle.std.proofs.Common.{◌≡◌, ◌≤◌, ◌+◌, ◌-◌, ◌++◌, map, string_bytes}
use Rattle.script_run.specs.Samples.{add_line, numbers, script_of}
use Rattle.script_run.proofs.sample.write_year.Given as goal

abbrev pub invariant-loop-month : goal.invariant-loop-month
invariant-loop-month l = record {
  above : 1 ≤ l.month;
  below : l.month ≤ 12 + 1;
  appended : string_bytes l.script ≡ string_bytes l.initial.script ++ script_of (map
      (λ month. add_line l.employee month) (numbers (l.month - 1)));
}
