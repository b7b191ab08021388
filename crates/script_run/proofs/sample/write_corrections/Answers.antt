use Rattle.std.proofs.Common.{◌+◌, map, string_bytes, arith}
use Rattle.script_run.specs.Samples.{change_line}
use Rattle.script_run.proofs.SampleLaws.{appended_line, appended_all}
use Rattle.script_run.proofs.sample.write_corrections.Goals as goal

pub loop-employee-preserved : goal.loop-employee-preserved
loop-employee-preserved c =
    let so_far = c.loop-employee.invariant in
    record {
      above = omega arith;
      below = omega arith;
      appended = appended_line (string_bytes c.args.script.now) (string_bytes c.loop-employee.script)
          (string_bytes c.write_correction.new.script) change_line
          c.loop-employee.employee so_far.above so_far.appended c.in_ok-write_correction.ensures;
    }

pub returns-in_ok-write_correction : goal.returns-in_ok-write_correction
returns-in_ok-write_correction c =
    let so_far = c.loop-employee.invariant in
    appended_all (string_bytes c.args.script.now) (string_bytes c.write_correction.new.script) (λ v. map change_line v)
    (c.loop-employee.employee + 1) c.args.employees (omega arith)
    (appended_line (string_bytes c.args.script.now) (string_bytes c.loop-employee.script)
    (string_bytes c.write_correction.new.script) change_line
    c.loop-employee.employee so_far.above so_far.appended c.in_ok-write_correction.ensures)
