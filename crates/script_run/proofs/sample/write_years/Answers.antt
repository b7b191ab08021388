use Rattle.std.proofs.Common.{◌+◌, string_bytes, arith}
use Rattle.std.specs.List.{flat_map}
use Rattle.script_run.specs.Samples.{year_lines}
use Rattle.script_run.proofs.SampleLaws.{appended_lines, appended_all}
use Rattle.script_run.proofs.sample.write_years.Goals as goal

pub loop-employee-preserved : goal.loop-employee-preserved
loop-employee-preserved c =
    let so_far = c.loop-employee.invariant in
    record {
      above = omega arith;
      below = omega arith;
      appended = appended_lines (string_bytes c.args.script.now) (string_bytes c.loop-employee.script)
          (string_bytes c.write_year.new.script) year_lines
          c.loop-employee.employee so_far.above so_far.appended c.in_ok-write_year.ensures;
    }

pub returns-in_ok-write_year : goal.returns-in_ok-write_year
returns-in_ok-write_year c =
    let so_far = c.loop-employee.invariant in
    appended_all (string_bytes c.args.script.now) (string_bytes c.write_year.new.script) (λ v. flat_map year_lines v)
    (c.loop-employee.employee + 1) c.args.employees (omega arith)
    (appended_lines (string_bytes c.args.script.now) (string_bytes c.loop-employee.script)
    (string_bytes c.write_year.new.script) year_lines
    c.loop-employee.employee so_far.above so_far.appended c.in_ok-write_year.ensures)
