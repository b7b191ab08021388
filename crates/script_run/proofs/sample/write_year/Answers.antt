use Rattle.std.proofs.Common.{string_bytes, arith}
use Rattle.script_run.specs.Samples.{add_line}
use Rattle.script_run.proofs.SampleLaws.{appended_line}
use Rattle.script_run.proofs.sample.write_year.Goals as goal

pub loop-month-preserved : goal.loop-month-preserved
loop-month-preserved c =
    let so_far = c.loop-month.invariant in
    record {
      above = omega arith;
      below = omega arith;
      appended = appended_line (string_bytes c.args.script.now) (string_bytes c.loop-month.script)
          (string_bytes c.write_record.new.script) (λ month. add_line c.args.employee month)
          c.loop-month.month so_far.above so_far.appended c.in_ok-write_record.ensures;
    }
