use Rattle.std.proofs.Common.{sym}
use Rattle.script_run.proofs.SampleLaws.{length-sample}
use Rattle.script_run.proofs.sample.sample_line_count.Goals as goal

pub returns : goal.returns
returns c = sym (length-sample c.args.employees)
