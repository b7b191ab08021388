use Rattle.std.proofs.Common.{◌++◌, refl, arith}
use Rattle.report_csv.specs.ReportTexts.{report_text}
use Rattle.script_steps.specs.declared.stop.LineStop.TheVariants as stops
use Rattle.script_steps.specs.LineTexts.{end_line}
use Rattle.script_steps.specs.private.StepViews.{IsFrontWritten}
use Rattle.script_steps.proofs.MadeLemmas.{for_err}
use Rattle.script_steps.proofs.WriteLemmas.{first_front, first_prefix, second_prefix}
use Rattle.script_steps.proofs.report.report.Goals as goal

pub returns-in-Err-Write-clause-err : goal.returns-in-Err-Write-clause-err
returns-in-Err-Write-clause-err g c =
    for_err (IsFrontWritten (g.W.Sink.written c.args.sink.now) (g.W.Sink.written c.write_report.new.sink)
    (report_text c.args.book.now ++ end_line)) _ stops.Write refl
    (first_prefix (g.W.Sink.written c.args.sink.now) (g.W.Sink.written c.write_report.new.sink)
    (report_text c.args.book.now) end_line (omega arith) c.in-Err-Write.ensures.err)

pub returns-in-Err-Memory-clause-err : goal.returns-in-Err-Memory-clause-err
returns-in-Err-Memory-clause-err g c =
    for_err (IsFrontWritten (g.W.Sink.written c.args.sink.now) (g.W.Sink.written c.write_report.new.sink)
    (report_text c.args.book.now ++ end_line)) _ stops.Memory refl
    (first_front (g.W.Sink.written c.args.sink.now) (g.W.Sink.written c.write_report.new.sink)
    (report_text c.args.book.now) end_line c.in-Err-Memory.ensures.err)

pub returns-in-Err-clause-err : goal.returns-in-Err-clause-err
returns-in-Err-clause-err g c =
    for_err (IsFrontWritten (g.W.Sink.written c.args.sink.now) (g.W.Sink.written c.put_all.new.sink)
    (report_text c.args.book.now ++ end_line)) _ stops.Write refl
    (second_prefix (g.W.Sink.written c.args.sink.now) (g.W.Sink.written c.write_report.new.sink)
    (g.W.Sink.written c.put_all.new.sink) (report_text c.args.book.now) end_line c.in-Ok.ensures.ok
    c.in-Err.ensures.err)
