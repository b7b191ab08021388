use Rattle.std.proofs.Common.{◌≤◌, ◌++◌}
use Rattle.report_csv.specs.ReportTexts.{months_text}
use Rattle.report_csv.proofs.FrontLemmas.{IsUnderway}
use Rattle.report_csv.proofs.report.write_months.Given as goal

abbrev pub invariant-loop-row : goal.invariant-loop-row
invariant-loop-row g l =
    IsUnderway (g.W.Sink.written l.initial.sink) (g.W.Sink.written l.sink) (l.initial.rows ++ months_text l.initial.row-iterator) (l.rows ++ months_text l.row-iterator)
    × (g.W.Sink.faults l.initial.sink ≤ g.W.Sink.faults l.sink)
