use Rattle.std.proofs.Common.{ℕ, ◌<◌, get_or}
use Rattle.payroll_records.specs.declared.record.Record.{Record}
use Rattle.recalc_engine.specs.BookLaws.{HasKeptValues}
use Rattle.recalc_engine.proofs.values.each_run_is_kept.Given as goal

abbrev pub invariant-loop-record : goal.invariant-loop-record
invariant-loop-record l = (k : ℕ) (d : Record) → k < l.record-index → HasKeptValues (get_or l.records k d)
