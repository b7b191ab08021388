use Rattle.std.proofs.Common.{◌≡◌, ◌++◌, ◌<◌, ℕ, get_or, take}
use Rattle.std.specs.List.{flat_map}
use Rattle.payroll_records.specs.declared.record.Record.{Record}
use Rattle.saved_items.specs.SavedBooks.{IsRun, saved_run_text}
use Rattle.book_file.proofs.write.write_runs.Given as goal

abbrev pub invariant-loop-run : goal.invariant-loop-run
invariant-loop-run l = record {
  text : l.text.items ≡ l.initial.text.items ++ flat_map saved_run_text (take l.run-index l.runs);
  runs : (k : ℕ) (d : Record) → k < l.run-index → IsRun (get_or l.runs k d);
}
