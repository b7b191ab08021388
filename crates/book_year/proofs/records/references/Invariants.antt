use Rattle.std.proofs.Common.{◌≡◌, take}
use Rattle.book_year.specs.Records.{records_of}
use Rattle.book_year.proofs.records.references.Given as goal

abbrev pub invariant-loop-run : goal.invariant-loop-run
invariant-loop-run l = records_of l.runs.items ≡ take l.run-index l.records
