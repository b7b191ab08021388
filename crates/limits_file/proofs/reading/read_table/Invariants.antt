use Rattle.limits_file.proofs.ReadingLemmas.{Progress}
use Rattle.limits_file.proofs.reading.read_table.Given as goal

abbrev pub invariant-loop-key : goal.invariant-loop-key
invariant-loop-key l = Progress l.key-iterator l.table.entries l.limits
