use Rattle.std.proofs.Common.{ℕ, []}
use Rattle.toml.specs.View.{members_view}
use Rattle.range_faults.specs.FileFaults.{AreSectionFaults}
use Rattle.range_faults.proofs.AddLemmas.{Walks}
use Rattle.range_faults.proofs.file.file_faults.Given as goal

abbrev pub invariant-loop-key : goal.invariant-loop-key
invariant-loop-key l =
    (n : ℕ) × Walks AreSectionFaults n (members_view l.key-iterator) (members_view l.table.entries) [] l.faults.items
