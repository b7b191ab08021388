use Rattle.std.proofs.Common.{ℕ}
use Rattle.toml.specs.View.{members_view}
use Rattle.range_faults.specs.EntryFaults.{AreBindingFaults}
use Rattle.range_faults.proofs.AddLemmas.{Walks}
use Rattle.range_faults.proofs.entries.add_bindings.Given as goal

abbrev pub invariant-loop-name : goal.invariant-loop-name
invariant-loop-name l =
    (n : ℕ) × Walks AreBindingFaults n (members_view l.name-iterator) (members_view l.entries.entries) l.initial.faults.items l.faults.items
