use Rattle.std.proofs.Common.{◌≡◌, ℕ, ◌-◌}
use Rattle.toml.specs.View.{members_view}
use Rattle.pap_tree.specs.Limits.{most_inputs}
use Rattle.range_faults.specs.EntryFaults.{AreInputFaults}
use Rattle.range_faults.proofs.AddLemmas.{Walks}
use Rattle.range_faults.proofs.entries.add_inputs.Given as goal

abbrev pub invariant-loop-name : goal.invariant-loop-name
invariant-loop-name l =
    (n : ℕ) × (l.room ≡ most_inputs - n)
    × Walks AreInputFaults n (members_view l.name-iterator) (members_view l.entries.entries) l.initial.faults.items l.faults.items
