use Rattle.toml.specs.View.{members_view}
use Rattle.range_faults.specs.declared.fault.EntryFault.TheVariants.{Key}
use Rattle.range_faults.specs.EntryFaults.{entry_form}
use Rattle.range_faults.proofs.AddLemmas.{Unsuited}
use Rattle.range_faults.proofs.entries.add_unsuited.Given as goal

-- what the keys that are left add is what all add
abbrev pub invariant-loop-key : goal.invariant-loop-key
invariant-loop-key l =
    Unsuited ((entry_form l.section).suits (members_view l.entry.entries)) (Key l.section l.name) (members_view l.key-iterator)
    (members_view l.entry.entries) l.initial.faults.items l.faults.items
