use Rattle.std.proofs.Common.{◌≡◌}
use Rattle.toml.specs.View.{members_view}
use Rattle.limits_file.specs.Entries.{first_unsuited}
use Rattle.limits_file.specs.Bindings.{suits_binding}
use Rattle.limits_file.proofs.bindings.unsuited_binding_key.Given as goal

-- the keys so far suit
abbrev pub invariant-loop-key : goal.invariant-loop-key
invariant-loop-key l = first_unsuited (suits_binding l.counts) (members_view l.key-iterator) ≡ first_unsuited (suits_binding l.counts) (members_view l.entry.entries)
