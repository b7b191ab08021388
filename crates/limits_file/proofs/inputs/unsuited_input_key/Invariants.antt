use Rattle.std.proofs.Common.{◌≡◌}
use Rattle.toml.specs.View.{members_view}
use Rattle.limits_file.specs.Entries.{first_unsuited}
use Rattle.limits_file.specs.Inputs.{suits_input}
use Rattle.limits_file.proofs.inputs.unsuited_input_key.Given as goal

-- the keys so far suit
abbrev pub invariant-loop-key : goal.invariant-loop-key
invariant-loop-key l = first_unsuited suits_input (members_view l.key-iterator) ≡ first_unsuited suits_input (members_view l.entry.entries)
