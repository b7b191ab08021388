use Rattle.toml.specs.View.{members_view}
use Rattle.limits_file.specs.Inputs.{InputSays}
use Rattle.limits_file.proofs.WalkLemmas.{GoesOn}
use Rattle.limits_file.proofs.inputs.read_inputs.Given as goal

-- the entries so far have given these limits
abbrev pub invariant-loop-key : goal.invariant-loop-key
invariant-loop-key l = GoesOn InputSays l.inputs.items (members_view l.key-iterator) (members_view l.entries.entries)
