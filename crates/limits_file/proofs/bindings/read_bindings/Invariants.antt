use Rattle.toml.specs.View.{members_view}
use Rattle.limits_file.specs.Bindings.{BindingSays}
use Rattle.limits_file.proofs.WalkLemmas.{GoesOn}
use Rattle.limits_file.proofs.bindings.read_bindings.Given as goal

-- the entries so far have given these bindings
abbrev pub invariant-loop-key : goal.invariant-loop-key
invariant-loop-key l = GoesOn BindingSays l.bindings.items (members_view l.key-iterator) (members_view l.entries.entries)
