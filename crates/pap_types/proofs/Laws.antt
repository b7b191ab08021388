-- The laws that other crates may cite.
-- What holds of the parts of a well-typed plan.
pub use Rattle.pap_types.proofs.TypingLemmas.{has_types}
-- The literals of its declarations are of their types.
pub use Rattle.pap_types.proofs.LiteralLemmas.{types_behind, types_before, ArePartsTyped, parts_typed, declared_type}
-- The test for plain divisors is passed by a whole number, at least 1, that divides 10^30, and by no other.
pub use Rattle.pap_types.proofs.DivisorLemmas.{plain_number, plain_divisor}
-- A declaration stands at the number of its name.
pub use Rattle.pap_types.proofs.ScopeLemmas.{declared_by}
-- A run costs at most the bound, and so does each of its parts.
pub use Rattle.pap_types.proofs.BoundLemmas.{cost_bounded, spent_bounded, method_bounded, cost_at_most, bounded_by_nodes}
-- A run keeps the variables in the order of their numbers; a safe one has one list of outputs.
pub use Rattle.pap_types.proofs.RunLemmas.{entry_names, names-put, KeepsNames, names-after, names-calls, names-start, names-ends, one_outputs}
