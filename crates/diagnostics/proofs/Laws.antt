-- What other crates may cite.
-- The first of all reasons why a run has no inputs is the one that is named; a plan's reasons are those of its inputs.
pub use Rattle.diagnostics.proofs.ReasonLemmas.{first_named, slots_reasons}
-- A plan has one list of faults of its expressions, and is refused with the first of them.
pub use Rattle.diagnostics.proofs.FaultLaws.{one_fault_list, first_answered}
