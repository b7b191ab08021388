-- The laws that other crates may cite.
-- The inputs of an accepted plan are those of its declarations; those that are filled are admitted.
pub use Rattle.pay_run.proofs.RunLemmas.{are_slots, filled_slots}
pub use Rattle.pay_run.proofs.AdmissionLemmas.{filled_admitted}
-- A run on inputs that are filled from kept values is safe.
pub use Rattle.pay_run.proofs.KeptLemmas.{filled_safe}
-- The outputs of a run and its cost are those of its flowchart's meaning; plans that mean the same have the same outputs.
pub use Rattle.pay_run.proofs.RunLemmas.{outputs_are, cost_is, same_outputs}
