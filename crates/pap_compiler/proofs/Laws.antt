-- The laws that other crates may cite: the written-out code of a well-typed plan does what the plan means.
pub use Rattle.pap_compiler.proofs.PlanRuns.{is_code}
