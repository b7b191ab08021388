-- The laws of plans' texts, for crates above.
pub use Rattle.plan_text.proofs.PlanLaws.{one_plan, one_fault, never_both, always_one}
