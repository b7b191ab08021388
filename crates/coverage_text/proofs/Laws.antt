-- Texts that are written one after the other, for crates above.
pub use Rattle.coverage_text.proofs.CountLemmas.{one_more}
