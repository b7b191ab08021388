-- The laws that other crates may cite.
-- A plan can be put or there would be too many.
pub use Rattle.what_if.proofs.FullLemmas.{full_or_not}
