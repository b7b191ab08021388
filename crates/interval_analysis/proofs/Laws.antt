-- The laws that other crates may cite.
-- What lies within a range lies within those around it; the least range of one alone, and of the same ranges said otherwise.
pub use Rattle.interval_analysis.proofs.RangeLemmas.{within_then, least_alone, least_as}
