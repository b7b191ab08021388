-- The laws that other crates may cite: a safe run has one trace, and its outputs are those behind the trace.
pub use Rattle.month_trace.proofs.ThereLemmas.{one_trace}
pub use Rattle.month_trace.proofs.OutputLemmas.{tells_outputs}
-- Each run of a book that has a job has a trace, which ends in the outputs that the book reports.
pub use Rattle.month_trace.proofs.AnswerLemmas.{traces_end}
