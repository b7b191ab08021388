-- What other crates may cite: a line has one answer, and no other.
pub use Rattle.script_lang.proofs.OnceLemmas.{line_once}
pub use Rattle.script_lang.proofs.SomeLemmas.{line_some}
