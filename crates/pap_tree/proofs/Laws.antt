-- The laws of trees that other crates may cite: what the statements of a program stand for, and how many there are.
pub use Rattle.pap_tree.proofs.Statements.{stmt_then-If, stmt_at, branch_is}
pub use Rattle.pap_tree.proofs.CountLemmas.{written-then, written_at, written_if}
