-- The laws that other crates may cite.
-- The divisor of divide(d) in a typed expression is a plain one.
pub use Rattle.run_values.proofs.DivisorLemmas.{plain_two}
-- A typed list of statements has a typed first statement, and the others are typed.
pub use Rattle.run_values.proofs.StatementLemmas.{typed_here, typed_rest}
