-- Laws of the tokens of a text.
use Rattle.std.proofs.Common.{◌≡◌, ℕ, List}
use Rattle.pap_tree.specs.Tokens.{Spot, Tokens}
use Rattle.expr_tokens.proofs.OneReadingLemmas as one
use Rattle.expr_tokens.proofs.AlwaysLemmas as always
-- what a text that is put together needs of its tokens
pub use Rattle.expr_tokens.proofs.FrontLemmas.{within}
pub use Rattle.expr_tokens.proofs.LongestLemmas.{begins}
pub use Rattle.expr_tokens.proofs.ClassLemmas.{class, only_word, word_first, all_digits}
pub use Rattle.expr_tokens.proofs.SignLemmas.{pair_begins, a_token}
pub use Rattle.expr_tokens.proofs.NumberLemmas.{int_begins, long_begins, point_begins}
pub use Rattle.expr_tokens.proofs.StringLemmas.{string_begins, quoted, number_no_quote}

-- a text has one list of tokens
pub one_reading : (at : ℕ) (bytes : List ℕ) (ts us : List Spot) → Tokens at bytes ts → Tokens at bytes us → ts ≡ us
one_reading = one.one_reading

-- a text has a list of tokens
pub always_read : (at : ℕ) (bytes : List ℕ) → (ts : List Spot) × Tokens at bytes ts
always_read = always.always_read
