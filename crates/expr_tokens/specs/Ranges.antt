-- The ranges of literals, as a test on the program's tokens.
use Rattle.std.specs.Prelude.{Bool, true, nat_le}
use Rattle.pap_tree.specs.Tokens.{greatest_int, greatest_long}
use Rattle.expr_tokens.specs.declared.token.Token.{Token}
use Rattle.expr_tokens.specs.declared.token.Token.TheVariants.{Int, Long}

-- a literal has no sign of its own: an `int` is at most 2^31 - 1, a `long` at most 2^63 - 1
abbrev pub is_in_range : Token → Bool
is_in_range (Int n) = nat_le n greatest_int
is_in_range (Long n) = nat_le n greatest_long
is_in_range _ = true
