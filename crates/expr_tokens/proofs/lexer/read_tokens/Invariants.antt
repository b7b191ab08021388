use Rattle.std.proofs.Common.{◌≤◌, ◌-◌, List, length, ◌++◌}
use Rattle.pap_tree.specs.White.{is_white}
use Rattle.pap_tree.specs.Tokens.{Spot, Tokens}
use Rattle.expr_tokens.specs.Spots.{spots_of}
use Rattle.expr_tokens.specs.private.Views.{Stops}
use Rattle.expr_tokens.proofs.lexer.read_tokens.Given as goal

-- the tokens so far, and those of what is left, are those of the text
abbrev pub invariant-loop-token : goal.invariant-loop-token
invariant-loop-token l = record {
  told : (ts : List Spot) → Tokens (length l.text - length l.rest) l.rest ts → Tokens 0 l.text (spots_of l.tokens.items ++ ts);
  black : Stops is_white l.rest;
  within : length l.rest ≤ length l.text;
}

abbrev pub decreases-loop-token : goal.decreases-loop-token
decreases-loop-token l = length l.rest
