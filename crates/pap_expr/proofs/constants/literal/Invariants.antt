use Rattle.std.proofs.Common.{◌≡◌, drop}
use Rattle.pap_tree.specs.Grammar.{Constant}
use Rattle.pap_tree.specs.Stopping.{syntax}
use Rattle.expr_tokens.specs.Spots.{spots_of}
use Rattle.expr_grammar.specs.Machine.{Signed, OfLine}
use Rattle.expr_grammar.specs.Run.{refusal_at, run}
use Rattle.pap_expr.specs.private.Constants.{due_of}
use Rattle.pap_expr.proofs.constants.literal.Given as goal

abbrev pub invariant-loop-found : goal.invariant-loop-found
invariant-loop-found l =
    run Constant (refusal_at syntax l.len) (Signed OfLine) (spots_of l.tokens)
    ≡ run Constant (refusal_at syntax l.len) (due_of l.state) (spots_of (drop l.found-index l.tokens))
