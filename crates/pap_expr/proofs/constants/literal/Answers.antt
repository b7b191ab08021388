use Rattle.std.proofs.Common.{◌∙◌, refl, arith}
use Rattle.pap_tree.specs.Grammar.{Constant}
use Rattle.pap_tree.specs.Stopping.{syntax}
use Rattle.expr_grammar.specs.Run.{refusal_at}
use Rattle.pap_expr.specs.private.Constants.{due_of}
use Rattle.pap_expr.proofs.RunLemmas.{goes_on}
use Rattle.pap_expr.proofs.constants.literal.Goals as goal

pub loop-found-preserved : goal.loop-found-preserved
loop-found-preserved c =
    c.loop-found.invariant
    ∙ goes_on Constant (refusal_at syntax c.args.len) (due_of c.loop-found.state) (due_of c.in_ok-state.state) c.args.tokens.now c.loop-found.found-index c.found-item.result refl (omega arith) c.found-item.is c.in_ok-state.ensures
