use Rattle.std.proofs.Common.{List, sym, subst}
use Rattle.pap_tree.specs.Tokens.{Tokens}
use Rattle.expr_tokens.specs.declared.token.Placed.{Placed}
use Rattle.expr_tokens.specs.Spots.{spots_of}
use Rattle.pap_expr.proofs.TextLemmas.{literal_text, literal_fault}
use Rattle.pap_expr.proofs.constants.parse_constant.Goals as goal

pub returns-clause-literal : goal.returns-clause-literal
returns-clause-literal c =
    let text = c.args.text.now in
    let tokens = subst (λ (ps : List Placed). Tokens 0 text (spots_of ps)) (sym c.deref.ensures.value) c.in_ok-tokens.ensures in
    literal_text text (spots_of c.deref.result.now) c.literal.result tokens c.literal.ensures

pub returns-clause-fault : goal.returns-clause-fault
returns-clause-fault c =
    let text = c.args.text.now in
    let tokens = subst (λ (ps : List Placed). Tokens 0 text (spots_of ps)) (sym c.deref.ensures.value) c.in_ok-tokens.ensures in
    literal_fault text (spots_of c.deref.result.now) c.literal.result tokens c.literal.ensures
