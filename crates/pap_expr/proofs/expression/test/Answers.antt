use Rattle.std.proofs.Common.{List, sym, ap, subst}
use Rattle.std.proofs.lemmas.Result.{err_from_is_err_and}
use Rattle.pap_tree.specs.Term.{term_of}
use Rattle.pap_tree.specs.Tokens.{Tokens}
use Rattle.pap_tree.specs.Grammar.{Level, tree, assignment}
use Rattle.expr_tokens.specs.declared.token.Placed.{Placed}
use Rattle.expr_tokens.specs.Spots.{spots_of}
use Rattle.expr_grammar.specs.Lines.{a_test}
use Rattle.pap_expr.proofs.TextLemmas.{accepted, wrong, no_assignment, test_nodes, test_scales}
use Rattle.pap_expr.specs.declared.reading.Reading.TheVariants as readings
use Rattle.pap_expr.proofs.TrailLemmas.{have_bytes}
use Rattle.pap_expr.proofs.expression.test.Goals as goal

pub returns-in_err-read-clause-fault : goal.returns-in_err-read-clause-fault
returns-in_err-read-clause-fault c =
    let text = c.args.text.now in
    let ts = spots_of c.deref.result.now in
    let tokens = subst (λ (ps : List Placed). Tokens 0 text (spots_of ps)) (sym c.deref.ensures.value) c.in_ok-tokens.ensures in
    let p = err_from_is_err_and c.from_residual-in_err-read.result c.from_residual-in_err-read.ensures.1 in
    rw (p.1, p.2) (wrong (Level 0) a_test text ts c.in_err-read.field-0.0 tokens c.in_err-read.ensures.answer)

pub returns-in_default-clause-fault : goal.returns-in_default-clause-fault
returns-in_default-clause-fault c =
    let text = c.args.text.now in
    let ts = spots_of c.deref.result.now in
    let tokens = subst (λ (ps : List Placed). Tokens 0 text (spots_of ps)) (sym c.deref.ensures.value) c.in_ok-tokens.ensures in
    let e = rw c.in_default.is at c.in_ok-read.ensures.answer in
    absurd (no_assignment text c.in_default.field-0 (term_of c.in_default.field-1) (accepted (Level 0) a_test text ts (assignment c.in_default.field-0 (term_of c.in_default.field-1)) tokens e))

pub returns-clause-tree : goal.returns-clause-tree
returns-clause-tree c =
    let text = c.args.text.now in
    let ts = spots_of c.deref.result.now in
    let tokens = subst (λ (ps : List Placed). Tokens 0 text (spots_of ps)) (sym c.deref.ensures.value) c.in_ok-tokens.ensures in
    accepted (Level 0) a_test text ts (tree (term_of c.in-Test.expr)) tokens (rw c.in-Test.is at c.in_ok-read.ensures.answer)

pub returns-clause-nodes : goal.returns-clause-nodes
returns-clause-nodes c =
    let text = c.args.text.now in
    let ts = spots_of c.deref.result.now in
    let tokens = subst (λ (ps : List Placed). Tokens 0 text (spots_of ps)) (sym c.deref.ensures.value) c.in_ok-tokens.ensures in
    test_nodes text (term_of c.in-Test.expr) (accepted (Level 0) a_test text ts (tree (term_of c.in-Test.expr)) tokens (rw c.in-Test.is at c.in_ok-read.ensures.answer))

pub returns-clause-scales : goal.returns-clause-scales
returns-clause-scales c =
    let text = c.args.text.now in
    let ts = spots_of c.deref.result.now in
    let tokens = subst (λ (ps : List Placed). Tokens 0 text (spots_of ps)) (sym c.deref.ensures.value) c.in_ok-tokens.ensures in
    test_scales text (term_of c.in-Test.expr) (accepted (Level 0) a_test text ts (tree (term_of c.in-Test.expr)) tokens (rw c.in-Test.is at c.in_ok-read.ensures.answer))

pub returns-clause-places : goal.returns-clause-places
returns-clause-places c = λ kept.
    let text = c.args.text.now in
    let ts = spots_of c.deref.result.now in
    let tokens = subst (λ (ps : List Placed). Tokens 0 text (spots_of ps)) (sym c.deref.ensures.value) c.in_ok-tokens.ensures in
    let new = c.new-trail in
    have_bytes text ts new.result c.answer.new.trail c.args.is_kept (readings.Test c.in-Test.expr) _ tokens new.ensures.text new.ensures.track new.ensures.kept (sym (ap (λ v. v.items) c.nodes.ensures))
    (rw c.in-Test.is at c.in_ok-read.ensures.places) kept
