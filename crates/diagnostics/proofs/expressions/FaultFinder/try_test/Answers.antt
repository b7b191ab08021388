use Rattle.std.proofs.lemmas.Result.{on_ok_weaker}
use Rattle.pap_tree.specs.Grammar.{Level, tree}
use Rattle.pap_tree.specs.Term.{term_of}
use Rattle.diagnostics.proofs.FindLemmas.{finds_text}
use Rattle.diagnostics.proofs.expressions.FaultFinder.try_test.Goals as goal

pub returns : goal.returns
returns c =
    on_ok_weaker c.put.result
    (λ k. finds_text (Level 0) c.args.text.now c.args.spot c.parse_expr.result c.err-found.result (λ e. tree (term_of e)) c.args.self.now.faults.items c.put.new.self.faults.items
    c.parse_expr.ensures.tree c.parse_expr.ensures.fault c.err-found.ensures.value k)
    c.put.ensures
