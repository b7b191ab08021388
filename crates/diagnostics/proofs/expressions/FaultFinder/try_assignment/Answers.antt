use Rattle.std.proofs.lemmas.Result.{on_ok_weaker}
use Rattle.pap_tree.specs.Grammar.{Assignment, assignment}
use Rattle.pap_tree.specs.Term.{term_of}
use Rattle.diagnostics.proofs.FindLemmas.{finds_text}
use Rattle.diagnostics.proofs.expressions.FaultFinder.try_assignment.Goals as goal

pub returns : goal.returns
returns c =
    on_ok_weaker c.put.result
    (λ k. finds_text Assignment c.args.text.now c.args.spot c.parse_assign.result c.err-found.result (λ r. assignment r.0 (term_of r.1)) c.args.self.now.faults.items c.put.new.self.faults.items
    c.parse_assign.ensures.tree c.parse_assign.ensures.fault c.err-found.ensures.value k)
    c.put.ensures
