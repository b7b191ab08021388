use Rattle.std.proofs.Common.{rules, ◌≢◌}
use Rattle.std.proofs.lemmas.Result.{IfOk-weaker}
use Rattle.pap_reader.specs.declared.fault.ReadFault.TheVariants as reads
use Rattle.pap_reader.specs.Trees.{tree_of}
use Rattle.pap_reader.proofs.Laws.{small_tree}
use Rattle.plan_text.specs.Sites.{sites_of}
use Rattle.diagnostics.specs.ExpressionFaults.{AreExpressionFaults, AreFaultsOf}
use Rattle.diagnostics.proofs.FindLemmas.{read_found, unread_found}
use Rattle.diagnostics.proofs.expressions.expression_faults.Goals as goal

pub faults_of-requires : goal.faults_of-requires
faults_of-requires c = small_tree c.args.plan.now (tree_of c.in-Ok.elements) c.in-Ok.ensures.read

pub returns-in-Ok : goal.returns-in-Ok
returns-in-Ok c =
    let x = tree_of c.in-Ok.elements in
    IfOk-weaker c.faults_of.result (λ faults. AreFaultsOf (sites_of x) faults.items) (λ faults. AreExpressionFaults c.args.plan.now faults.items)
    (λ faults h. read_found c.args.plan.now x faults.items c.in-Ok.ensures.read h) c.faults_of.ensures

pub returns-in-Err : goal.returns-in-Err
returns-in-Err c =
    let other : c.in-Err.field-0 ≢ reads.Memory = search rules in
    unread_found c.args.plan.now c.in-Err.field-0 c.new.result.items other c.in-Err.ensures.refused c.new.ensures.items
