use Rattle.std.proofs.Common.{drop}
use Rattle.pap_tree.specs.Flowchart.{body_of}
use Rattle.statement_list.proofs.StatementLemmas.{IsLeft}
use Rattle.statement_list.proofs.list.+statements.Given as goal

abbrev pub invariant-add_body-loop-stmt : goal.invariant-add_body-loop-stmt
invariant-add_body-loop-stmt l =
    IsLeft (body_of l.body) (body_of (drop l.stmt-index l.body)) l.initial.statements.items l.statements.items
