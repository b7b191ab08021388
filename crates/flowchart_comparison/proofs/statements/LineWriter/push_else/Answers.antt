use Rattle.std.proofs.Common.{sym, ◌∙◌}
use Rattle.std.proofs.lemmas.Result.{on_ok_weaker}
use Rattle.flowchart_comparison.proofs.LineLemmas.{else_none, else_some}
use Rattle.flowchart_comparison.proofs.statements.LineWriter.push_else.Goals as goal

pub returns : goal.returns
returns c =
    on_ok_weaker c.push_mark.result
    (λ added. else_some c.args.body.now _ _ _ _ (sym c.is_empty.ensures ∙ c.if-is_empty.false) added) c.push_mark.ensures

pub returns-then-is_empty : goal.returns-then-is_empty
returns-then-is_empty c =
    else_none c.args.body.now c.args.self.now.next c.args.self.now.lines.items (sym c.is_empty.ensures ∙ c.if-is_empty.true)
