use Rattle.std.proofs.lemmas.Result.{on_ok_weaker}
use Rattle.flowchart_findings.specs.private.SetViews.{read_by, assigned_by}
use Rattle.flowchart_findings.proofs.FindingLemmas.{four_groups}
use Rattle.flowchart_findings.proofs.flowchart.add_declarations.Goals as goal

pub returns : goal.returns
returns c =
    on_ok_weaker c.add_declarations-4.result
    (λ four. four_groups (read_by c.args.names.now) (assigned_by c.args.names.now) c.args.plan.now
    c.deref.result.now c.deref-2.result.now c.deref-3.result.now c.deref-4.result.now c.args.out.now.items _ _ _ _
    c.deref.ensures.value c.deref-2.ensures.value c.deref-3.ensures.value c.deref-4.ensures.value
    c.in_ok-add_declarations.ensures c.in_ok-add_declarations-2.ensures c.in_ok-add_declarations-3.ensures four)
    c.add_declarations-4.ensures
