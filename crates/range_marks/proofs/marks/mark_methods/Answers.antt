use Rattle.std.proofs.Common.{ap, ◌∙◌}
use Rattle.pap_tree.specs.Flowchart.{flowchart_of}
use Rattle.range_marks.specs.RangeMarks.{walk_findings, statement_marks, method_marks}
use Rattle.range_marks.proofs.MarkLemmas.{one_method, all_methods}
use Rattle.range_marks.proofs.marks.mark_methods.Goals as goal

pub loop-number-preserved : goal.loop-number-preserved
loop-number-preserved c =
    let w = walk_findings c.args.findings.now in
    let f = flowchart_of c.args.plan.now in
    let methods = c.args.methods.now in
    one_method w f methods c.loop-number.number c.index-methods-number.result c.in_ok-of_method.of_method c.loop-number.marks.items
    c.push.new.self.items (method_marks w f 0 methods) c.index-methods-number.is c.loop-number-test.true
    (c.in_ok-of_method.ensures ∙ ap (λ name. statement_marks w name 0 c.index-methods-number.result) c.method_name_at-name.ensures)
    c.loop-number.invariant c.in_ok-push.ensures.items

pub returns : goal.returns
returns c =
    let w = walk_findings c.args.findings.now in
    let f = flowchart_of c.args.plan.now in
    let methods = c.args.methods.now in
    all_methods w f methods c.loop-number.number c.loop-number.marks.items (method_marks w f 0 methods) c.loop-number-test.false
    c.loop-number.invariant
