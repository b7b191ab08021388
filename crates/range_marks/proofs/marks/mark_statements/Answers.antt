use Rattle.std.proofs.Common.{ap, ◌∙◌}
use Rattle.range_marks.specs.RangeMarks.{walk_findings, range_mark, statement_marks}
use Rattle.range_marks.proofs.MarkLemmas.{one_statement, all_statements}
use Rattle.range_marks.proofs.marks.mark_statements.Goals as goal

pub loop-at-preserved : goal.loop-at-preserved
loop-at-preserved c =
    let w = walk_findings c.args.findings.now in
    let name = c.args.name.now in
    let statements = c.args.statements.now in
    one_statement w name statements c.loop-at.at c.index-statements-at.result c.in_ok-mark.mark c.loop-at.marks.items
    c.push.new.self.items (statement_marks w name 0 statements) c.index-statements-at.is c.loop-at-test.true
    (c.in_ok-mark.ensures ∙ ap (λ form. range_mark w (name, c.loop-at.at) form) c.form.ensures) c.loop-at.invariant
    c.in_ok-push.ensures.items

pub returns : goal.returns
returns c =
    let w = walk_findings c.args.findings.now in
    let statements = c.args.statements.now in
    all_statements w c.args.name.now statements c.loop-at.at c.loop-at.marks.items (statement_marks w c.args.name.now 0 statements)
    c.loop-at-test.false c.loop-at.invariant
