use Rattle.std.proofs.Common.{◌∙◌, ap}
use Rattle.std.specs.Prelude.{option_map}
use Rattle.pap_tree.specs.Flowchart.{flowchart_of}
use Rattle.plain_words.specs.Places.{named_text}
use Rattle.range_marks.specs.RangeMarks.{WalkFindings, failing_of, walk_findings, refused_findings, range_marks}
use Rattle.author_cli.proofs.ChartLemmas.{refused_shown}
use Rattle.author_cli.proofs.charted.chart_walked.Goals as goal

pub returns : goal.returns
returns c =
    let f = flowchart_of c.args.bound.now.typed in
    let found = c.refused-findings.result in
    let w = refused_findings c.args.refused.now in
    refused_shown (named_text c.args.plan) (named_text c.args.limits) f c.args.bound.now.limits c.args.refused.now.fault w
    (option_map failing_of found.failing) c.deref.result.now _ c.requires
    (ap (λ (x : WalkFindings). x.failing) c.refused-findings.ensures)
    (c.deref.ensures.value ∙ c.in_ok-marks.ensures ∙ ap (λ p. range_marks (flowchart_of p) (walk_findings found)) c.plan.ensures.text
    ∙ ap (range_marks f) c.refused-findings.ensures)
    c.in_ok-page.ensures.page c.in_ok-page.ensures.judged
