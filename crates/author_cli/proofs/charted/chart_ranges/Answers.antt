use Rattle.std.proofs.Common.{◌∙◌, ap, sym, map, subst}
use Rattle.pap_tree.specs.Flowchart.{flowchart_of}
use Rattle.plain_words.specs.Places.{named_text}
use Rattle.range_marks.specs.RangeMarks.{findings_in, range_marks}
use Rattle.range_marks.specs.InternalRanges.{AreInternalRanges}
use Rattle.author_cli.proofs.ChartLemmas.{ranges_shown}
use Rattle.author_cli.proofs.charted.chart_ranges.Goals as goal

pub returns : goal.returns
returns c =
    let f = flowchart_of c.args.bound.now.typed in
    let w = findings_in c.args.survey.now in
    ranges_shown (named_text c.args.plan) (named_text c.args.limits) f c.args.bound.now.limits w c.deref.result.now
    (map (λ t. t.items) c.deref-2.result.now) _ c.requires
    (c.deref.ensures.value ∙ c.in_ok-marks.ensures ∙ ap (λ p. range_marks (flowchart_of p) w) c.plan.ensures.text)
    (subst (λ ts. AreInternalRanges f w (map (λ t. t.items) ts)) (sym c.deref-2.ensures.value) c.in_ok-internals.ensures)
    c.in_ok-page.ensures.page c.in_ok-page.ensures.judged
