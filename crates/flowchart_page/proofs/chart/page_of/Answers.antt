use Rattle.std.specs.Prelude.{option_map}
use Rattle.flowchart_page.specs.private.VerdictViews.{verdict_text}
use Rattle.flowchart_page.proofs.PageLemmas.{page_around}
use Rattle.flowchart_page.proofs.chart.page_of.Goals as goal

pub returns : goal.returns
returns c =
    page_around c.args.head.subject c.args.head.title.now (option_map (λ version. version.now) c.args.head.version) c.args.head.lead.now
    (verdict_text c.args.verdict.now c.args.site.now) c.args.rest c.new-html.result.items c.push_head.new.html.items
    c.push_verdict.new.html.items c.push_page.new.html.items c.push_own.new.html.items c.new-html.ensures.items
    c.in_ok-push_head.ensures c.in_ok-push_verdict.ensures c.in_ok-push_page.ensures.grown c.in_ok-push_own.ensures
    c.in_ok-push_page.ensures.marked_up
