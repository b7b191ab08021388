use Rattle.std.proofs.Common.{[], Some, option_map, IfOk, string_bytes, subst}
use Rattle.flowchart_page.specs.declared.subject.Subject.TheVariants.{Flowchart}
use Rattle.flowchart_page.specs.Pages.{IsRunPage}
use Rattle.flowchart_page.proofs.chart.draw_stopped.Goals as goal

pub returns-clause-page : goal.returns-clause-page
returns-clause-page c =
    subst
    (λ part. IfOk c.draw_shown.result (λ chart. IsRunPage (Some (record { subject = Flowchart; part = part; marks = c.args.marks.now; internals = [] }))
    c.args.plan.bytes.now (Some c.args.limits.bytes.now) (option_map (λ words. string_bytes words) chart.reason) chart.page.items))
    c.in_ok-part.ensures c.draw_shown.ensures.page
