use Rattle.std.proofs.Common.{Some, option_map, IfOk, string_bytes, sym, subst}
use Rattle.flowchart_page.specs.Pages.{IsRunPage}
use Rattle.range_marks.specs.RangeMarks.{failing_of}
use Rattle.author_cli.specs.Answers.{refused_runs}
use Rattle.author_cli.proofs.charted.draw_walk.Goals as goal

pub returns-in-Some-clause-page : goal.returns-in-Some-clause-page
returns-in-Some-clause-page c =
    subst
    (λ failing. IfOk c.draw_stopped.result (λ chart. IsRunPage (Some (refused_runs (option_map failing_of failing) c.args.marks.now))
    c.args.plan.bytes.now (Some c.args.limits.bytes.now) (option_map (λ words. string_bytes words) chart.reason) chart.page.items))
    (sym c.in-Some.is) c.draw_stopped.ensures.page
