use Rattle.std.proofs.Common.{rules, ◌≢◌}
use Rattle.std.specs.Prelude.{option_map}
use Rattle.pap_reader.specs.declared.fault.ReadFault.TheVariants as faults
use Rattle.flowchart_page.specs.Judged.{finding_of}
use Rattle.flowchart_page.specs.Runs.{run_parts}
use Rattle.flowchart_page.specs.private.VerdictViews.{verdict_text}
use Rattle.flowchart_page.proofs.PageLemmas.{unread_page}
use Rattle.flowchart_page.proofs.chart.page_of_tokens.Goals as goal

pub returns-in_ok-empty_page-in-Err : goal.returns-in_ok-empty_page-in-Err
returns-in_ok-empty_page-in-Err c =
    let fault = c.in-Err.field-0 in
    let other : fault ≢ faults.Memory = search rules in
    unread_page (option_map run_parts c.args.run) (finding_of c.args.verdict.now) (verdict_text c.args.verdict.now)
    c.args.plan.bytes.now (option_map (λ f. f.bytes.now) c.args.limits) fault c.in_ok-empty_page-in-Err.field-0.items other
    c.in-Err.ensures.refused c.in_ok-empty_page-in-Err.ensures
