use Rattle.std.specs.Prelude.{option_map}
use Rattle.std.proofs.lemmas.Result.{IfOk-weaker}
use Rattle.pap_reader.specs.Trees.{tree_of}
use Rattle.plan_notes.proofs.Laws.{whole_notes}
use Rattle.flowchart_page.specs.private.PageViews.{ShowsTree}
use Rattle.flowchart_page.specs.Judged.{finding_of}
use Rattle.flowchart_page.specs.private.VerdictViews.{verdict_text}
use Rattle.flowchart_page.specs.Runs.{run_parts}
use Rattle.flowchart_page.proofs.PageLemmas.{tree_page}
use Rattle.flowchart_page.proofs.chart.read_page.Goals as goal

pub returns : goal.returns
returns c =
    let finding = finding_of c.args.verdict.now in
    let verdict = verdict_text c.args.verdict.now in
    let run = option_map run_parts c.args.run in
    let plan = c.args.plan.bytes.now in
    let file = option_map (λ f. f.bytes.now) c.args.limits in
    let tree = tree_of c.args.elements.now in
    IfOk-weaker c.plan_page.result _ (λ page. ShowsTree run plan file finding verdict tree page.items)
    (λ page shown. tree_page run finding verdict plan file c.in_ok-notes.notes c.in_ok-limits.limits tree page.items
    (whole_notes plan c.args.tokens.now c.in_ok-notes.notes c.requires c.in_ok-notes.ensures) c.in_ok-limits.ensures shown)
    c.plan_page.ensures
