use Rattle.std.proofs.Common.{ap, ◌∙◌}
use Rattle.pap_tree.specs.Flowchart.{flowchart_of}
use Rattle.pap_plan.specs.Plans.{flowchart}
use Rattle.coverage_text.specs.FlowchartItems.{known_in}
use Rattle.table_coverage.proofs.TableLemmas.{items_covered}
use Rattle.table_coverage.proofs.table.cover_methods.Goals as goal

pub returns : goal.returns
returns c =
    items_covered (flowchart c.args.plan.now) (flowchart_of c.plan-flowchart.result.now) (known_in c.args.places) c.args.book.now _ _ _ _
    _ _ c.flowchart_items.result (ap (λ p. flowchart_of p) (c.plan-flowchart.ensures.text ∙ c.text.ensures.text))
    c.in_ok-listed.ensures c.deref.ensures.value c.in_ok-counts.ensures c.deref-2.ensures.value c.in_ok-coverage.ensures
    c.methods.ensures c.flowchart_items.ensures
