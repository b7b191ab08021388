use Rattle.std.proofs.Common.{Bor}
use Rattle.std.specs.Prelude.{option_map}
use Rattle.run_coverage.specs.declared.runs.StatementRuns.{StatementRuns}
use Rattle.coverage_text.specs.FlowchartItems.{body_items}
use Rattle.coverage_text.specs.private.SiteViews.{site_of, sites_of}
use Rattle.coverage_text.proofs.ItemLemmas.{one_statement}
use Rattle.coverage_text.proofs.items.cover_statements.Goals as goal

pub loop-at-preserved : goal.loop-at-preserved
loop-at-preserved c =
    let sites = sites_of c.args.sites c.args.name.now in
    let statements = c.args.statements.now in
    let runs = c.args.runs.now in
    one_statement sites statements runs c.loop-at.at c.index-statements-at.result (site_of c.in_ok-site.site)
    (option_map (λ (r : Bor StatementRuns). r.now) c.runs_at.result) c.loop-at.items.items c.add_counted.new.items.items
    (body_items sites 0 statements runs) c.index-statements-at.is c.loop-at-test.true c.in_ok-site.ensures c.runs_at.ensures
    c.loop-at.invariant c.in_ok-add_counted.ensures
