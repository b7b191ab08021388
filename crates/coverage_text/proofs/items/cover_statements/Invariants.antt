use Rattle.std.proofs.Common.{◌≡◌, ◌++◌, drop}
use Rattle.coverage_text.specs.FlowchartItems.{body_items}
use Rattle.coverage_text.specs.private.SiteViews.{sites_of}
use Rattle.coverage_text.proofs.items.cover_statements.Given as goal

abbrev pub invariant-loop-at : goal.invariant-loop-at
invariant-loop-at l =
    l.items.items ++ body_items (sites_of l.sites l.name) l.at (drop l.at l.statements) (drop l.at l.runs)
    ≡ body_items (sites_of l.sites l.name) 0 l.statements l.runs
