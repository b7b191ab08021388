use Rattle.std.proofs.Common.{sym, ◌∙◌}
use Rattle.pap_types.specs.private.ScopeViews.{scope_in}
use Rattle.interval_analysis.proofs.KeptLemmas.{kind_by}
use Rattle.interval_analysis.proofs.names.kind_named.Goals as goal

pub returns-in-Some : goal.returns-in-Some
returns-in-Some c = c.kind_at.ensures ∙ kind_by (scope_in c.args.plan.now) c.args.name.now c.in-Some.number (sym c.in-Some.is ∙ c.requires)
