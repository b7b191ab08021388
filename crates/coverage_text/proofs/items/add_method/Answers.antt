use Rattle.std.proofs.Common.{Bor, ap, ◌∙◌}
use Rattle.std.specs.Prelude.{option_map}
use Rattle.statement_list.specs.declared.list.ListedMethod.{ListedMethod}
use Rattle.run_coverage.specs.declared.runs.MethodRuns.{MethodRuns}
use Rattle.coverage_text.specs.FlowchartItems.{body_items}
use Rattle.coverage_text.specs.private.SiteViews.{known_of, sites_of}
use Rattle.coverage_text.proofs.ItemLemmas.{method_added}
use Rattle.coverage_text.proofs.items.add_method.Goals as goal

pub returns : goal.returns
returns c =
    let listed = option_map (λ (m : Bor ListedMethod). m.now) in
    let counted = option_map (λ (m : Bor MethodRuns). m.now) in
    let sites = sites_of c.args.sites c.args.name.now in
    method_added (known_of c.args.sites) c.args.sites.number c.args.name.now (listed c.args.listed) (counted c.args.runs)
    c.in-Some.listed.now c.in-Some-runs.runs.now c.in_ok-items.items.items c.args.methods.now.items c.push.new.self.items
    (ap listed c.in-Some.is) (ap counted c.in-Some-runs.is)
    (c.in_ok-items.ensures ∙ ap (λ ss. body_items sites 0 ss c.statements-2.result.now) c.statements.ensures
    ∙ ap (λ rs. body_items sites 0 c.in-Some.listed.now rs) c.statements-2.ensures)
    c.in_ok-push.ensures.items
