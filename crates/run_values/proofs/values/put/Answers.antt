use Rattle.std.proofs.Common.{ap, sym, ◌∙◌}
use Rattle.std.specs.Option.{option_map_or}
use Rattle.pap_tree.specs.Flowchart.{flowchart_of}
use Rattle.pap_types.specs.Scopes.{kept_as}
use Rattle.run_values.proofs.PutLemmas.{put_kept}
use Rattle.run_values.proofs.values.put.Goals as goal

pub returns-clause-value : goal.returns-clause-value
returns-clause-value c =
    let a = c.args.value in
    c.kept_as-kept.ensures ∙ ap (λ o. option_map_or (λ d. kept_as d.kind a) o a) c.in-Some.ensures.declared

pub returns-clause-values : goal.returns-clause-values
returns-clause-values c =
    let a = c.args.value in
    put_kept (flowchart_of c.args.plan.now) c.args.values.now c.args.target.now a c.kept_as-kept.result c.in-Some.number c.requires.values
    (sym c.in-Some.ensures.number)
    (c.kept_as-kept.ensures ∙ ap (λ o. option_map_or (λ d. kept_as d.kind a) o a) c.in-Some.ensures.declared)
