use Rattle.std.proofs.Common.{ap, ◌∙◌}
use Rattle.std.specs.Option.{option_or}
use Rattle.pap_tree.specs.Flowchart.{flowchart_of}
use Rattle.pap_types.specs.Scopes.{declared_as}
use Rattle.pap_types.proofs.scope.Scope.declaration.Goals as goal

pub returns-in-Some : goal.returns-in-Some
returns-in-Some c =
    ap (λ found. option_or found (declared_as (flowchart_of c.args.self.now.plan.now).constants c.args.name.now)) c.in-Some.ensures

pub returns-in-None : goal.returns-in-None
returns-in-None c =
    c.constant.ensures ∙ ap (λ found. option_or found (declared_as (flowchart_of c.args.self.now.plan.now).constants c.args.name.now)) c.in-None.ensures
