use Rattle.std.proofs.Common.{ap, ◌∙◌}
use Rattle.pap_tree.specs.Declarations.{declaration_of}
use Rattle.pap_tree.specs.Flowchart.{flowchart_of}
use Rattle.pap_types.specs.Scopes.{declared_as}
use Rattle.pap_types.proofs.LiteralLemmas.{typed_constant}
use Rattle.pap_types.proofs.typed.Typed.constant_value.Goals as goal

pub first_value-requires : goal.first_value-requires
first_value-requires c =
    let x = c.args.name.now in
    let found = c.in-Some.ensures ∙ ap (λ p. declared_as (flowchart_of p).constants x) c.scope.ensures.plan in
    typed_constant (flowchart_of c.args.self.now) x (declaration_of c.in-Some.declared.now) c.scope.ensures.well_typed found
