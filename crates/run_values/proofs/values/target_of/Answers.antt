use Rattle.std.proofs.Common.{Some, None, refl, ◌∙◌}
use Rattle.pap_types.specs.Scopes.{names_of}
use Rattle.pap_types.specs.private.ScopeViews.{scope_in}
use Rattle.pap_types.proofs.Laws.{declared_by}
use Rattle.run_values.proofs.values.target_of.Goals as goal

pub returns-in-Some-variable_at-clause-declared : goal.returns-in-Some-variable_at-clause-declared
returns-in-Some-variable_at-clause-declared c =
    let ds = (scope_in c.args.plan.now).variables in
    c.in-Some-variable_at.ensures
    ∙ declared_by ds c.args.name.now (names_of ds) (Some c.in-Some.number) refl c.in-Some.ensures

pub returns-in-None-variable_at-clause-declared : goal.returns-in-None-variable_at-clause-declared
returns-in-None-variable_at-clause-declared c =
    let ds = (scope_in c.args.plan.now).variables in
    c.in-None-variable_at.ensures
    ∙ declared_by ds c.args.name.now (names_of ds) (Some c.in-Some.number) refl c.in-Some.ensures

pub returns-in-None-clause-declared : goal.returns-in-None-clause-declared
returns-in-None-clause-declared c =
    let ds = (scope_in c.args.plan.now).variables in
    declared_by ds c.args.name.now (names_of ds) None refl c.in-None.ensures
