use Rattle.std.proofs.Common.{ap, ◌∙◌}
use Rattle.pap_types.specs.Scopes.{table_in}
use Rattle.pap_types.specs.private.ScopeViews.{scope_in}
use Rattle.interval_analysis.proofs.TableLemmas.{variable_table, constant_table, no_table}
use Rattle.interval_analysis.proofs.tables.TabledPlan.table.Goals as goal

pub returns-in-Some : goal.returns-in-Some
returns-in-Some c =
    let x = c.args.name.now in
    let scope = scope_in c.self.inside.typed.now in
    variable_table scope x c.self.inside.variables.items c.in-Some.number c.index.result.now
    c.self.invariant.variables c.in-Some.ensures c.index.ensures
    ∙ ap (λ p. table_in (scope_in p) x) c.self.view_is

pub returns-in-Some-constant : goal.returns-in-Some-constant
returns-in-Some-constant c =
    let x = c.args.name.now in
    let scope = scope_in c.self.inside.typed.now in
    constant_table scope x c.self.inside.constants.items c.in-Some-constant.number c.index-in-Some-constant.result.now
    c.self.invariant.constants c.in-None.ensures c.in-Some-constant.ensures c.index-in-Some-constant.ensures
    ∙ ap (λ p. table_in (scope_in p) x) c.self.view_is

pub returns-in-None-constant : goal.returns-in-None-constant
returns-in-None-constant c =
    let x = c.args.name.now in
    let scope = scope_in c.self.inside.typed.now in
    c.self.invariant.none
    ∙ no_table scope x c.in-None.ensures c.in-None-constant.ensures
    ∙ ap (λ p. table_in (scope_in p) x) c.self.view_is
