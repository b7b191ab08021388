use Rattle.std.proofs.Common.{Some, length, sym, ap, ◌∙◌, ◌<◌, arith}
use Rattle.std.specs.Option.{option_or}
use Rattle.std.proofs.lemmas.Option.{slice_get-get_or}
use Rattle.pap_types.specs.Scopes.{constant_in}
use Rattle.pap_types.specs.private.ScopeViews.{scope_in, variables_in}
use Rattle.run_values.proofs.NameLemmas.{named_by, named_none, number_in}
use Rattle.run_values.proofs.ScopeLemmas.{undeclared}
use Rattle.run_values.proofs.names.value_of_name.Goals as goal

pub returns-in-Some : goal.returns-in-Some
returns-in-Some c =
    let names = variables_in c.args.plan.now in
    let vs = c.args.values.now in
    let x = c.args.name.now in
    let number = c.in-Some.number in
    let sized = c.requires.values in
    let within = (number_in names x number (sym c.in-Some.ensures)).1 in
    let bound : number < length vs = omega (arith, within, sized) in
    let read = slice_get-get_or vs number c.index-values-number.result bound ∙ ap Some (sym c.index-values-number.is) in
    let named = named_by names vs x number sized (sym c.in-Some.ensures) ∙ read in
    ap (λ o. option_or o (constant_in (scope_in c.args.plan.now) x)) named

pub returns-in-Some-constant_value : goal.returns-in-Some-constant_value
returns-in-Some-constant_value c =
    let p = c.args.plan.now in
    let none =
    named_none (variables_in p) c.args.values.now c.args.name.now c.requires.values (sym c.in-None.ensures) in
    ap (λ o. option_or o (constant_in (scope_in p) c.args.name.now)) none ∙ sym c.in-Some-constant_value.ensures

pub unreachable-requires : goal.unreachable-requires
unreachable-requires c =
    undeclared (scope_in c.args.plan.now) c.args.name.now c.in-None.ensures c.in-None-constant_value.ensures
    c.requires.declared
