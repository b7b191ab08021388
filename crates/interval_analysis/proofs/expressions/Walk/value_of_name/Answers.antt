use Rattle.std.proofs.Common.{Some, length, sym, ap, ap₂, ◌∙◌, ◌<◌, arith}
use Rattle.std.specs.Option.{option_or, option_map}
use Rattle.std.proofs.lemmas.Option.{slice_get-get_or}
use Rattle.pap_types.specs.Scopes.{constant_in}
use Rattle.interval_walk.specs.Ranges.{single}
use Rattle.pap_types.specs.private.ScopeViews.{scope_in, variables_in}
use Rattle.interval_analysis.proofs.NameLemmas.{named_by, named_none, number_in}
use Rattle.interval_analysis.proofs.expressions.Walk.value_of_name.Goals as goal

pub returns-in-Some : goal.returns-in-Some
returns-in-Some c =
    let names = variables_in c.args.self.now.plan.now in
    let rs = c.args.ranges.now in
    let x = c.args.name.now in
    let number = c.in-Some.number in
    let is = sym c.requires.number ∙ c.in-Some.is in
    let within = (number_in names x number is).1 in
    let bound : number < length rs = omega (arith, within, c.requires.sized) in
    let read = slice_get-get_or rs number c.index-ranges-number.result bound ∙ ap Some (sym c.index-ranges-number.is) in
    let named = named_by names rs x number c.requires.sized is ∙ read in
    ap (λ o. option_or o (option_map single (constant_in (scope_in c.args.self.now.plan.now) x))) (sym named)

pub returns-in-Some-constant_value : goal.returns-in-Some-constant_value
returns-in-Some-constant_value c =
    let p = c.args.self.now.plan.now in
    let none = named_none (variables_in p) c.args.ranges.now c.args.name.now c.requires.sized (sym c.requires.number ∙ c.in-None.is) in
    let value = c.in-Some-constant_value.ensures ∙ ap (λ p. constant_in (scope_in p) c.args.name.now) c.typed.ensures in
    ap Some c.single.ensures ∙ ap₂ (λ o v. option_or o (option_map single v)) (sym none) value

pub returns-in-None-constant_value : goal.returns-in-None-constant_value
returns-in-None-constant_value c =
    let p = c.args.self.now.plan.now in
    let none = named_none (variables_in p) c.args.ranges.now c.args.name.now c.requires.sized (sym c.requires.number ∙ c.in-None.is) in
    let value = c.in-None-constant_value.ensures ∙ ap (λ p. constant_in (scope_in p) c.args.name.now) c.typed.ensures in
    ap₂ (λ o v. option_or o (option_map single v)) (sym none) value
