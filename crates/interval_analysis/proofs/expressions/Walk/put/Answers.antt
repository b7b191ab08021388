use Rattle.std.proofs.Common.{sym, ap, ◌∙◌, subst}
use Rattle.std.specs.Prelude.{slice_get}
use Rattle.std.specs.Option.{option_map_or}
use Rattle.pap_tree.specs.Declarations.{declaration_of}
use Rattle.pap_types.specs.Scopes.{number_of}
use Rattle.interval_walk.specs.Walked.{range_kept_as}
use Rattle.pap_types.specs.private.ScopeViews.{scope_in, variables_in}
use Rattle.interval_analysis.specs.private.PlanViews.{ranges_in}
use Rattle.interval_analysis.specs.private.StatementViews.{CanPut}
use Rattle.interval_analysis.proofs.KeptLemmas.{declared_at, put_kept, put_nothing, kept_nothing}
use Rattle.interval_analysis.proofs.VariableLemmas.{goes_noted, goes_none}
use Rattle.interval_analysis.proofs.expressions.Walk.put.Goals as goal
use Rattle.interval_analysis.proofs.expressions.Walk.put.Goals.{in-Some-variable_at, in-None}

pub returns-in_default-clause-put : goal.returns-in_default-clause-put
returns-in_default-clause-put c = put_nothing c.args.self.now.plan.now c.args.variables.now.ranges.items c.args.target.now c.args.range c.requires.held.sized
    (c.in_default.ensures ∙ ap (λ p. number_of (variables_in p) c.args.target.now) c.typed-typed.ensures)

pub returns-in_default-clause-on : goal.returns-in_default-clause-on
returns-in_default-clause-on c = goes_none c.args.self.now.plan.now c.args.variables.now c.requires.held

pub kept_as-kept-requires : goal.kept_as-kept-requires
kept_as-kept-requires c =
    let p = c.typed-typed.result.now in
    let x = c.args.target.now in
    let found = declared_at (scope_in p).variables x c.in-Some.number c.in-Some.ensures in
    subst (λ p. CanPut p x c.args.range) (sym c.typed-typed.ensures) c.requires.walk (declaration_of c.in-Some-variable_at.declared.now) (sym (c.in-Some-variable_at.ensures ∙ found))

pub returns-in_default-clause-kept : goal.returns-in_default-clause-kept
returns-in_default-clause-kept c = kept_nothing c.args.self.now.plan.now c.args.target.now c.args.range
    (c.in_default.ensures ∙ ap (λ p. number_of (variables_in p) c.args.target.now) c.typed-typed.ensures)

pub returns-clause-kept : goal.returns-clause-kept
returns-clause-kept c =
    let p = c.args.self.now.plan.now in
    let x = c.args.target.now in
    let a = c.args.range in
    let number = c.in-Some.ensures ∙ ap (λ p. number_of (variables_in p) x) c.typed-typed.ensures in
    let found = ap (λ p. slice_get (scope_in p).variables c.in-Some.number) c.typed-typed.ensures ∙ declared_at (scope_in p).variables x c.in-Some.number number in
    elim c.match-variable_at.branch [
      | in-Some-variable_at w ↦ w.kept-is ∙ w.kept_as-kept.ensures ∙ ap (λ o. option_map_or (λ d. range_kept_as d.kind a) o a) (w.in-Some-variable_at.ensures ∙ found)
      | in-None w ↦ w.kept-is ∙ ap (λ o. option_map_or (λ d. range_kept_as d.kind a) o a) (w.in-None.ensures ∙ found)
    ]

pub returns-clause-put : goal.returns-clause-put
returns-clause-put c =
    let p = c.args.self.now.plan.now in
    let x = c.args.target.now in
    let number = c.in-Some.ensures ∙ ap (λ p. number_of (variables_in p) x) c.typed-typed.ensures in
    ap (ranges_in p) c.in_ok-put.ensures.value
    ∙ put_kept p c.args.variables.now.ranges.items x c.args.range c.match-variable_at.kept c.in-Some.number c.requires.held.sized number (returns-clause-kept c)

pub returns-clause-on : goal.returns-clause-on
returns-clause-on c = goes_noted c.args.self.now.plan.now c.args.variables.now c.put.new.self c.requires.held c.in_ok-put.ensures.noted c.in_ok-put.ensures.kept

pub returns-in_err-put-clause-on : goal.returns-in_err-put-clause-on
returns-in_err-put-clause-on c = goes_noted c.args.self.now.plan.now c.args.variables.now c.put.new.self c.requires.held c.in_err-put.ensures.noted c.in_err-put.ensures.kept
