use Rattle.std.proofs.Common.{[], sym, ap, ◌∙◌, subst}
use Rattle.std.specs.Prelude.{All}
use Rattle.std.specs.List.{AllByRecursion}
use Rattle.scaled_decimal.specs.Limits.{IsKept}
use Rattle.carry_bindings.specs.Conditions.{KeepsFactorLimit}
use Rattle.carry_bindings.specs.Filling.{filled_by}
use Rattle.carry_bindings.specs.declared.filling.Filled.TheVariants.{State}
use Rattle.pay_run.specs.Accepted.{accepted}
use Rattle.author_cli.proofs.GivenLemmas.{unbound_doubles, gives_inputs, gives_none}
use Rattle.author_cli.proofs.given.fill_given.Goals as goal

pub fill-requires-clause-doubles : goal.fill-requires-clause-doubles
fill-requires-clause-doubles c =
    subst (λ ss. AllByRecursion KeepsFactorLimit ss) (sym c.in_ok-spec.ensures)
    (unbound_doubles (accepted c.args.plan.now) c.law.ensures c.spec.result.now.slots c.spec.ensures)

pub returns-in-Inputs : goal.returns-in-Inputs
returns-in-Inputs c =
    gives_inputs (accepted c.args.plan.now) c.law.ensures c.spec.result.now.slots c.spec.ensures c.args.item.now.values
    c.in-Inputs.inputs
    (sym c.in-Inputs.is ∙ c.in_ok-inputs.ensures ∙ ap (λ ss. filled_by ss c.args.item.now.values []) c.in_ok-spec.ensures)
    (subst (λ l. All IsKept l) c.as_slice.ensures c.each_is_kept.ensures)

pub returns : goal.returns
returns c =
    gives_none (accepted c.args.plan.now) c.law.ensures c.spec.result.now.slots c.spec.ensures c.args.item.now.values
    (State c.in-State.why)
    (sym c.in-State.is ∙ c.in_ok-inputs.ensures ∙ ap (λ ss. filled_by ss c.args.item.now.values []) c.in_ok-spec.ensures) tt
