use Rattle.std.proofs.Common.{sym, ◌∙◌, subst}
use Rattle.std.specs.Prelude.{All}
use Rattle.scaled_decimal.specs.Limits.{IsKept}
use Rattle.carry_bindings.specs.declared.filling.Filled.TheVariants.{State}
use Rattle.pay_run.specs.Accepted.{accepted}
use Rattle.pay_run.proofs.RunLemmas.{doubles, fills_inputs, fills_none}
use Rattle.pay_run.proofs.inputs.filled.Goals as goal

pub fill-requires-clause-doubles : goal.fill-requires-clause-doubles
fill-requires-clause-doubles c = doubles (accepted c.args.plan.now) c.law.ensures c.spec.result.now.slots c.spec.ensures

pub returns-in-Inputs : goal.returns-in-Inputs
returns-in-Inputs c =
    fills_inputs (accepted c.args.plan.now) c.law.ensures c.spec.result.now.slots c.spec.ensures c.args.item.now.values c.args.earlier.now c.in-Inputs.inputs
    (sym c.in-Inputs.is ∙ c.in_ok-inputs.ensures) (subst (λ l. All IsKept l) c.as_slice.ensures c.each_is_kept.ensures)

pub returns-in-State : goal.returns-in-State
returns-in-State c =
    fills_none (accepted c.args.plan.now) c.law.ensures c.spec.result.now.slots c.spec.ensures c.args.item.now.values c.args.earlier.now (State c.in-State.why)
    (sym c.in-State.is ∙ c.in_ok-inputs.ensures) tt
