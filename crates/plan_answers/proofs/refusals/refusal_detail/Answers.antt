use Rattle.std.proofs.Common.{rules, ◌≡◌, ◌≢◌, subst}
use Rattle.interval_analysis.specs.declared.fault.RangeFault.TheVariants as walks
use Rattle.pap_plan.specs.declared.refusal.PlanRefusal.TheVariants as refusals
use Rattle.plan_answers.specs.Refusals.{HasItsPlan}
use Rattle.plan_answers.proofs.AnswerLemmas.{read_again}
use Rattle.plan_answers.proofs.refusals.refusal_detail.Goals as goal

pub unreachable-requires : goal.unreachable-requires
unreachable-requires c =
    let at = c.in-Range-At in
    let same : c.args.refusal.now ≡ refusals.Range (walks.At at.place at.cause) = search rules in
    let other : c.in-Err.field-0 ≢ refusals.Memory = search rules in
    let its = subst (HasItsPlan c.args.plan.now) same c.requires in
    other (read_again c.args.plan.now its.0 c.in-Err.field-0 its.1 c.in-Err.ensures.refused)
