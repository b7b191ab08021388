use Rattle.pap_tree.specs.Flowchart.{flowchart_of}
use Rattle.pap_plan.specs.BoundPlans.{IsUnboundOrMemory}
use Rattle.pap_plan.proofs.LimitLemmas.{file_sound}
use Rattle.pap_plan.proofs.AcceptLemmas.{passed, have_limits, bindings_of}
use Rattle.pap_plan.proofs.BoundLemmas.{untyped_unbound}
use Rattle.pap_plan.proofs.bound.read_bound.Goals as goal

pub returns-clause-bound : goal.returns-clause-bound
returns-clause-bound c =
    let f = flowchart_of c.in_ok-typed.typed in
    let h = c.in_ok-bound.ensures.bound in
    let sound = file_sound c.args.limits.now _ h.file in
    record {
      passed = bindings_of c.args.plan.now c.args.limits.now f _ _ c.in_ok-typed.ensures.typed h.ordered h.file h.matched;
      ordered = h.ordered;
      limited = have_limits f _ h.matched sound;
      sound = sound;
    }

pub returns-in_err-bound-clause-refused : goal.returns-in_err-bound-clause-refused
returns-in_err-bound-clause-refused c =
    passed (IsUnboundOrMemory c.args.plan.now c.args.limits.now) c.from_residual-in_err-bound.result
    c.in_err-bound.field-0.0
    (record {
      refused = c.in_err-bound.ensures.refused c.args.plan.now c.in_ok-typed.ensures.typed;
      early = c.in_err-bound.ensures.early;
    })
    c.from_residual-in_err-bound.ensures.1

pub returns-in_err-typed-clause-refused : goal.returns-in_err-typed-clause-refused
returns-in_err-typed-clause-refused c =
    passed (IsUnboundOrMemory c.args.plan.now c.args.limits.now) c.from_residual.result c.in_err-typed.field-0.0
    (untyped_unbound c.args.plan.now c.args.limits.now c.in_err-typed.field-0.0 c.in_err-typed.ensures.refused)
    c.from_residual.ensures.1
