-- The run of MAIN is that of the plan.
use Rattle.std.proofs.Common.{◌≡◌, ℕ, List, Some, refl, sym, ap, ◌∙◌, subst, arith}
use Rattle.std.specs.Prelude.{IsSome}
use Rattle.scaled_decimal.specs.Decimals.{Decimal}
use Rattle.pap_tree.specs.declared.plan.PlanText.{PlanText}
use Rattle.pap_tree.specs.Flowchart.{Body, flowchart_of}
use Rattle.pap_types.specs.Checks.{IsWellTyped}
use Rattle.pap_types.specs.Counts.{IsWithinCounts}
use Rattle.pap_types.specs.Limits.{longest_chain}
use Rattle.pap_types.specs.Meaning.{IsSafeFor}
use Rattle.pap_types.specs.Runs.{after, IsSafeBody}
use Rattle.pap_types.proofs.Laws.{has_types}
use Rattle.pap_types.specs.private.ScopeViews.{scope_in}
use Rattle.run_values.specs.NumberedValues.{IsStart}
use Rattle.run_values.specs.private.ValueViews.{values_in}
use Rattle.month_trace.specs.private.WalkViews.{calls_by, CanRun}

-- the statements of MAIN may be run from the values with which a run begins
pub main_runs : (p : PlanText) (inputs vs ws : List Decimal) (name : List ℕ) (b : Body) → IsWellTyped (flowchart_of p)
    → IsWithinCounts (flowchart_of p) → b ≡ (flowchart_of p).main → vs ≡ ws → IsStart (flowchart_of p) inputs ws
    → IsSafeFor (flowchart_of p) inputs
    → CanRun p (record { method = name; at = 0; chain = longest_chain }) b vs
main_runs p inputs vs ws name b typed counts is same begin h =
    let f = flowchart_of p in
    let calls = calls_by p longest_chain in
    let leads : after (scope_in p) calls f.main (values_in p ws) ≡ Some h.ends =
    ap (after (scope_in p) calls f.main) begin.values
    ∙ h.defined in
    let main : CanRun p (record { method = name; at = 0; chain = longest_chain }) f.main ws = record {
      values = record { well_typed = typed; sized = begin.sized };
      typed = (has_types f typed).main;
      safe = subst (IsSafeBody (scope_in p) calls f.main) (sym begin.values) h.safe;
      defined = subst (λ o. IsSome o) (sym leads) refl;
      room = omega (arith, counts.statements);
    } in
    subst (λ b. CanRun p (record { method = name; at = 0; chain = longest_chain }) b vs) (sym is)
    (subst (CanRun p (record { method = name; at = 0; chain = longest_chain }) f.main) (sym same) main)
