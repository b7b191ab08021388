-- The run of MAIN is that of the plan.
use Rattle.std.proofs.Common.{◌≡◌, ℕ, List, [], ◌∷◌, ◌++◌, length, map, take, drop, append-nil, refl, sym, ap, ◌∙◌, subst, arith}
use Rattle.std.proofs.lemmas.List.{drop_all, take_all}
use Rattle.scaled_decimal.specs.Decimals.{Decimal}
use Rattle.pap_tree.specs.declared.plan.PlanText.{PlanText}
use Rattle.pap_tree.specs.Flowchart.{Body, flowchart_of}
use Rattle.pap_tree.specs.Names.{main_name}
use Rattle.pap_types.specs.Checks.{IsWellTyped}
use Rattle.pap_types.specs.Counts.{IsWithinCounts}
use Rattle.pap_types.specs.Limits.{longest_chain}
use Rattle.pap_types.specs.Meaning.{AreInputs, calls_in, start}
use Rattle.pap_types.specs.Scopes.{scope_of}
use Rattle.pap_types.proofs.Laws.{has_types}
use Rattle.pap_types.specs.private.ScopeViews.{variables_in}
use Rattle.checked_run.specs.declared.failure.RunFailure.{RunFailure}
use Rattle.checked_run.specs.declared.statements.Spot.{Spot}
use Rattle.checked_run.specs.RunEnds.{EndsAs}
use Rattle.checked_run.specs.RunFailures.{RunsTo, BodyFails, CallsFail, RunFails}
use Rattle.run_values.specs.NumberedValues.{variables_named, IsStart}
use Rattle.run_values.specs.private.ValueViews.{values_in}
use Rattle.checked_run.specs.private.WalkViews.{RunsFromTo, FailsFrom, CanRun}

-- where MAIN begins
abbrev pub main_spot : List ℕ → Spot
main_spot name = record { method = name; at = 0; chain = longest_chain }

pub main_can : (p : PlanText) (inputs vs ws : List Decimal) (name : List ℕ) (b : Body) → IsWellTyped (flowchart_of p)
    → IsWithinCounts (flowchart_of p) → b ≡ (flowchart_of p).main → vs ≡ ws → IsStart (flowchart_of p) inputs ws
    → CanRun p (main_spot name) b vs
main_can p inputs vs ws name b typed counts is same begin =
    let main : CanRun p (main_spot name) (flowchart_of p).main ws = record {
      values = record { well_typed = typed; sized = begin.sized };
      typed = (has_types (flowchart_of p) typed).main;
      small = counts.main_terms;
      room = omega (arith, counts.statements);
    } in
    subst (λ b. CanRun p (main_spot name) b vs) (sym is)
    (subst (CanRun p (main_spot name) (flowchart_of p).main) (sym same) main)

-- the values of named values
values_named : (names : List (List ℕ)) (vs : List Decimal) → length vs ≡ length names
    → map (λ v. v.value) (variables_named names vs) ≡ vs
values_named [] [] e = refl
values_named [] (v ∷ vs) e = absurd (omega arith)
values_named (x ∷ xs) [] e = absurd (omega arith)
values_named (x ∷ xs) (v ∷ vs) e = ap (λ rest. v ∷ rest) (values_named xs vs (omega arith))

module _ (p : PlanText) (inputs vs ws : List Decimal) (name : List ℕ) (b : Body) (called : name ≡ main_name)
    (is : b ≡ (flowchart_of p).main) (same : vs ≡ ws) (begin : IsStart (flowchart_of p) inputs ws) where
  -- the values with which the run begins
  begins : values_in p vs ≡ start (flowchart_of p) inputs
  begins = ap (values_in p) same ∙ begin.values

  pub ends_as : (new : List Decimal) → AreInputs (flowchart_of p).inputs inputs → length new ≡ length vs
      → RunsFromTo p longest_chain b vs new → EndsAs (flowchart_of p) inputs new
  ends_as new given sized run =
      let f = flowchart_of p in
      let main = subst (λ b. RunsTo (scope_of f) (calls_in f) b (values_in p vs) (values_in p new)) is run in
      let begun = subst (λ env. RunsTo (scope_of f) (calls_in f) f.main env (values_in p new)) begins main in
      record {
        safe = record { given = given; ends = values_in p new; defined = begun.is; safe = begun.safe };
        stand = values_named (variables_in p) new (sized ∙ ap length same ∙ begin.sized);
      }

  pub fails_as : (x : RunFailure) → FailsFrom p (main_spot name) b vs x → RunFails (flowchart_of p) inputs x
  fails_as x fails =
      let f = flowchart_of p in
      let CallFails = CallsFail (scope_of f) f.methods longest_chain in
      let named = subst (λ n. BodyFails (scope_of f) (calls_in f) CallFails n x 0 b (values_in p vs)) called fails in
      let main = subst (λ b. BodyFails (scope_of f) (calls_in f) CallFails main_name x 0 b (values_in p vs)) is named in
      subst (λ env. BodyFails (scope_of f) (calls_in f) CallFails main_name x 0 f.main env) begins main

-- what was written over all of some values
pub written_whole : (n : ℕ) (new items : List Decimal) → length new ≡ n → length items ≡ n
    → take n (new ++ drop (length new) items) ≡ new
written_whole n new items h k =
    ap (λ t. take n (new ++ t)) (drop_all (length new) items (omega arith))
    ∙ ap (take n) (append-nil new)
    ∙ take_all n new (omega arith)
