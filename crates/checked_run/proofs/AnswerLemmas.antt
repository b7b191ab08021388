-- What is answered of an operation on two operands, from what is answered of these.
use Rattle.std.proofs.Common.{◌≡◌, ℕ, List, true, Some, Result, Ok, Err, sym, ap, ◌∙◌, subst, inr, arith}
use Rattle.scaled_decimal.specs.Decimals.{Decimal}
use Rattle.pap_tree.specs.declared.plan.PlanText.{PlanText}
use Rattle.pap_tree.specs.Term.{Term, two, Two}
use Rattle.pap_types.specs.declared.kinds.NodeKind.{NodeKind}
use Rattle.pap_types.specs.Kinds.{kind_of, kind_of_two}
use Rattle.pap_types.specs.Values.{goes_right}
use Rattle.pap_types.specs.private.ScopeViews.{scope_in}
use Rattle.checked_run.specs.declared.cause.FailureCause.{FailureCause}
use Rattle.checked_run.specs.declared.expressions.Evaluated.{Evaluated}
use Rattle.checked_run.specs.declared.failure.NodeFailure.{NodeFailure}
use Rattle.checked_run.specs.OperationFailures.{TwoFails}
use Rattle.checked_run.specs.private.OperationViews.{TwoAnswer}
use Rattle.run_values.specs.private.ValueViews.{values_in}
use Rattle.checked_run.specs.private.ValueViews.{IsEvaluated, EvaluationAnswer, OwnAnswer}
use Rattle.checked_run.proofs.ExpressionLemmas.{two_to}

module _ (p : PlanText) (at : ℕ) (vs : List Decimal) where
  pub two_answer : (op : Two) (e f : Term) (a b : Evaluated) (k : NodeKind) (value : Result Decimal FailureCause)
      (r : Result Evaluated NodeFailure) → IsEvaluated p e at vs a → goes_right op a.value ≡ true
      → IsEvaluated p f a.next vs b → k ≡ kind_of_two op a.kind b.kind
      → TwoAnswer op k a.value b.value value → OwnAnswer value k b.next r → EvaluationAnswer p (two op e f) at vs r
  two_answer op e f a b k (Ok v) (Ok r) h goes g kind answer own =
      let same : k ≡ kind_of (scope_in p) (two op e f) =
      kind ∙ ap (λ j. kind_of_two op j b.kind) h.kind ∙ ap (kind_of_two op (kind_of (scope_in p) e)) g.kind in
      let fits = subst (λ k. TwoAnswer op k a.value b.value (Ok v)) same answer in
      record {
        to =
            two_to (scope_in p) (values_in p vs) op e f a.value b.value r.value h.to goes g.to fits.0
            (fits.1 ∙ ap (λ v. Some v) (sym own.0));
        kind = own.1 ∙ same;
        next = omega (arith, own.2, h.next, g.next);
      }
  two_answer op e f a b k (Err c) (Err x) h goes g kind answer own =
      let same : k ≡ kind_of (scope_in p) (two op e f) =
      kind ∙ ap (λ j. kind_of_two op j b.kind) h.kind ∙ ap (kind_of_two op (kind_of (scope_in p) e)) g.kind in
      let fails = subst (λ k. TwoFails op k a.value b.value c) same answer in
      inr (
        a.value,
        h.to,
        goes,
        inr (
          b.value,
          g.to,
          subst (TwoFails op (kind_of (scope_in p) (two op e f)) a.value b.value) (sym own.1) fails,
          omega (arith, own.0, h.next, g.next),
        ),
      )
  two_answer op e f a b k (Ok v) (Err x) h goes g kind answer own = absurd own
  two_answer op e f a b k (Err c) (Ok r) h goes g kind answer own = absurd own
