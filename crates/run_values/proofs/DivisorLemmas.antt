-- The divisor of divide(d) is a plain one.
use Rattle.std.proofs.Common.{◌≡◌, ℕ, List, [], ◌∷◌, Bool, true, false, ◌&&◌, Some, None, refl, sym, ◌∙◌, subst, true≢false}
use Rattle.std.specs.Prelude.{IsTrue, if◌then◌else◌}
use Rattle.std.specs.Str.{bytes_eq}
use Rattle.std.proofs.lemmas.Option.{none-some}
use Rattle.scaled_decimal.specs.Decimals.{Decimal, numerator_of}
use Rattle.scaled_decimal.specs.ExactQuotients.{IsPlainDivisor}
use Rattle.pap_tree.specs.declared.plan.PlanText.{PlanText}
use Rattle.pap_tree.specs.declared.expression.Call.{Call}
use Rattle.pap_tree.specs.declared.expression.Call.TheVariants as calls
use Rattle.pap_tree.specs.Declarations.{Declaration}
use Rattle.pap_tree.specs.Flowchart.{flowchart_of}
use Rattle.pap_tree.specs.Term.{Term, two, Two, operator, method, divide}
use Rattle.pap_types.specs.Kinds.{kind_of, is_big, shows_plain_divisor, takes_two}
use Rattle.pap_types.specs.Scopes.{declared_as, names_of, variables_of}
use Rattle.pap_types.specs.Typing.{IsTypedTerm}
use Rattle.pap_types.specs.Values.{look}
use Rattle.pap_types.specs.private.ScopeViews.{scope_in}
use Rattle.pap_types.proofs.Laws.{has_types}
use Rattle.interval_walk.specs.private.Soundness.{AreVariables}
use Rattle.interval_walk.proofs.Laws.{sound_scope, shown_plain, shown_value}
use Rattle.run_values.specs.private.OperationViews.{IsPlainFor, IsPlainForTwo}
use Rattle.run_values.specs.NumberedValues.{variables_named}
use Rattle.run_values.specs.private.ValueViews.{values_in, value_in, HasValues}
use Rattle.run_values.proofs.NameLemmas.{same_either_way}

some_same : (a b : Decimal) → Some a ≡ Some b → a ≡ b
some_same a b e = cc

-- names that aren't declared have no value
no_value : (ds : List Declaration) (vs : List Decimal) (x : List ℕ) → declared_as ds x ≡ None
    → look (variables_named (names_of ds) vs) x ≡ None
no_value [] vs x e = refl
no_value (d ∷ ds) [] x e = refl
no_value (d ∷ ds) (v ∷ vs) x e = rw (same_either_way d.name x) (by_name (bytes_eq x d.name) e (no_value ds vs x))
  where
    by_name : (t : Bool) → (if t then Some d else declared_as ds x) ≡ None
        → (declared_as ds x ≡ None → look (variables_named (names_of ds) vs) x ≡ None)
        → (if t then Some v else look (variables_named (names_of ds) vs) x) ≡ None
    by_name true e later = absurd (none-some d (sym e))
    by_name false e later = later e

variables_only : (p : PlanText) (vs : List Decimal) → AreVariables (scope_in p) (values_in p vs)
variables_only p vs x e = no_value (variables_of (flowchart_of p)) vs x e

both_true : (s t : Bool) → (s && t) ≡ true → (s ≡ true) × (t ≡ true)
both_true true t e = (refl, e)
both_true false t e = absurd (true≢false (sym e))

divisor_plain : (p : PlanText) (vs : List Decimal) (f : Term) (b : Decimal) → HasValues p vs
    → shows_plain_divisor (scope_in p) f ≡ true → value_in p f vs ≡ Some b → IsPlainDivisor (numerator_of b)
divisor_plain p vs f b h plain is =
    let d = shown_plain (scope_in p) f plain in
    let value =
    shown_value (scope_in p) (sound_scope (flowchart_of p) (has_types (flowchart_of p) h.well_typed)) (values_in p vs)
    (variables_only p vs) f d.0 d.1 in
    let same : d.0 ≡ b = some_same d.0 b (sym value ∙ is) in
    subst (λ b. IsPlainDivisor (numerator_of b)) same d.2

module _ (p : PlanText) (vs : List Decimal) (e f : Term) (b : Decimal) (h : HasValues p vs)
    (is : value_in p f vs ≡ Some b) where
  plain_for : (call : Call)
      → IsTrue (takes_two (scope_in p) (method call) e (kind_of (scope_in p) e) f (kind_of (scope_in p) f))
      → IsPlainFor call b
  plain_for calls.DivideExact t =
      let big = both_true (is_big (kind_of (scope_in p) e)) _ t in
      divisor_plain p vs f b h (both_true (is_big (kind_of (scope_in p) f)) _ big.1).1 is
  plain_for calls.Add t = tt
  plain_for calls.Subtract t = tt
  plain_for calls.Multiply t = tt
  plain_for calls.CompareTo t = tt
  plain_for calls.Min t = tt
  plain_for calls.Max t = tt

pub plain_two : (p : PlanText) (vs : List Decimal) (op : Two) (e f : Term) (b : Decimal) → HasValues p vs
    → IsTypedTerm (scope_in p) (two op e f) → value_in p f vs ≡ Some b → IsPlainForTwo op b
plain_two p vs (operator o) e f b h typed is = tt
plain_two p vs (divide s mode) e f b h typed is = tt
plain_two p vs (method call) e f b h typed is = plain_for p vs e f b h is call typed.2
