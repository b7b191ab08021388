-- Outputs beyond their bound.
use Rattle.std.proofs.Common.{◌≡◌, ℕ, zero, suc, ◌+◌, ◌-◌, ◌*◌, ◌^◌, ◌<◌, ◌≤◌, List, [], ◌∷◌, ◌++◌, length, get_or, take, drop, map, inl, inr, ℤ, pos, negsuc, ◌*ℤ◌, unsigned_abs, refl, sym, ap, ◌∙◌, subst, arith, length-append}
use Rattle.std.specs.Prelude.{◌⊎◌, Option, Some, None, IfSome}
use Rattle.std.proofs.lemmas.Int.{ints}
use Rattle.std.proofs.lemmas.List.{length-map}
use Rattle.scaled_decimal.specs.Decimals.{Decimal, numerator_of, scale_of, numerator_at}
use Rattle.pap_tree.specs.declared.declaration.Declared.{Declared}
use Rattle.pap_tree.specs.Declarations.{Declaration, declaration_of}
use Rattle.pap_tree.specs.declared.plan.PlanText.{PlanText}
use Rattle.pap_tree.specs.Flowchart.{Flowchart, flowchart_of}
use Rattle.limits_file.specs.Limits.{IsWithinBound, output_places, output_limit}
use Rattle.pap_types.specs.Values.{Variable}
use Rattle.pap_types.proofs.Laws.{names-ends}
use Rattle.checked_run.specs.RunEnds.{EndsAs}
use Rattle.failing_input.specs.declared.failure.Failure.{Failure}
use Rattle.failing_input.specs.declared.failure.Failure.TheVariants.{Node, Output}
use Rattle.failing_input.specs.Outputs.{HasBeyond, EndsBeyond}
use Rattle.failing_input.specs.Searches.{FailsOn}
use Rattle.failing_input.specs.private.OutputViews.{HasEnds, IsOutputFailure}

-- ---- one value

pub too_long : (v : Decimal) → output_places < scale_of v → ¬ (IsWithinBound v)
too_long v more h = omega (arith, h.places)

abs_times : (x : ℤ) (k : ℕ) → unsigned_abs (x *ℤ pos k) ≡ unsigned_abs x * k
abs_times (pos m) k = omega (arith, ints)
abs_times (negsuc m) k = omega (arith, ints)

pub too_great : (v : Decimal) (k : ℕ) → k ≡ output_places - scale_of v
    → output_limit < unsigned_abs (numerator_of v) * 10 ^ k → ¬ (IsWithinBound v)
too_great v k e more h =
    let times : unsigned_abs (numerator_at output_places v) ≡ unsigned_abs (numerator_of v) * 10 ^ k =
    abs_times (numerator_of v) (10 ^ (output_places - scale_of v))
    ∙ ap (λ n. unsigned_abs (numerator_of v) * 10 ^ n) (sym e) in
    omega (arith, h.small, times, more)

-- ---- declared outputs

beyond_at : (ds : List Declared) (vs : List Decimal) (i : ℕ) (d : Declared) (v : Decimal) → i < length ds
    → i < length vs → d ≡ get_or ds i d → v ≡ get_or vs i v → ¬ (IsWithinBound v)
    → HasBeyond (map declaration_of ds) vs d.name
beyond_at [] vs i d v l k is value far = absurd (omega arith)
beyond_at (x ∷ ds) [] i d v l k is value far = absurd (omega arith)
beyond_at (x ∷ ds) (w ∷ vs) zero d v l k is value far =
    inl (ap (λ (y : Declared). y.name) (sym is), subst (λ u. ¬ (IsWithinBound u)) value far)
beyond_at (x ∷ ds) (w ∷ vs) (suc i) d v l k is value far =
    inr (beyond_at ds vs i d v (omega arith) (omega arith) is value far)

-- the values of the outputs stand behind so many others
pub beyond_behind : (n j : ℕ) (ds : List Declared) (vs : List Decimal) (i : ℕ) (d : Declared) (v : Decimal)
    → j ≡ n + i → i < length ds → j < length vs → d ≡ get_or ds i d → v ≡ get_or vs j v → ¬ (IsWithinBound v)
    → HasBeyond (map declaration_of ds) (drop n vs) d.name
beyond_behind zero j ds vs i d v e l k is value far =
    let same : j ≡ i = omega arith in
    beyond_at ds vs i d v l (omega arith) is (subst (λ m. v ≡ get_or vs m v) same value) far
beyond_behind (suc n) zero ds vs i d v e l k is value far = absurd (omega arith)
beyond_behind (suc n) (suc j) ds [] i d v e l k is value far = absurd (omega arith)
beyond_behind (suc n) (suc j) ds (w ∷ vs) i d v e l k is value far =
    beyond_behind n j ds vs i d v (omega arith) l (omega arith) is value far

-- those behind the outputs' values don't matter
beyond_taken : (ds : List Declaration) (vs : List Decimal) (x : List ℕ) → HasBeyond ds vs x
    → HasBeyond ds (take (length ds) vs) x
beyond_taken [] [] x h = absurd h
beyond_taken [] (v ∷ vs) x h = absurd h
beyond_taken (d ∷ ds) [] x h = absurd h
beyond_taken (d ∷ ds) (v ∷ vs) x h = elim h [ inl here ↦ inl here | inr there ↦ inr (beyond_taken ds vs x there) ]

-- ---- a run

pub output_fails : (f : Flowchart) (inputs values : List Decimal) (x : Failure) → EndsAs f inputs values
    → IsOutputFailure f values x → FailsOn f inputs x
output_fails f inputs values (Node place cause) ends h = absurd h
output_fails f inputs values (Output name) ends h = record {
  safe = ends.safe;
  beyond = beyond_taken f.outputs _ name
      (subst (λ vs. HasBeyond f.outputs (drop (length f.inputs) vs) name) (sym ends.stand) h);
}

pub ended_failure : (f : Flowchart) (inputs values given : List Decimal) (o : Option Failure) → EndsAs f inputs values
    → given ≡ values → IfSome o (IsOutputFailure f given) → IfSome o (FailsOn f inputs)
ended_failure f inputs values given None ends same h = tt
ended_failure f inputs values given (Some x) ends same h =
    output_fails f inputs values x ends (subst (λ vs. IsOutputFailure f vs x) same h)

-- ---- a plan

pub output_of : (p : PlanText) (n : ℕ) (ds : List Declared) (values : List Decimal) (name : List ℕ)
    → n ≡ length p.inputs.items → ds ≡ p.outputs.items → HasBeyond (map declaration_of ds) (drop n values) name
    → IsOutputFailure (flowchart_of p) values (Output name)
output_of p n ds values name count same h =
    let all = length-map p.inputs.items declaration_of in
    subst (λ k. HasBeyond (map declaration_of p.outputs.items) (drop k values) name) (count ∙ sym all)
    (subst (λ ds. HasBeyond (map declaration_of ds) (drop n values) name) same h)

-- at the end of a run there is a value of each variable
pub ends_there : (f : Flowchart) (inputs values : List Decimal) → EndsAs f inputs values → HasEnds f values
ends_there f inputs values h =
    let names = ap length (names-ends f inputs h.safe.ends h.safe.given h.safe.defined) in
    let entries = length-map h.safe.ends (λ (v : Variable). v.name) in
    let stand = ap length (sym h.stand) ∙ length-map h.safe.ends (λ (v : Variable). v.value) in
    let declared = length-map (f.inputs ++ (f.outputs ++ f.internals)) (λ (d : Declaration). d.name) in
    let parts = length-append f.inputs (f.outputs ++ f.internals) in
    let others = length-append f.outputs f.internals in
    omega (arith, names, entries, stand, declared, parts, others)
