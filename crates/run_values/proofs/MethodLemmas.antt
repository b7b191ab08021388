-- The bodies of a plan's methods.
use Rattle.std.proofs.Common.{◌≡◌, ℕ, suc, ◌+◌, ◌≤◌, Bool, true, false, List, [], ◌∷◌, Some, None, refl, sym, ap, ◌∙◌, subst, arith, cond}
use Rattle.std.specs.Prelude.{All, slice_get, not, if◌then◌else◌}
use Rattle.std.specs.Option.{option_map}
use Rattle.std.specs.Str.{bytes_eq}
use Rattle.std.proofs.lemmas.List.{length-map}
use Rattle.std.proofs.lemmas.List.Elements.{All-head, All-tail}
use Rattle.std.proofs.lemmas.Option.{slice_get_past, none-some}
use Rattle.pap_tree.specs.Flowchart.{Body, Routine, Flowchart}
use Rattle.pap_tree.specs.Statements.{written}
use Rattle.pap_types.specs.Checks.{IsWellTyped}
use Rattle.pap_types.specs.Counts.{IsWithinCounts, AreSmallTerms, methods_written}
use Rattle.pap_types.specs.Routines.{body_named, method_names}
use Rattle.pap_types.specs.Scopes.{number_of, scope_of}
use Rattle.pap_types.specs.Typing.{IsTypedBody}
use Rattle.pap_types.proofs.Laws.{has_types}
use Rattle.run_values.specs.MethodBodies.{IsMethodBody}
use Rattle.run_values.proofs.NameLemmas.{place_of, number_in, number_past}

body_at : (ms : List Routine) (x : List ℕ)
    → option_map (λ m. m.body) (slice_get ms (place_of (method_names ms) x)) ≡ body_named ms x
body_at [] x = refl
body_at (m ∷ ms) x =
    elim (bytes_eq x m.name) as (λ same. option_map (λ m. m.body)
    (slice_get (m ∷ ms) (cond (not same) (1 + place_of (method_names ms) x) 0))
    ≡ (if same then Some m.body else body_named ms x)) [
      | true ↦ refl
      | false ↦ (let more : 1 + place_of (method_names ms) x ≡ suc (place_of (method_names ms) x) = omega arith in
          ap (λ k. option_map (λ m. m.body) (slice_get (m ∷ ms) k)) more ∙ body_at ms x)
    ]

-- the body of a name stands at its number
pub body_by : (ms : List Routine) (x : List ℕ) (i : ℕ) → number_of (method_names ms) x ≡ Some i
    → option_map (λ m. m.body) (slice_get ms i) ≡ body_named ms x
body_by ms x i e =
    ap (λ k. option_map (λ m. m.body) (slice_get ms k)) (sym (number_in (method_names ms) x i e).0)
    ∙ body_at ms x

pub body_none : (ms : List Routine) (x : List ℕ) → number_of (method_names ms) x ≡ None → None ≡ body_named ms x
body_none ms x e =
    let past = number_past (method_names ms) x e in
    let count = length-map ms (λ m. m.name) in
    ap (option_map (λ m. m.body))
    (sym (slice_get_past ms (place_of (method_names ms) x) (omega (arith, past, count)))) ∙ body_at ms x

-- what holds of all methods holds of that of a name
named_has : (P : Routine → Type 0) (Q : Body → Type 0) (ms : List Routine) (x : List ℕ) (b : Body)
    → ((m : Routine) → P m → Q m.body) → All P ms → body_named ms x ≡ Some b → Q b
named_has P Q [] x b go all e = absurd (none-some b e)
named_has P Q (m ∷ ms) x b go all e = by_name (bytes_eq x m.name) (named_has P Q ms x b go (All-tail P m ms all)) e
  where
    by_name : (same : Bool) → (body_named ms x ≡ Some b → Q b)
        → (if same then Some m.body else body_named ms x) ≡ Some b → Q b
    by_name true rest e = let same : m.body ≡ b = cc in subst Q same (go m (All-head P m ms all))
    by_name false rest e = rest e

named_count : (ms : List Routine) (x : List ℕ) (b : Body) → body_named ms x ≡ Some b → written b ≤ methods_written ms
named_count [] x b e = absurd (none-some b e)
named_count (m ∷ ms) x b e = by_name (bytes_eq x m.name) (named_count ms x b) e
  where
    by_name : (same : Bool) → (body_named ms x ≡ Some b → written b ≤ methods_written ms)
        → (if same then Some m.body else body_named ms x) ≡ Some b → written b ≤ written m.body + methods_written ms
    by_name true rest e = let same : m.body ≡ b = cc in let count : written m.body ≡ written b = ap written
        same in omega arith
    by_name false rest e = let h = rest e in omega (arith, h)

pub method_body : (f : Flowchart) (x : List ℕ) (b : Body) → IsWellTyped f → IsWithinCounts f
    → body_named f.methods x ≡ Some b → IsMethodBody f b
method_body f x b typed counts e =
    let count = named_count f.methods x b e in
    record {
      typed =
          named_has (λ m. IsTypedBody (scope_of f) f.methods m.body) (IsTypedBody (scope_of f) f.methods)
          f.methods x b (λ m h. h) (has_types f typed).methods e;
      small = named_has (λ m. AreSmallTerms m.body) AreSmallTerms f.methods x b (λ m h. h) counts.terms e;
      count = omega (arith, count, counts.statements);
    }
