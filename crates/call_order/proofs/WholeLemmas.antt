-- A plan's methods as a graph.
use Rattle.std.proofs.Common.{◌≡◌, ℕ, zero, suc, ◌+◌, ◌<◌, List, [], ◌∷◌, ◌++◌, length, get_or, map, ap, ◌∙◌, refl, sym, subst, Option, Some, None, arith}
use Rattle.std.specs.Prelude.{All, sum_by, slice_get}
use Rattle.std.specs.Option.{option_map_or}
use Rattle.std.specs.List.{cons_option}
use Rattle.std.proofs.lemmas.List.{length-map}
use Rattle.std.proofs.lemmas.List.Sums.{sum_by-cons, sum_by-append}
use Rattle.std.proofs.lemmas.List.Elements.{All-nil, All-cons, All-append}
use Rattle.pap_tree.specs.declared.plan.Method.{Method}
use Rattle.pap_tree.specs.declared.plan.PlanText.{PlanText}
use Rattle.pap_tree.specs.Flowchart.{Body, done, eval, branch, execute, Routine, routine_of, flowchart_of}
use Rattle.pap_types.specs.Routines.{method_names}
use Rattle.call_order.specs.Graphs.{Graph, executed, content_of, graph_within, graph_of}
use Rattle.pap_types.specs.Limits.{longest_chain}
use Rattle.call_order.specs.Chains.{BeginsMore, content_at}
use Rattle.call_order.specs.Expanded.{expanded, expanded_of}
use Rattle.call_order.specs.Orders.{HasNone}
use Rattle.call_order.specs.Faults.{IsFirstBelow}
use Rattle.call_order.specs.private.LevelViews.{AllKnown}
use Rattle.call_order.specs.private.LengthViews.{length_of, length_with}
use Rattle.call_order.proofs.Numbers.{method_number, number_below, by_number}

module _ (all : List Routine) where
  abbrev pub IsKnown : ℕ → Type 0
  IsKnown j = j < length all

  known_cons : (o : Option ℕ) (js : List ℕ) → ((j : ℕ) → o ≡ Some j → IsKnown j) → All IsKnown js → All IsKnown (cons_option o js)
  known_cons None js f h = h
  known_cons (Some j) js f h = All-cons IsKnown j js (f j refl) h

  pub body_known : (b : Body) → All IsKnown (executed all b)
  body_known done = All-nil IsKnown
  body_known (eval x e rest) = body_known rest
  body_known (branch t a b rest) =
      All-append IsKnown (executed all a) (executed all b ++ executed all rest) (body_known a)
      (All-append IsKnown (executed all b) (executed all rest) (body_known b) (body_known rest))
  body_known (execute m rest) = known_cons (method_number all m) (executed all rest) (number_below all m) (body_known rest)

  each_known : (ms : List Routine) (i : ℕ) → All IsKnown (content_at (graph_within all ms) i).methods
  each_known [] i = All-nil IsKnown
  each_known (m ∷ ms) zero = body_known m.body
  each_known (m ∷ ms) (suc i) = each_known ms i

pub length_graph : (ms : List Routine) → length (graph_of ms) ≡ length ms
length_graph ms = length-map ms (λ m. content_of ms m.body)

-- each executed method is one of the plan's
pub graph_known : (ms : List Routine) → AllKnown (graph_of ms)
graph_known ms = λ i. subst (λ n. All (λ j. j < n) (content_at (graph_of ms) i).methods) (sym (length_graph ms)) (each_known ms ms i)

pub known : (ms : List Routine) (g : Graph) → g ≡ graph_of ms → AllKnown g
known ms g e = subst AllKnown (sym e) (graph_known ms)

-- the name of a method
pub name_at : (ms : List Method) (i : ℕ) (m : Method) → m ≡ get_or ms i m → i < length ms → slice_get (method_names (map routine_of ms)) i ≡ Some m.name
name_at [] i m is lt = absurd (omega arith)
name_at (x ∷ ms) zero m is lt = ap (λ y. Some (routine_of y).name) (sym is)
name_at (x ∷ ms) (suc i) m is lt = name_at ms i m is (omega arith)

-- the same, of the plan as it is written
pub declared_name : (p q : PlanText) (i : ℕ) (m : Method) → p ≡ q → m ≡ get_or p.methods.items i m → i < length (flowchart_of q).methods → slice_get (method_names (flowchart_of q).methods) i ≡ Some m.name
declared_name p q i m same is lt =
    name_at q.methods.items i m (is ∙ ap (λ x. get_or x.methods.items i m) same) (subst (λ n. i < n) (length-map q.methods.items routine_of) lt)

sum_cons : (f : ℕ → ℕ) (o : Option ℕ) (js : List ℕ) → sum_by f (cons_option o js) ≡ option_map_or f o 0 + sum_by f js
sum_cons f None js = omega arith
sum_cons f (Some j) js = sum_by-cons f j js

-- expanded statements, by what is written and what is executed
pub expanded_sum : (ms : List Routine) (call : List ℕ → ℕ) (f : ℕ → ℕ) → ((x : List ℕ) → call x ≡ option_map_or f (method_number ms x) 0) → (b : Body) → expanded call b ≡ length_with (content_of ms b) f
expanded_sum ms call f h done = refl
expanded_sum ms call f h (eval x e rest) = let r = expanded_sum ms call f h rest in omega (arith, r)
expanded_sum ms call f h (branch t a b rest) =
    let p = expanded_sum ms call f h a in
    let q = expanded_sum ms call f h b in
    let r = expanded_sum ms call f h rest in
    let y = sum_by-append f (executed ms a) (executed ms b ++ executed ms rest) in
    let z = sum_by-append f (executed ms b) (executed ms rest) in
    omega (arith, p, q, r, y, z)
expanded_sum ms call f h (execute m rest) =
    let r = expanded_sum ms call f h rest in
    let y = sum_cons f (method_number ms m) (executed ms rest) in
    let e = h m in
    omega (arith, r, y, e)

pub expanded_is : (ms : List Routine) (n : ℕ) (x : List ℕ) → expanded_of ms n x ≡ option_map_or (length_of (graph_of ms) n) (method_number ms x) 0
unfolding expanded_of length_of
expanded_is ms zero x = none (method_number ms x)
  where
    none : (o : Option ℕ) → ◌≡◌ {A = ℕ} 0 (option_map_or (λ (i : ℕ). 0) o 0)
    none None = refl
    none (Some i) = refl
expanded_is ms (suc n) x =
    by_number ms x ms (expanded (expanded_of ms n)) (λ c. length_with c (length_of (graph_of ms) n))
    (expanded_sum ms (expanded_of ms n) (length_of (graph_of ms) n) (expanded_is ms n))

-- the method begins a chain that is too long
abbrev pub BeginsTooMany : Graph → ℕ → Type 0
BeginsTooMany g i = BeginsMore g longest_chain i

-- what is said of a graph, said of a plan's methods
pub first_in : (ms : List Routine) (g : Graph) (P : Graph → ℕ → Type 0) (i : ℕ) → g ≡ graph_of ms → IsFirstBelow (P g) (length g) i → IsFirstBelow (P (graph_of ms)) (length ms) i
first_in ms g P i e h = subst (λ n. IsFirstBelow (P (graph_of ms)) n i) (length_graph ms) (subst (λ x. IsFirstBelow (P x) (length x) i) e h)

pub none_in : (ms : List Routine) (g : Graph) (P : Graph → ℕ → Type 0) → g ≡ graph_of ms → HasNone (P g) (length g) → HasNone (P (graph_of ms)) (length ms)
none_in ms g P e h = subst (λ n. HasNone (P (graph_of ms)) n) (length_graph ms) (subst (λ x. HasNone (P x) (length x)) e h)
