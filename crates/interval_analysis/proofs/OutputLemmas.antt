-- Declared outputs with their ranges, one after the other.
use Rattle.std.proofs.Common.{◌≡◌, ℕ, zero, suc, ◌+◌, ◌<◌, ◌≤◌, Bool, true, false, not, List, [], ◌∷◌, ◌++◌, length, take, drop, get_or, map, Some, Ok, Err, refl, sym, ap, ap₂, ◌∙◌, arith, add-one, length-append, length-drop}
use Rattle.std.proofs.lemmas.List.{length-map, map-append}
use Rattle.pap_tree.specs.declared.plan.PlanText.{PlanText}
use Rattle.pap_tree.specs.Declarations.{Declaration, declaration_of}
use Rattle.pap_tree.specs.Flowchart.{flowchart_of}
use Rattle.pap_types.specs.Scopes.{names_of}
use Rattle.std.specs.Prelude.{if◌then◌else◌}
use Rattle.std.specs.List.{find}
use Rattle.std.specs.Option.{option_map_or}
use Rattle.std.proofs.lemmas.List.{take_all, drop_all, take_more}
use Rattle.pap_tree.specs.declared.declaration.Declared.{Declared}
use Rattle.interval_num.specs.Intervals.{Interval}
use Rattle.interval_walk.specs.Ranges.{NamedRange}
use Rattle.interval_walk.specs.Failures.{output_fails}
use Rattle.interval_walk.specs.Analysis.{is_bounded, output_ranges, unless_unbounded}
use Rattle.pap_types.specs.private.ScopeViews.{variables_in}
use Rattle.interval_analysis.specs.private.PlanViews.{IsSized, with_names, ranges_in}
use Rattle.interval_analysis.specs.private.OutputViews.{output_names}

-- the output at a place
pub output_at : (ds : List Declared) (rs : List Interval) (i : ℕ) (d : Declared) (r : Interval) → length rs ≡ length ds → i < length ds → drop i (with_names (output_names ds) rs) ≡ record { name = (get_or ds i d).name; range = get_or rs i r } ∷ drop (i + 1) (with_names (output_names ds) rs)
output_at [] rs i d r e l = absurd (omega arith)
output_at (x ∷ ds) [] i d r e l = absurd (omega arith)
output_at (x ∷ ds) (s ∷ rs) zero d r e l = refl
output_at (x ∷ ds) (s ∷ rs) (suc i) d r e l = output_at ds rs i d r (omega arith) (omega arith) ∙ rw (add-one, add-one) refl

pub length-with_names : (ds : List Declared) (rs : List Interval) → length rs ≡ length ds → length (with_names (output_names ds) rs) ≡ length ds
length-with_names [] rs e = refl
length-with_names (x ∷ ds) [] e = absurd (omega arith)
length-with_names (x ∷ ds) (s ∷ rs) e = ap suc (length-with_names ds rs (omega arith))

output_get : (ds : List Declared) (rs : List Interval) (i : ℕ) (d : Declared) (r : Interval) (o : NamedRange) → length rs ≡ length ds → i < length ds → get_or (with_names (output_names ds) rs) i o ≡ record { name = (get_or ds i d).name; range = get_or rs i r }
output_get [] rs i d r o e l = absurd (omega arith)
output_get (x ∷ ds) [] i d r o e l = absurd (omega arith)
output_get (x ∷ ds) (s ∷ rs) zero d r o e l = refl
output_get (x ∷ ds) (s ∷ rs) (suc i) d r o e l = output_get ds rs i d r o (omega arith) (omega arith)

-- an output's range may be beyond its bound
abbrev pub is_unbounded : NamedRange → Bool
is_unbounded o = not (is_bounded o.range)

module _ (ds : List Declared) (rs : List Interval) (e : length rs ≡ length ds) (i : ℕ) (d : Declared) (r : Interval) (l : i < length ds) where
  found : (b : Bool) → is_bounded (get_or rs i r) ≡ b → find is_unbounded (drop i (with_names (output_names ds) rs)) ≡ (if not b then Some (record { name = (get_or ds i d).name; range = get_or rs i r }) else find is_unbounded (drop (i + 1) (with_names (output_names ds) rs)))
  found b h =
      ap (find is_unbounded) (output_at ds rs i d r e l)
      ∙ ap (λ b. if not b then Some (record { name = (get_or ds i d).name; range = get_or rs i r }) else find is_unbounded (drop (i + 1) (with_names (output_names ds) rs))) h

  -- the first that may be beyond its bound
  pub stops : find is_unbounded (with_names (output_names ds) rs) ≡ find is_unbounded (drop i (with_names (output_names ds) rs)) → is_bounded (get_or rs i r) ≡ false → unless_unbounded (with_names (output_names ds) rs) ≡ Err (output_fails (get_or ds i d).name (get_or rs i r))
  stops left h =
      ap (λ o. option_map_or (λ (o : NamedRange). Err (output_fails o.name o.range)) o (Ok (with_names (output_names ds) rs))) (left ∙ found false h)

  pub goes_on : find is_unbounded (with_names (output_names ds) rs) ≡ find is_unbounded (drop i (with_names (output_names ds) rs)) → is_bounded (get_or rs i r) ≡ true → find is_unbounded (with_names (output_names ds) rs) ≡ find is_unbounded (drop (i + 1) (with_names (output_names ds) rs))
  goes_on left h = left ∙ found true h

  -- one more output
  pub one_more : (done : List NamedRange) (o : NamedRange) → done ≡ take i (with_names (output_names ds) rs) → o ≡ record { name = (get_or ds i d).name; range = get_or rs i r } → done ++ (o ∷ []) ≡ take (i + 1) (with_names (output_names ds) rs)
  one_more done o is same =
      let whole = length-with_names ds rs e in
      ap (λ f. f ++ (o ∷ [])) is
      ∙ ap (λ x. take i (with_names (output_names ds) rs) ++ (x ∷ [])) (same ∙ sym (output_get ds rs i d r o e l))
      ∙ sym (take_more (with_names (output_names ds) rs) i o (omega (arith, whole, l)))

-- all are within their bounds
pub all_bounded : (ds : List Declared) (rs : List Interval) (n : ℕ) (done : List NamedRange) → length rs ≡ length ds → length ds ≤ n → done ≡ take n (with_names (output_names ds) rs) → find is_unbounded (with_names (output_names ds) rs) ≡ find is_unbounded (drop n (with_names (output_names ds) rs)) → unless_unbounded (with_names (output_names ds) rs) ≡ Ok done
all_bounded ds rs n done e l is left =
    let whole = length-with_names ds rs e in
    let past : length (with_names (output_names ds) rs) ≤ n = omega (arith, whole, l) in
    ap (λ o. option_map_or (λ (o : NamedRange). Err (output_fails o.name o.range)) o (Ok (with_names (output_names ds) rs))) (left ∙ ap (find is_unbounded) (drop_all n (with_names (output_names ds) rs) past))
    ∙ ap Ok (sym (is ∙ take_all n (with_names (output_names ds) rs) past))

-- ---- the outputs stand after the inputs

names_same : (ds : List Declared) → names_of (map declaration_of ds) ≡ output_names ds
names_same [] = refl
names_same (d ∷ ds) = ap (λ xs. d.name ∷ xs) (names_same ds)

drop_names : (xs ys : List (List ℕ)) (rs : List Interval) → length rs ≡ length (xs ++ ys) → drop (length xs) (with_names (xs ++ ys) rs) ≡ with_names ys (drop (length xs) rs)
drop_names [] ys rs e = refl
drop_names (x ∷ xs) ys [] e = absurd (omega arith)
drop_names (x ∷ xs) ys (r ∷ rs) e = drop_names xs ys rs (omega arith)

take_names : (ys zs : List (List ℕ)) (rs : List Interval) → length rs ≡ length (ys ++ zs) → take (length ys) (with_names (ys ++ zs) rs) ≡ with_names ys (take (length ys) rs)
take_names [] zs rs e = refl
take_names (y ∷ ys) zs [] e = absurd (omega arith)
take_names (y ∷ ys) zs (r ∷ rs) e = ap (λ vs. record { name = y; range = r } ∷ vs) (take_names ys zs rs (omega arith))

-- the names of a plan's variables
parts : (p : PlanText) → variables_in p ≡ output_names p.inputs.items ++ (output_names p.outputs.items ++ output_names p.internals.items)
parts p =
    let i = map declaration_of p.inputs.items in
    let o = map declaration_of p.outputs.items in
    let n = map declaration_of p.internals.items in
    map-append (λ (d : Declaration). d.name) i (o ++ n)
    ∙ ap (λ xs. names_of i ++ xs) (map-append (λ (d : Declaration). d.name) o n)
    ∙ ap₂ (λ xs ys. xs ++ ys) (names_same p.inputs.items) (ap₂ (λ xs ys. xs ++ ys) (names_same p.outputs.items) (names_same p.internals.items))

pub output_part : (p : PlanText) (rs : List Interval) → IsSized p rs → output_ranges (flowchart_of p) (ranges_in p rs) ≡ with_names (output_names p.outputs.items) (take (length p.outputs.items) (drop (length p.inputs.items) rs))
output_part p rs sized =
    let xs = output_names p.inputs.items in
    let ys = output_names p.outputs.items in
    let zs = output_names p.internals.items in
    let first = length-map p.inputs.items (λ d. d.name) in
    let count = length-map p.outputs.items (λ d. d.name) in
    let inputs = length-map p.inputs.items declaration_of in
    let outputs = length-map p.outputs.items declaration_of in
    let all : length rs ≡ length (xs ++ (ys ++ zs)) = sized ∙ ap length (parts p) in
    let whole = length-append xs (ys ++ zs) in
    let left : length (drop (length xs) rs) ≡ length (ys ++ zs) = omega (arith, length-drop (length xs) rs, all, whole) in
    ap (λ names. take (length (flowchart_of p).outputs) (drop (length (flowchart_of p).inputs) (with_names names rs))) (parts p)
    ∙ ap₂ (λ n m. take n (drop m (with_names (xs ++ (ys ++ zs)) rs))) (outputs ∙ sym count) (inputs ∙ sym first)
    ∙ ap (take (length ys)) (drop_names xs (ys ++ zs) rs all)
    ∙ take_names ys zs (drop (length xs) rs) left
    ∙ ap₂ (λ n m. with_names ys (take n (drop m rs))) count first
