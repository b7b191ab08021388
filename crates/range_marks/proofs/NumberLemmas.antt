-- Internals by name and by number.
use Rattle.std.proofs.Common.{◌≡◌, ◌⊎◌, inl, inr, ℕ, suc, ◌+◌, ◌-◌, ◌<◌, ◌≤◌, true, false, Vec, Global, vec_len, List, [], ◌∷◌, ◌++◌, length, map, get_or, sym, ap, ◌∙◌, subst, arith, append_assoc, length-append}
use Rattle.std.specs.Prelude.{◌↔◌, Option, Some, None, option_map, SomeIff, position, slice_get}
use Rattle.std.specs.List.{position_or_len}
use Rattle.std.specs.Str.{bytes_eq}
use Rattle.std.proofs.lemmas.Bool.{cases_lt, false_from_ne_true}
use Rattle.std.proofs.lemmas.Bool.Decides.{nat_tests}
use Rattle.std.proofs.lemmas.List.{length-map, map-append, get_or_append_left}
use Rattle.std.proofs.lemmas.List.Quantifiers.{position-Some}
use Rattle.std.proofs.lemmas.List.Sums.{position_or_len_is}
use Rattle.std.proofs.lemmas.Option.{none-some, same_Some, slice_get-map, slice_get_within, get_or_from_slice_get}
use Rattle.std.proofs.lemmas.Slice.Eq.{bytes_eq-Decides}
use Rattle.pap_tree.specs.Declarations.{Declaration, declaration_of}
use Rattle.pap_tree.specs.declared.declaration.Declared.{Declared}
use Rattle.pap_tree.specs.Flowchart.{Flowchart}
use Rattle.pap_types.specs.Checks.{IsWellTyped}
use Rattle.pap_types.specs.Scopes.{names_of, number_of, variables_of}
use Rattle.pap_types.specs.Typing.{AreDistinct, declarations_of}
use Rattle.pap_types.proofs.Laws.{has_types}
use Rattle.range_marks.specs.private.InternalViews.{IsInternal}

-- ---- names

-- the first of distinct names are distinct
first_distinct : (xs ys : List (List ℕ)) → AreDistinct (xs ++ ys) → AreDistinct xs
first_distinct xs ys h i j d less within e =
    h i j d less (omega (arith, length-append xs ys))
    (get_or_append_left xs ys d i (omega arith) ∙ e ∙ sym (get_or_append_left xs ys d j within))

-- the variables of a well-typed plan have distinct names
variables_distinct : (f : Flowchart) → IsWellTyped f → AreDistinct (names_of (variables_of f))
variables_distinct f well =
    let order : declarations_of f ≡ variables_of f ++ f.constants =
    ap (λ ds. f.inputs ++ ds) (sym (append_assoc f.outputs f.internals f.constants))
    ∙ sym (append_assoc f.inputs (f.outputs ++ f.internals) f.constants) in
    let names : names_of (declarations_of f) ≡ names_of (variables_of f) ++ names_of f.constants =
    ap names_of order ∙ map-append (λ (d : Declaration). d.name) (variables_of f) f.constants in
    first_distinct (names_of (variables_of f)) (names_of f.constants) (subst AreDistinct names (has_types f well).names)

-- the name at a place
name_there : (ds : List Declaration) (n : ℕ) (d : Declaration) → slice_get ds n ≡ Some d → get_or (names_of ds) n [] ≡ d.name
name_there ds n d there =
    get_or_from_slice_get (names_of ds) n d.name []
    (slice_get-map (λ (d : Declaration). d.name) ds n ∙ ap (option_map (λ (d : Declaration). d.name)) there)

-- a variable stands at the number of its name
own_number : (ds : List Declaration) (n : ℕ) (d : Declaration) → AreDistinct (names_of ds) → slice_get ds n ≡ Some d
    → number_of (names_of ds) d.name ≡ Some n
own_number ds n d distinct there =
    let names = names_of ds in
    let within : n < length names = omega (arith, slice_get_within ds n d there, length-map ds (λ (d : Declaration). d.name)) in
    let here : get_or names n [] ≡ d.name = name_there ds n d there in
    let first : position_or_len (bytes_eq d.name) names ≡ n =
    position_or_len_is (bytes_eq d.name) names n [] (omega arith)
    (λ k less. false_from_ne_true (bytes_eq d.name (get_or names k [])) (λ t.
    distinct k n [] less within (sym ((bytes_eq-Decides d.name (get_or names k [])).0 t) ∙ sym here)))
    (λ l. (bytes_eq-Decides d.name (get_or names n [])).1 (sym here)) in
    grind (arith, nat_tests)

-- and what stands at the number of a name has it
named_there : (ds : List Declaration) (n : ℕ) (x : List ℕ) (d : Declaration) → number_of (names_of ds) x ≡ Some n → slice_get ds n ≡ Some d
    → d.name ≡ x
named_there ds n x d number there =
    let found = position-Some (bytes_eq x) (names_of ds) n [] number in
    sym (name_there ds n d there) ∙ sym ((bytes_eq-Decides x (get_or (names_of ds) n [])).0 found.1)

-- ---- internals among the variables

-- behind some others
behind : {A : Type 0} (xs ys : List A) (n : ℕ) → slice_get (xs ++ ys) (length xs + n) ≡ slice_get ys n
behind [] ys n = let none : 0 + n ≡ n = omega arith in ap (slice_get ys) none
behind (x ∷ xs) ys n =
    let more : length (x ∷ xs) + n ≡ suc (length xs + n) = omega arith in
    ap (slice_get (x ∷ (xs ++ ys))) more ∙ behind xs ys n

-- the number of an internal among all variables
abbrev number_among : Flowchart → ℕ → ℕ
number_among f i = length f.inputs + (length f.outputs + i)

internal_there : (f : Flowchart) (i : ℕ) → slice_get (variables_of f) (number_among f i) ≡ slice_get f.internals i
internal_there f i = behind f.inputs (f.outputs ++ f.internals) (length f.outputs + i) ∙ behind f.outputs f.internals i

-- an internal has the name exactly where that is the number of the name
pub internal_named : (f : Flowchart) (x : List ℕ) (i : ℕ) (d : Declaration) → IsWellTyped f → slice_get f.internals i ≡ Some d
    → (d.name ≡ x) ↔ (number_of (names_of (variables_of f)) x ≡ Some (length f.inputs + (length f.outputs + i)))
internal_named f x i d well is =
    let there = internal_there f i ∙ is in (
      λ e. subst (λ y. number_of (names_of (variables_of f)) y ≡ Some (number_among f i)) e
          (own_number (variables_of f) (number_among f i) d (variables_distinct f well) there),
      λ number. named_there (variables_of f) (number_among f i) x d number there,
    )

-- the number among the internals, from that among all variables
internal_by : (f : Flowchart) (x : List ℕ) (number found : Option ℕ) → IsWellTyped f → number ≡ number_of (names_of (variables_of f)) x
    → ((i : ℕ) → (found ≡ Some i) ↔ (number ≡ Some (length f.inputs + (length f.outputs + i)))) → IsInternal f x found
internal_by f x number found well is same i d there =
    let named = internal_named f x i d well there in
    (λ e. (same i).1 (is ∙ named.0 e), λ e. named.1 (sym is ∙ (same i).0 e))

-- no variable has the name
pub no_variable : (f : Flowchart) (x : List ℕ) (number : Option ℕ) → IsWellTyped f → number ≡ number_of (names_of (variables_of f)) x
    → number ≡ None → IsInternal f x None
no_variable f x number well is none =
    internal_by f x number None well is (λ i. (
      λ e. absurd (none-some i e),
      λ e. absurd (none-some (length f.inputs + (length f.outputs + i)) (sym none ∙ e)),
    ))

-- an input or an output has it
lesser_number : (f : Flowchart) (x : List ℕ) (number : Option ℕ) (n : ℕ) → IsWellTyped f → number ≡ number_of (names_of (variables_of f)) x
    → number ≡ Some n → n < length f.inputs + length f.outputs → IsInternal f x None
lesser_number f x number n well is there less =
    internal_by f x number None well is (λ i. (
      λ e. absurd (none-some i e),
      λ e. (let same = same_Some n (length f.inputs + (length f.outputs + i)) (sym there ∙ e) in absurd (omega (arith, less, same))),
    ))

-- an internal has it
own_internal : (f : Flowchart) (x : List ℕ) (number : Option ℕ) (n k : ℕ) → IsWellTyped f → number ≡ number_of (names_of (variables_of f)) x
    → number ≡ Some n → n ≡ length f.inputs + (length f.outputs + k) → IsInternal f x (Some k)
own_internal f x number n k well is there at =
    internal_by f x number (Some k) well is (λ i. (
      λ e. there ∙ ap Some (at ∙ ap (λ j. length f.inputs + (length f.outputs + j)) (same_Some k i e)),
      λ e. (
          let same = same_Some n (length f.inputs + (length f.outputs + i)) (sym there ∙ e) in
          let one : k ≡ i = omega (arith, at, same) in
          ap Some one),
    ))

-- a number below that of the first output
pub input_number : (f : Flowchart) (x : List ℕ) (number : Option ℕ) (n inputs : ℕ) → IsWellTyped f
    → number ≡ number_of (names_of (variables_of f)) x → number ≡ Some n → inputs ≡ length f.inputs → (inputs ≤ n → ⊥) → IsInternal f x None
input_number f x number n inputs well is there count less = lesser_number f x number n well is there (by_order (cases_lt n inputs))
  where
    by_order : (n < inputs) ⊎ (inputs ≤ n) → n < length f.inputs + length f.outputs
    by_order (inl below) = omega (arith, below, count)
    by_order (inr above) = absurd (less above)

-- a number behind those of the inputs
pub other_number : (f : Flowchart) (x : List ℕ) (number : Option ℕ) (n inputs m outputs : ℕ) (o : Option ℕ) → IsWellTyped f
    → number ≡ number_of (names_of (variables_of f)) x → number ≡ Some n → inputs ≡ length f.inputs → inputs ≤ n → m ≡ n - inputs
    → outputs ≡ length f.outputs → SomeIff o (outputs ≤ m) (m - outputs) → IsInternal f x o
other_number f x number n inputs m outputs None well is there count behind left others less =
    lesser_number f x number n well is there (by_order (cases_lt m outputs))
  where
    by_order : (m < outputs) ⊎ (outputs ≤ m) → n < length f.inputs + length f.outputs
    by_order (inl below) = omega (arith, below, count, behind, left, others)
    by_order (inr above) = absurd (less above)
other_number f x number n inputs m outputs (Some k) well is there count behind left others h =
    let above = h.0 in
    let at = h.1 in
    own_internal f x number n k well is there (omega (arith, above, at, count, behind, left, others))

-- ---- how many there are

-- as many declarations as a plan's text has
pub declarations_counted : (ds : Vec Declared Global) → vec_len ds ≡ length (map declaration_of ds.items)
declarations_counted ds = omega (arith, ds.ok.0, length-map ds.items declaration_of)
