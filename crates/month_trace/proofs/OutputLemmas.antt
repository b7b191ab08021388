-- The outputs behind a trace: the last values that were put_value.
use Rattle.std.proofs.Common.{◌≡◌, ◌≢◌, ℕ, suc, ◌<◌, List, [], ◌∷◌, ◌++◌, length, map, drop, take, get_or, Bool, true, false, Option, Some, None, refl, sym, ap, ap₂, ◌∙◌, subst, arith, append_assoc}
use Rattle.std.specs.Prelude.{if◌then◌else◌, unwrap_or, ⊤}
use Rattle.std.specs.Option.{option_or, option_map}
use Rattle.std.specs.Str.{bytes_eq}
use Rattle.std.proofs.lemmas.List.{map-append}
use Rattle.std.proofs.lemmas.Slice.Eq.{bytes_eq-Decides}
use Rattle.scaled_decimal.specs.Decimals.{Decimal}
use Rattle.pap_tree.specs.Declarations.{Declaration}
use Rattle.pap_tree.specs.Flowchart.{Flowchart}
use Rattle.pap_types.specs.Checks.{IsWellTyped}
use Rattle.pap_types.specs.Meaning.{AreInputs, IsSafeFor, first_entry, given, start, outputs_in}
use Rattle.pap_types.specs.Scopes.{names_of, variables_of}
use Rattle.pap_types.specs.Typing.{AreDistinct, declarations_of}
use Rattle.pap_types.specs.Values.{Env, Variable, put_value}
use Rattle.pap_types.proofs.Laws.{has_types, entry_names, names-put, names-start}
use Rattle.month_trace.specs.declared.step.TraceStep.{TraceStep}
use Rattle.month_trace.specs.declared.step.TraceStep.TheVariants.{Set, Test, Enter}
use Rattle.month_trace.specs.TraceLaws.{last_set, value_set, outputs_behind, TellsOutputs}
use Rattle.month_trace.proofs.ReplayLemmas.{replayed, replays}

-- ---- names, none of which stands twice

abbrev pub NoneIs : List ℕ → List (List ℕ) → Type 0
NoneIs x [] = ⊤
NoneIs x (y ∷ ys) = (bytes_eq y x ≡ false) × NoneIs x ys

abbrev pub AreApart : List (List ℕ) → Type 0
AreApart [] = ⊤
AreApart (x ∷ xs) = NoneIs x xs × AreApart xs

differs : (x y : List ℕ) → y ≢ x → bytes_eq y x ≡ false
differs x y other = by_test (bytes_eq y x) refl
  where
    by_test : (t : Bool) → bytes_eq y x ≡ t → bytes_eq y x ≡ false
    by_test false e = e
    by_test true e = absurd (other (grind (arith, bytes_eq-Decides)))

none_is : (x : List ℕ) (xs : List (List ℕ)) → ((k : ℕ) (d : List ℕ) → k < length xs → x ≢ get_or xs k d) → NoneIs x xs
none_is x [] h = tt
none_is x (y ∷ ys) h =
    (differs x y (λ e. h 0 x (omega arith) (sym e)), none_is x ys (λ k d l. h (suc k) d (omega arith)))

apart_of : (xs : List (List ℕ)) → AreDistinct xs → AreApart xs
apart_of [] h = tt
apart_of (x ∷ xs) h = (
  none_is x xs (λ k d l. h 0 (suc k) d (omega arith) (omega arith)),
  apart_of xs
      (λ i j d l w. h (suc i) (suc j) d (omega arith) (omega arith)),
)

front_none : (x : List ℕ) (a b : List (List ℕ)) → NoneIs x (a ++ b) → NoneIs x a
front_none x [] b h = tt
front_none x (y ∷ a) b h = (h.0, front_none x a b h.1)

front_apart : (a b : List (List ℕ)) → AreApart (a ++ b) → AreApart a
front_apart [] b h = tt
front_apart (x ∷ a) b h = (front_none x a b h.0, front_apart a b h.1)

-- ---- a variable behind steps

-- its value: the last that was put_value, else what it was
abbrev pub value_behind : List TraceStep → Variable → Decimal
value_behind steps v = unwrap_or (last_set v.name steps) v.value

abbrev pub behind : List TraceStep → Variable → Variable
behind steps v = record v { value = value_behind steps v }

last_by : (o : Option Decimal) (t : Bool) (v w : Decimal)
    → unwrap_or o (if t then v else w) ≡ unwrap_or (option_or o (if t then Some v else None)) w
last_by (Some a) t v w = refl
last_by None true v w = refl
last_by None false v w = refl

-- variables of other names stay
others_stay : (steps : List TraceStep) (m : List ℕ) (n : ℕ) (x : List ℕ) (v : Decimal) (env : Env)
    → NoneIs x (entry_names env) → map (behind steps) env ≡ map (behind (Set m n x v ∷ steps)) env
others_stay steps m n x v [] h = refl
others_stay steps m n x v (e ∷ env) h =
    let mine : value_behind steps e ≡ value_behind (Set m n x v ∷ steps) e =
    last_by (last_set e.name steps) false v e.value ∙ ap
    (λ t. unwrap_or (option_or (last_set e.name steps) (if t then Some v else None)) e.value) (sym h.0) in
    ap₂ (λ d rest. record e { value = d } ∷ rest) mine (others_stay steps m n x v env h.1)

put_behind : (steps : List TraceStep) (m : List ℕ) (n : ℕ) (x : List ℕ) (v : Decimal) (env : Env)
    → AreApart (entry_names env) → map (behind steps) (put_value env x v) ≡ map (behind (Set m n x v ∷ steps)) env
put_behind steps m n x v [] h = refl
put_behind steps m n x v (e ∷ env) h = by_name (put_behind steps m n x v env h.1) (bytes_eq e.name x) refl
  where
    mine : (t : Bool) → bytes_eq e.name x ≡ t
        → unwrap_or (last_set e.name steps) (if t then v else e.value) ≡ value_behind (Set m n x v ∷ steps) e
    mine t is =
        last_by (last_set e.name steps) t v e.value
        ∙ ap (λ t. unwrap_or (option_or (last_set e.name steps) (if t then Some v else None)) e.value) (sym is)

    same_name : bytes_eq e.name x ≡ true → e.name ≡ x
    same_name is = grind (arith, bytes_eq-Decides)

    by_name : map (behind steps) (put_value env x v) ≡ map (behind (Set m n x v ∷ steps)) env → (t : Bool)
        → bytes_eq e.name x ≡ t
        → map (behind steps) (if t then record e { value = v } ∷ env else e ∷ put_value env x v) ≡ map
        (behind (Set m n x v ∷ steps)) (e ∷ env)
    by_name later true is =
        ap₂ (λ d rest. record e { value = d } ∷ rest) (mine true is)
        (others_stay steps m n x v env (subst (λ y. NoneIs y (entry_names env)) (same_name is) h.0))
    by_name later false is = ap₂ (λ d rest. record e { value = d } ∷ rest) (mine false is) later

-- a step that puts no value
silent : (steps : List TraceStep) (s : TraceStep) (env : Env) → ((x : List ℕ) → value_set x s ≡ None)
    → map (behind steps) env ≡ map (behind (s ∷ steps)) env
silent steps s [] h = refl
silent steps s (e ∷ env) h =
    let mine : value_behind steps e ≡ value_behind (s ∷ steps) e =
    last_by (last_set e.name steps) false e.value e.value ∙ ap
    (λ o. unwrap_or (option_or (last_set e.name steps) o) e.value) (sym (h e.name)) in
    ap₂ (λ d rest. record e { value = d } ∷ rest) mine (silent steps s env h)

nothing_behind : (env : Env) → env ≡ map (behind []) env
nothing_behind [] = refl
nothing_behind (e ∷ env) = ap (λ rest. e ∷ rest) (nothing_behind env)

pub replayed_is : (steps : List TraceStep) (env : Env) → AreApart (entry_names env)
    → replayed steps env ≡ map (behind steps) env
replayed_is [] env h = nothing_behind env
replayed_is (Set m n x v ∷ steps) env h =
    replayed_is steps (put_value env x v) (subst AreApart (sym (names-put env x v)) h) ∙ put_behind steps m n x v env h
replayed_is (Test m n holds ∷ steps) env h = replayed_is steps env h ∙ silent steps (Test m n holds) env (λ x. refl)
replayed_is (Enter m n callee ∷ steps) env h = replayed_is steps env h ∙ silent steps (Enter m n callee) env (λ x. refl)

-- ---- outputs

values_behind : (steps : List TraceStep) (env : Env)
    → map (λ (v : Variable). v.value) (map (behind steps) env) ≡ map (value_behind steps) env
values_behind steps [] = refl
values_behind steps (e ∷ env) = ap (λ rest. value_behind steps e ∷ rest) (values_behind steps env)

past_inputs : (g : Variable → Decimal) (ds : List Declaration) (vs : List Decimal) (rest : Env) → AreInputs ds vs
    → drop (length ds) (map g (given ds vs ++ rest)) ≡ map g rest
past_inputs g [] [] rest h = refl
past_inputs g [] (v ∷ vs) rest h = absurd h
past_inputs g (d ∷ ds) [] rest h = absurd h
past_inputs g (d ∷ ds) (v ∷ vs) rest h = past_inputs g ds vs rest h.1

up_to_internals : (g : Variable → Decimal) (ds es : List Declaration)
    → take (length ds) (map g (map first_entry (ds ++ es))) ≡ map (λ d. g (first_entry d)) ds
up_to_internals g [] es = refl
up_to_internals g (d ∷ ds) es = ap (λ rest. g (first_entry d) ∷ rest) (up_to_internals g ds es)

-- the names of the variables are apart
variables_apart : (f : Flowchart) → IsWellTyped f → AreApart (names_of (variables_of f))
variables_apart f typed =
    let whole : declarations_of f ≡ variables_of f ++ f.constants =
    ap (λ ds. f.inputs ++ ds) (sym (append_assoc f.outputs f.internals f.constants)) ∙ sym
    (append_assoc f.inputs (f.outputs ++ f.internals) f.constants) in
    let names : names_of (declarations_of f) ≡ names_of (variables_of f) ++ names_of f.constants =
    ap names_of whole
    ∙ map-append (λ (d : Declaration). d.name) (variables_of f) f.constants in
    front_apart (names_of (variables_of f)) (names_of f.constants)
    (subst AreApart names (apart_of (names_of (declarations_of f)) (has_types f typed).names))

pub tells_outputs : (f : Flowchart) (inputs : List Decimal) → IsWellTyped f → IsSafeFor f inputs → TellsOutputs f inputs
tells_outputs f inputs typed h steps e =
    let names = names-start f inputs h.given in
    let apart = subst AreApart (sym names) (variables_apart f typed) in
    let g = value_behind steps in
    let ends : h.ends ≡ map (behind steps) (start f inputs) =
    sym (replays f inputs h.ends steps h.defined e)
    ∙ replayed_is steps (start f inputs) apart in
    let outputs : outputs_in f h.ends ≡ outputs_behind f steps =
    ap (outputs_in f) ends
    ∙ ap (λ vs. take (length f.outputs) (drop (length f.inputs) vs)) (values_behind steps (start f inputs))
    ∙ ap (take (length f.outputs)) (past_inputs g f.inputs inputs (map first_entry (f.outputs ++ f.internals)) h.given)
    ∙ up_to_internals g f.outputs f.internals in
    ap (option_map (outputs_in f)) h.defined ∙ ap (λ vs. Some vs) outputs
