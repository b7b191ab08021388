-- In a well-typed plan each output is what stands under its name where a run ends.
use Rattle.std.proofs.Common.{◌≡◌, ◌≢◌, ℕ, suc, ◌<◌, List, [], ◌∷◌, ◌++◌, length, map, drop, take, get_or, Bool, true, false, Some, refl, sym, ap, ap₂, ◌∙◌, subst, arith, length-append}
use Rattle.std.specs.Prelude.{if◌then◌else◌}
use Rattle.std.specs.List.{take-map, drop-map}
use Rattle.std.specs.Str.{bytes_eq}
use Rattle.std.proofs.Math.Seq.{take-append_seam, drop-append_seam}
use Rattle.std.proofs.lemmas.List.{append_assoc, get_or_append_left, map-append}
use Rattle.std.proofs.lemmas.Simd.{map-map}
use Rattle.std.proofs.lemmas.Slice.Eq.{bytes_eq-Decides}
use Rattle.pap_tree.specs.Declarations.{Declaration}
use Rattle.pap_tree.specs.Flowchart.{Flowchart}
use Rattle.pap_types.specs.Checks.{IsWellTyped}
use Rattle.pap_types.specs.MeaningLaws.{OutputsStandByName}
use Rattle.pap_types.specs.Scopes.{names_of, variables_of}
use Rattle.pap_types.specs.Typing.{AreDistinct, declarations_of}
use Rattle.pap_types.specs.Values.{Env, Variable, look}
use Rattle.pap_types.proofs.RunLemmas.{entry_names, names-ends}
use Rattle.pap_types.proofs.TypingLemmas.{has_types}

other_name : (x y : List ℕ) → x ≢ y → bytes_eq x y ≡ false
other_name x y differ = by_test (bytes_eq x y) refl
  where
    by_test : (t : Bool) → bytes_eq x y ≡ t → bytes_eq x y ≡ false
    by_test true e = absurd (differ ((bytes_eq-Decides x y).0 e))
    by_test false e = e

-- an entry hides no other name
others_stay : (v : Variable) (vs : Env) (xs : List (List ℕ)) → ((j : ℕ) (d : List ℕ) → j < length xs → v.name ≢ get_or xs j d) → map (look vs) xs ≡ map (look (v ∷ vs)) xs
others_stay v vs [] h = refl
others_stay v vs (x ∷ xs) h =
    let other = other_name v.name x (h 0 [] (omega arith)) in
    ap₂ (λ o rest. o ∷ rest) (ap (λ t. if t then Some v.value else look vs x) (sym other))
    (others_stay v vs xs (λ j d l. h (suc j) d (omega arith)))

-- under distinct names stand the values
all_found : (env : Env) → AreDistinct (entry_names env) → map (λ v. Some v.value) env ≡ map (look env) (entry_names env)
all_found [] h = refl
all_found (v ∷ vs) h =
    let same = (bytes_eq-Decides v.name v.name).1 refl in
    ap₂ (λ o rest. o ∷ rest) (ap (λ t. if t then Some v.value else look vs v.name) (sym same))
    (all_found vs (λ i j d l m. h (suc i) (suc j) d (omega arith) (omega arith))
    ∙ others_stay v vs (entry_names vs) (λ j d l. h 0 (suc j) d (omega arith) (omega arith)))

front_distinct : (xs ys : List (List ℕ)) → AreDistinct (xs ++ ys) → AreDistinct xs
front_distinct xs ys h i j d l m =
    let whole = length-append xs ys in
    let differ = h i j d l (omega (arith, whole, m)) in
    λ e. differ (get_or_append_left xs ys d i (omega (arith, l, m)) ∙ e ∙ sym (get_or_append_left xs ys d j m))

variables_distinct : (f : Flowchart) → IsWellTyped f → AreDistinct (names_of (variables_of f))
variables_distinct f typed =
    let joined : declarations_of f ≡ variables_of f ++ f.constants =
    ap (λ ds. f.inputs ++ ds) (sym (append_assoc f.outputs f.internals f.constants)) ∙ sym (append_assoc f.inputs (f.outputs ++ f.internals) f.constants) in
    let names : names_of (declarations_of f) ≡ names_of (variables_of f) ++ names_of f.constants =
    ap names_of joined ∙ map-append (λ (d : Declaration). d.name) (variables_of f) f.constants in
    front_distinct (names_of (variables_of f)) (names_of f.constants) (subst AreDistinct names (has_types f typed).names)

-- what stands between others, of anything that is made of each
part_of : {A B : Type 0} (g : A → B) (n k : ℕ) (xs : List A) → take k (drop n (map g xs)) ≡ map g (take k (drop n xs))
part_of g n k xs = ap (take k) (drop-map g n xs) ∙ take-map g k (drop n xs)

between : {A : Type 0} (xs ys zs : List A) → take (length ys) (drop (length xs) (xs ++ (ys ++ zs))) ≡ ys
between xs ys zs = ap (take (length ys)) (drop-append_seam xs (ys ++ zs)) ∙ take-append_seam ys zs

pub stand_by_name : (f : Flowchart) → IsWellTyped f → OutputsStandByName f
stand_by_name f typed inputs ends given e =
    let named = names-ends f inputs ends given e in
    let found = all_found ends (subst AreDistinct (sym named) (variables_distinct f typed)) in
    let n = length f.inputs in
    let k = length f.outputs in
    sym (part_of Some n k (map (λ (v : Variable). v.value) ends))
    ∙ ap (λ xs. take k (drop n xs)) (map-map Some (λ (v : Variable). v.value) ends ∙ found ∙ ap (map (look ends)) named)
    ∙ part_of (look ends) n k (names_of (variables_of f))
    ∙ ap (map (look ends)) (part_of (λ (d : Declaration). d.name) n k (variables_of f) ∙ ap names_of (between f.inputs f.outputs f.internals))
    ∙ map-map (look ends) (λ (d : Declaration). d.name) f.outputs
