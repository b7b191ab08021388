-- What the declarations of a well-typed plan say of its scope.
use Rattle.std.proofs.Common.{◌≡◌, ◌≢◌, ℕ, suc, ◌<◌, List, [], ◌∷◌, ◌++◌, length, Bool, true, false, if◌then◌else◌, Some, None, refl, sym, ap, ◌∙◌, subst, arith}
use Rattle.std.specs.Prelude.{All, AllPairs, slice_index_or}
use Rattle.std.specs.Str.{bytes_eq}
use Rattle.std.proofs.lemmas.Slice.Eq.{bytes_eq-Decides}
use Rattle.std.proofs.lemmas.List.{append_assoc}
use Rattle.std.proofs.lemmas.List.Elements.{All-head, All-tail}
use Rattle.pap_tree.specs.Declarations.{Declaration}
use Rattle.pap_tree.specs.Flowchart.{Flowchart}
use Rattle.pap_types.specs.Scopes.{declared_as, names_of, variables_of, scope_of}
use Rattle.pap_types.specs.Typing.{HasTypes, HasItsType, AreDistinct, declarations_of}
use Rattle.interval_walk.proofs.ScopeLemmas.{IsSoundScope}

-- ---- distinct names

pub pairs_tail : {A : Type 0} (R : A → A → Type 0) (x : A) (xs : List A) → AllPairs R (x ∷ xs) → AllPairs R xs
pairs_tail R x xs h i j d l m = h (suc i) (suc j) d (omega arith) (omega arith)

pub pairs_head : {A : Type 0} (R : A → A → Type 0) (x : A) (xs : List A) → AllPairs R (x ∷ xs) → (j : ℕ) (d : A) → j < length xs → R x (slice_index_or xs j d)
pairs_head R x xs h j d l = h 0 (suc j) d (omega arith) (omega arith)

pub other_name : (a b : List ℕ) → a ≢ b → bytes_eq a b ≡ false
other_name a b differ = by_test (bytes_eq a b) refl
  where
    by_test : (t : Bool) → bytes_eq a b ≡ t → bytes_eq a b ≡ false
    by_test true e = absurd (differ ((bytes_eq-Decides a b).0 e))
    by_test false e = e

-- a name that is none of the declared ones
not_declared : (n : List ℕ) (ds : List Declaration) → ((j : ℕ) (d : List ℕ) → j < length (names_of ds) → n ≢ slice_index_or (names_of ds) j d) → declared_as ds n ≡ None
not_declared n [] h = refl
not_declared n (d ∷ ds) h =
    let first : bytes_eq n d.name ≡ false = other_name n d.name (h 0 [] (omega arith)) in
    let rest = not_declared n ds (λ j e l. h (suc j) e (omega arith)) in
    rw first rest

-- what isn't declared in both isn't in the second
not_after : (vs cs : List Declaration) (x : List ℕ) → declared_as (vs ++ cs) x ≡ None → declared_as cs x ≡ None
not_after [] cs x e = e
not_after (v ∷ vs) cs x e = by_test (bytes_eq x v.name) e (not_after vs cs x)
  where
    by_test : (t : Bool) → (if t then Some v else declared_as (vs ++ cs) x) ≡ None → (declared_as (vs ++ cs) x ≡ None → declared_as cs x ≡ None) → declared_as cs x ≡ None
    by_test true f later = absurd (cc)
    by_test false f later = later f

pub apart : (vs cs : List Declaration) → AreDistinct (names_of (vs ++ cs)) → (x : List ℕ) (d : Declaration) → declared_as cs x ≡ Some d → declared_as vs x ≡ None
apart [] cs h x d e = refl
apart (v ∷ vs) cs h x d e = by_test (bytes_eq x v.name) refl (apart vs cs (pairs_tail (λ a b. a ≢ b) v.name (names_of (vs ++ cs)) h) x d e)
  where
    by_test : (t : Bool) → bytes_eq x v.name ≡ t → declared_as vs x ≡ None → (if t then Some v else declared_as vs x) ≡ None
    by_test true f later =
        let same : x ≡ v.name = (bytes_eq-Decides x v.name).0 f in
        let none = not_after vs cs v.name (not_declared v.name (vs ++ cs) (pairs_head (λ a b. a ≢ b) v.name (names_of (vs ++ cs)) h)) in
        let here : declared_as cs x ≡ None = subst (λ y. declared_as cs y ≡ None) (sym same) none in
        absurd (cc)
    by_test false f later = later

-- ---- literals

pub all_after : (P : Declaration → Type 0) (vs cs : List Declaration) → All P (vs ++ cs) → All P cs
all_after P [] cs h = h
all_after P (v ∷ vs) cs h = all_after P vs cs (All-tail P v (vs ++ cs) h)

pub all_declared : (P : Declaration → Type 0) (ds : List Declaration) → All P ds → (x : List ℕ) (d : Declaration) → declared_as ds x ≡ Some d → P d
all_declared P [] h x d e = absurd (cc)
all_declared P (c ∷ ds) h x d e = by_test (bytes_eq x c.name) e (all_declared P ds (All-tail P c ds h) x d)
  where
    by_test : (t : Bool) → (if t then Some c else declared_as ds x) ≡ Some d → (declared_as ds x ≡ Some d → P d) → P d
    by_test true f later = let same : c ≡ d = cc in subst P same (All-head P c ds h)
    by_test false f later = later f

-- ---- the scope

pub variables_first : (f : Flowchart) → declarations_of f ≡ variables_of f ++ f.constants
variables_first f =
    ap (λ ds. f.inputs ++ ds) (sym (append_assoc f.outputs f.internals f.constants))
    ∙ sym (append_assoc f.inputs (f.outputs ++ f.internals) f.constants)

pub sound_scope : (f : Flowchart) → HasTypes f → IsSoundScope (scope_of f)
sound_scope f t = record {
  apart = apart (variables_of f) f.constants (subst (λ ds. AreDistinct (names_of ds)) (variables_first f) t.names);
  typed = all_declared HasItsType f.constants (all_after HasItsType (variables_of f) f.constants (subst (All HasItsType) (variables_first f) t.literals));
}
