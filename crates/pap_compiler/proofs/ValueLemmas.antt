-- Declarations one after the other.
use Rattle.std.proofs.Common.{◌≡◌, ℕ, zero, suc, ◌+◌, ◌<◌, List, [], ◌∷◌, length, map, drop, get_or, sym, ap, ◌∙◌, subst, arith}
use Rattle.std.specs.List.{All}
use Rattle.std.proofs.lemmas.List.{drop_more}
use Rattle.std.proofs.lemmas.List.Elements.{All-head, All-tail}
use Rattle.pap_tree.specs.declared.declaration.Declared.{Declared}
use Rattle.pap_tree.specs.Declarations.{declaration_of}
use Rattle.pap_types.specs.Scopes.{first_value, declared_table}
use Rattle.pap_types.specs.Typing.{HasItsType}

-- the declarations from a place on
left_at : (ds : List Declared) (k : ℕ) (d : Declared) → d ≡ get_or ds k d → k < length ds → map declaration_of (drop k ds) ≡ declaration_of d ∷ map declaration_of (drop (k + 1) ds)
left_at ds k d is lt = ap (map declaration_of) (drop_more ds k d lt ∙ ap (λ x. x ∷ drop (k + 1) ds) (sym is))

pub values_at : (ds : List Declared) (k : ℕ) (d : Declared) → d ≡ get_or ds k d → k < length ds → map first_value (map declaration_of (drop k ds)) ≡ first_value (declaration_of d) ∷ map first_value (map declaration_of (drop (k + 1) ds))
values_at ds k d is lt = ap (map first_value) (left_at ds k d is lt)

pub tables_at : (ds : List Declared) (k : ℕ) (d : Declared) → d ≡ get_or ds k d → k < length ds → map (λ d. declared_table d.value) (map declaration_of (drop k ds)) ≡ declared_table (declaration_of d).value ∷ map (λ d. declared_table d.value) (map declaration_of (drop (k + 1) ds))
tables_at ds k d is lt = ap (map (λ d. declared_table d.value)) (left_at ds k d is lt)

type_there : (ds : List Declared) (k : ℕ) (d : Declared) → d ≡ get_or ds k d → k < length ds → All HasItsType (map declaration_of ds) → HasItsType (declaration_of d)
type_there [] k d is lt all = absurd (omega arith)
type_there (e ∷ ds) zero d is lt all = subst (λ x. HasItsType (declaration_of x)) (sym is) (All-head HasItsType (declaration_of e) (map declaration_of ds) all)
type_there (e ∷ ds) (suc k) d is lt all = type_there ds k d is (omega arith) (All-tail HasItsType (declaration_of e) (map declaration_of ds) all)

pub type_at : (ds : List Declared) (k : ℕ) (d : Declared) → d ≡ get_or ds k d → k < length ds → All HasItsType (map declaration_of ds) → HasItsType (declaration_of d)
type_at ds k d is lt all = type_there ds k d is lt all
