-- A name that is declared is a variable or a constant.
use Rattle.std.proofs.Common.{◌≡◌, ℕ, List, Option, Some, None, refl, sym, subst, true≢false}
use Rattle.std.specs.Prelude.{IsTrue, is_some}
use Rattle.std.specs.Option.{option_map, option_or}
use Rattle.std.proofs.lemmas.Option.{none-some}
use Rattle.pap_tree.specs.Declarations.{Declaration}
use Rattle.pap_types.specs.Scopes.{Scope, names_of, number_of, declared_as, declaration_in, constant_in, first_value}
use Rattle.pap_types.proofs.Laws.{declared_by}

pub undeclared : (scope : Scope) (x : List ℕ) → None ≡ number_of (names_of scope.variables) x
    → None ≡ constant_in scope x → IsTrue (is_some (declaration_in scope x)) → ⊥
undeclared scope x no_variable no_constant h =
    let variable : None ≡ declared_as scope.variables x =
    declared_by scope.variables x (names_of scope.variables) None refl no_variable in
    by_constant (declared_as scope.constants x) no_constant
    (subst (λ o. IsTrue (is_some (option_or o (declared_as scope.constants x)))) (sym variable) h)
  where
    by_constant : (o : Option Declaration) → None ≡ option_map first_value o
        → IsTrue (is_some o) → ⊥
    by_constant (Some d) e h = absurd (none-some (first_value d) e)
    by_constant None e h = true≢false (sym h)
