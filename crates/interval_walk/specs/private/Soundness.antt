-- What private contracts cite beside the definitions of Soundness.
use Rattle.std.specs.Prelude.{◌≡◌, ℕ, List, None}
use Rattle.pap_types.specs.Scopes.{Scope, declared_as}
use Rattle.pap_types.specs.Values.{Env, look}

-- nothing but variables has a value
abbrev pub AreVariables : Scope → Env → Type 0
AreVariables scope env = (x : List ℕ) → declared_as scope.variables x ≡ None → look env x ≡ None
