-- What the private functions answer about names by number.
use Rattle.std.specs.Prelude.{◌≡◌, ℕ, Bool, true, false, List, [], ◌∷◌, ◌++◌, Result, Ok, Err}
use Rattle.std.specs.declared.alloc.AllocError.{AllocError}
use Rattle.pap_types.specs.Checks.{has_name}

-- a new name stands behind the others; no other is inserted, and none where memory ran out
abbrev pub IsInserted : List (List ℕ) → List (List ℕ) → List ℕ → Result Bool AllocError → Type 0
IsInserted old new x (Ok true) = (has_name old x ≡ false) × (new ≡ old ++ (x ∷ []))
IsInserted old new x (Ok false) = (has_name old x ≡ true) × (new ≡ old)
IsInserted old new x (Err e) = new ≡ old
