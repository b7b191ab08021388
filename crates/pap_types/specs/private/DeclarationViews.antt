-- What the private functions answer about declarations and their names.
use Rattle.std.specs.Prelude.{◌≡◌, ℕ, true, false, List, [], ◌∷◌, ◌++◌, Some, Result, Ok, Err, ⊤}
use Rattle.pap_tree.specs.Declarations.{Declaration}
use Rattle.pap_types.specs.declared.fault.TypeFault.{TypeFault}
use Rattle.pap_types.specs.declared.fault.TypeFault.TheVariants.{Memory, Twice, Value}
use Rattle.pap_types.specs.Scopes.{names_of}
use Rattle.pap_types.specs.Checks.{first_fault, has_name, declaration_checks}

-- a name that is new stands behind the others; no other is added, and it is the fault
abbrev pub IsAdded : List (List ℕ) → List (List ℕ) → List ℕ → Result (Unit {0}) TypeFault → Type 0
IsAdded old new x (Ok u) = (has_name old x ≡ false) × (new ≡ old ++ (x ∷ []))
IsAdded old new x (Err (Memory e)) = ⊤
IsAdded old new x (Err f) = (has_name old x ≡ true) × (f ≡ Twice x) × (new ≡ old)

-- a fault, unless memory ran out
abbrev pub UnlessMemory : TypeFault → Type 0 → Type 0
UnlessMemory (Memory e) P = ⊤
UnlessMemory f P = P

-- The checks of a declaration behind earlier names pass, or its fault is the first, whatever follows.
abbrev pub IsDeclared : List (List ℕ) → List (List ℕ) → List (List ℕ) → Declaration → Result (Unit {0}) TypeFault → Type 0
IsDeclared earlier old new d (Ok u) =
    (new ≡ old ++ (d.name ∷ []))
    × ((rest : List Declaration) → first_fault (declaration_checks (earlier ++ old) (d ∷ rest)) ≡ first_fault (declaration_checks (earlier ++ new) rest))
IsDeclared earlier old new d (Err f) =
    UnlessMemory f ((rest : List Declaration) → first_fault (declaration_checks (earlier ++ old) (d ∷ rest)) ≡ Some f)

-- the same of a list of declarations
abbrev pub AreDeclared : List (List ℕ) → List (List ℕ) → List (List ℕ) → List Declaration → Result (Unit {0}) TypeFault → Type 0
AreDeclared earlier old new ds (Ok u) =
    (new ≡ old ++ names_of ds)
    × ((rest : List Declaration) → first_fault (declaration_checks (earlier ++ old) (ds ++ rest)) ≡ first_fault (declaration_checks (earlier ++ new) rest))
AreDeclared earlier old new ds (Err f) =
    UnlessMemory f ((rest : List Declaration) → first_fault (declaration_checks (earlier ++ old) (ds ++ rest)) ≡ Some f)

-- The name of a declaration stands behind the others, whatever its literal is, but for one that stands there or earlier.
abbrev pub IsPlaced : List (List ℕ) → List (List ℕ) → List (List ℕ) → List ℕ → Result (Unit {0}) TypeFault → Type 0
IsPlaced earlier old new x (Ok u) = new ≡ old ++ (x ∷ [])
IsPlaced earlier old new x (Err (Memory e)) = ⊤
IsPlaced earlier old new x (Err (Value y)) = new ≡ old ++ (x ∷ [])
IsPlaced earlier old new x (Err (Twice y)) = (has_name (earlier ++ old) x ≡ true) × (new ≡ old)
IsPlaced earlier old new x (Err f) = ⊥
