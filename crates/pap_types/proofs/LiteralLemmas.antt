-- The literals of a well-typed plan are of their types, those of each part and that of a name.
use Rattle.std.proofs.Common.{◌≡◌, ℕ, Bool, true, false, List, [], ◌∷◌, ◌++◌, Some, sym, subst}
use Rattle.std.specs.Prelude.{All, if◌then◌else◌}
use Rattle.std.specs.Str.{bytes_eq}
use Rattle.std.proofs.lemmas.List.Elements.{All-nil, All-cons, All-head, All-tail}
use Rattle.std.proofs.lemmas.Option.{none-some}
use Rattle.pap_tree.specs.Declarations.{Declaration}
use Rattle.pap_tree.specs.Flowchart.{Flowchart}
use Rattle.pap_types.specs.Scopes.{declared_as}
use Rattle.pap_types.specs.Checks.{IsWellTyped}
use Rattle.pap_types.specs.Typing.{HasItsType}
use Rattle.pap_types.proofs.TypingLemmas.{has_types}

-- what is of its type in a list is so behind a front of it, and in that front
pub types_behind : (vs cs : List Declaration) → All HasItsType (vs ++ cs) → All HasItsType cs
types_behind [] cs h = h
types_behind (d ∷ vs) cs h = types_behind vs cs (All-tail HasItsType d (vs ++ cs) h)

pub types_before : (vs cs : List Declaration) → All HasItsType (vs ++ cs) → All HasItsType vs
types_before [] cs h = All-nil HasItsType
types_before (d ∷ vs) cs h = All-cons HasItsType d vs (All-head HasItsType d (vs ++ cs) h) (types_before vs cs (All-tail HasItsType d (vs ++ cs) h))

-- the literals of each part of a plan are of their types
pub record ArePartsTyped (f : Flowchart) : Type 0 where
  pub inputs : All HasItsType f.inputs
  pub outputs : All HasItsType f.outputs
  pub internals : All HasItsType f.internals
  pub constants : All HasItsType f.constants

pub parts_typed : (f : Flowchart) → IsWellTyped f → ArePartsTyped f
parts_typed f well =
    let all = (has_types f well).literals in
    let after_inputs = types_behind f.inputs (f.outputs ++ (f.internals ++ f.constants)) all in
    let after_outputs = types_behind f.outputs (f.internals ++ f.constants) after_inputs in
    record {
      inputs = types_before f.inputs (f.outputs ++ (f.internals ++ f.constants)) all;
      outputs = types_before f.outputs (f.internals ++ f.constants) after_inputs;
      internals = types_before f.internals f.constants after_outputs;
      constants = types_behind f.internals f.constants after_outputs;
    }

-- the declaration of a name is of its type where all are
pub declared_type : (cs : List Declaration) (x : List ℕ) (c : Declaration) → All HasItsType cs → declared_as cs x ≡ Some c → HasItsType c
declared_type [] x c h e = absurd (none-some c e)
declared_type (d ∷ cs) x c h e = by_name (bytes_eq x d.name) (declared_type cs x c (All-tail HasItsType d cs h)) e
  where
    by_name : (t : Bool) → (declared_as cs x ≡ Some c → HasItsType c) → (if t then Some d else declared_as cs x) ≡ Some c → HasItsType c
    by_name true later e = let same : d ≡ c = cc in subst HasItsType same (All-head HasItsType d cs h)
    by_name false later e = later e

pub typed_constant : (f : Flowchart) (x : List ℕ) (d : Declaration) → IsWellTyped f → Some d ≡ declared_as f.constants x → HasItsType d
typed_constant f x d well e = declared_type f.constants x d (parts_typed f well).constants (sym e)
