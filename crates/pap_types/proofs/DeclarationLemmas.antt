-- Declarations one after the other.
use Rattle.std.proofs.Common.{◌≡◌, ℕ, suc, ◌+◌, ◌<◌, List, ◌∷◌, ◌++◌, length, map, drop, get_or, Ok, refl, sym, ap, ◌∙◌, arith}
use Rattle.std.proofs.Math.Seq.{append_snoc, drop-cons}
use Rattle.pap_tree.specs.Declarations.{Declaration, declaration_of}
use Rattle.pap_tree.specs.declared.declaration.Declared.{Declared}
use Rattle.pap_types.specs.Scopes.{names_of}
use Rattle.pap_types.specs.Checks.{first_fault, declaration_checks}
use Rattle.pap_types.specs.declared.fault.TypeFault.{TypeFault}
use Rattle.pap_types.specs.declared.fault.TypeFault.TheVariants.{Memory, Twice, Unknown, Kind, ConstantWritten, NoMethod, Value}
use Rattle.pap_types.specs.private.DeclarationViews.{IsDeclared, UnlessMemory}

-- some declarations are left: the names so far and theirs are all, and the first fault is that of the checks that are left
pub record IsLeft (earlier old now : List (List ℕ)) (ds left : List Declaration) : Type 0 where
  pub names : old ++ names_of ds ≡ now ++ names_of left
  pub faults : (rest : List Declaration) → first_fault (declaration_checks (earlier ++ old) (ds ++ rest)) ≡ first_fault (declaration_checks (earlier ++ now) (left ++ rest))

pub none_yet : (earlier old : List (List ℕ)) (ds : List Declaration) → IsLeft earlier old old ds ds
none_yet earlier old ds = record { names = refl; faults = λ rest. refl }

pub one_less : (earlier old now new : List (List ℕ)) (ds left : List Declaration) (d : Declaration) → IsLeft earlier old now ds (d ∷ left) → IsDeclared earlier now new d (Ok tt) → IsLeft earlier old new ds left
one_less earlier old now new ds left d h (more, passed) = record {
  names = h.names ∙ sym (append_snoc now d.name (names_of left)) ∙ ap (λ ns. ns ++ names_of left) (sym more);
  faults = λ rest. h.faults rest ∙ passed (left ++ rest);
}

-- the declarations from a number on
pub left_from : (ds : List Declared) (i : ℕ) (d : Declared) → d ≡ get_or ds i d → i < length ds → map declaration_of (drop i ds) ≡ declaration_of d ∷ map declaration_of (drop (i + 1) ds)
left_from ds i d is less =
    let next : suc i ≡ i + 1 = omega arith in
    ap (map declaration_of) (drop-cons ds i d less ∙ ap (λ x. x ∷ drop (suc i) ds) (sym is) ∙ ap (λ k. d ∷ drop k ds) next)

-- ---- lists of declarations one after the other

pub unless_memory : (f : TypeFault) (P Q : Type 0) → (P → Q) → UnlessMemory f P → UnlessMemory f Q
unless_memory (Memory e) P Q h m = tt
unless_memory (Twice x) P Q h m = h m
unless_memory (Unknown x p) P Q h m = h m
unless_memory (Kind p) P Q h m = h m
unless_memory (ConstantWritten p) P Q h m = h m
unless_memory (NoMethod p) P Q h m = h m
unless_memory (Value x) P Q h m = h m
