-- The checks of statements one after the other.
use Rattle.std.proofs.Common.{◌≡◌, ℕ, ◌+◌, ◌-◌, ◌≤◌, List, [], ◌∷◌, ◌++◌, Some, None, Option, Bool, true, false, refl, sym, ap, ◌∙◌, arith, Ok, Err, Result}
use Rattle.std.specs.Prelude.{if◌then◌else◌, is_some}
use Rattle.std.specs.Option.{option_map, option_map_or, option_or}
use Rattle.std.specs.Result.{IsErrAnd}
use Rattle.std.proofs.lemmas.Option.{none-some}
use Rattle.pap_tree.specs.declared.declaration.Kind.{Kind}
use Rattle.pap_tree.specs.declared.place.Place.{Place}
use Rattle.pap_tree.specs.Term.{Term, leaf, item, one, two, choice}
use Rattle.pap_tree.specs.Numbering.{nodes}
use Rattle.pap_tree.specs.Declarations.{Declaration}
use Rattle.pap_types.specs.declared.fault.TypeFault.{TypeFault}
use Rattle.pap_types.specs.declared.fault.TypeFault.TheVariants as faults
use Rattle.pap_types.specs.declared.nodes.Statement.{Statement}
use Rattle.pap_types.specs.Scopes.{declared_as}
use Rattle.pap_types.specs.Kinds.{kind_of, suits}
use Rattle.pap_types.specs.Checks.{Check, check, first_fault, last_node, target_kind}
use Rattle.pap_types.specs.private.CheckViews.{scope_of_statement, checks_in}
use Rattle.pap_types.specs.private.StatementViews.{IsVerdict, place_in, eval_checks_in}
use Rattle.pap_types.proofs.CheckLemmas.{past, front}

-- an expression has a node
pub nodes_some : (t : Term) → 1 ≤ nodes t
nodes_some (leaf l) = omega arith
nodes_some (item x e) = omega arith
nodes_some (one op e) = omega arith
nodes_some (two op e f) = omega arith
nodes_some (choice c e f) = omega arith

-- an early fault is that of a longer list
pub early_verdict : (a more : List Check) (r : Result (Unit {0}) TypeFault) (f : TypeFault) → first_fault a ≡ Some f → IsErrAnd r (λ y. y ≡ f) → IsVerdict (a ++ more) r
early_verdict a more (Ok u) f found is = absurd is
early_verdict a more (Err g) f found is = front a more f found ∙ ap (λ h. Some h) (sym is)

-- the last of some checks, where those before it pass
pub last_passes : (a : List Check) (passes : Bool) (f : TypeFault) → first_fault a ≡ None → passes ≡ true → first_fault (a ++ (check passes f ∷ [])) ≡ None
last_passes a passes f h e = past a _ h ∙ rw e refl

pub last_fails : (a : List Check) (passes : Bool) (f g : TypeFault) → first_fault a ≡ None → passes ≡ false → f ≡ g → first_fault (a ++ (check passes f ∷ [])) ≡ Some g
last_fails a passes f g h e is = past a _ h ∙ rw e (ap (λ x. Some x) is)

-- ---- an assignment

target_by : (x : List ℕ) (last : Place) (rest : Option TypeFault) (k : Kind) (found other : Option Declaration) → option_map (λ (d : Declaration). d.kind) found ≡ Some k → (if is_some (option_or found other) then (if is_some (option_map (λ (d : Declaration). d.kind) found) then rest else Some (faults.ConstantWritten last)) else Some (faults.Unknown x last)) ≡ rest
target_by x last rest k (Some d) other e = refl
target_by x last rest k None other e = absurd (none-some k e)

module _ (s : Statement) (x : List ℕ) (e : Term) (k : Kind) (is : target_kind (scope_of_statement s) x ≡ Some k) where
  -- the checks that are left where the target is a variable
  abbrev left : List Check
  left = checks_in s e 0 ++ (check (suits k e (kind_of (scope_of_statement s) e)) (faults.Kind (place_in s (last_node e))) ∷ [])

  eval_left : first_fault (eval_checks_in s x e) ≡ first_fault left
  eval_left =
      target_by x (place_in s (last_node e)) (first_fault (checks_in s e 0 ++ (check (option_map_or (λ k. suits k e (kind_of (scope_of_statement s) e)) (target_kind (scope_of_statement s) x) false) (faults.Kind (place_in s (last_node e))) ∷ []))) k (declared_as (scope_of_statement s).variables x) (declared_as (scope_of_statement s).constants x) is
      ∙ ap (λ found. first_fault (checks_in s e 0 ++ (check (option_map_or (λ k. suits k e (kind_of (scope_of_statement s) e)) found false) (faults.Kind (place_in s (last_node e))) ∷ []))) is

  pub eval_early : (r : Result (Unit {0}) TypeFault) (f : TypeFault) → first_fault (checks_in s e 0) ≡ Some f → IsErrAnd r (λ y. y ≡ f) → IsVerdict (eval_checks_in s x e) r
  eval_early (Ok u) f found is = absurd is
  eval_early (Err g) f found is = eval_left ∙ front (checks_in s e 0) _ f found ∙ ap (λ h. Some h) (sym is)

  pub eval_passes : first_fault (checks_in s e 0) ≡ None → suits k e (kind_of (scope_of_statement s) e) ≡ true → first_fault (eval_checks_in s x e) ≡ None
  eval_passes passed fits = eval_left ∙ last_passes (checks_in s e 0) _ _ passed fits

  pub eval_fails : (f : TypeFault) → first_fault (checks_in s e 0) ≡ None → suits k e (kind_of (scope_of_statement s) e) ≡ false → faults.Kind (place_in s (last_node e)) ≡ f → first_fault (eval_checks_in s x e) ≡ Some f
  eval_fails f passed misfits at = eval_left ∙ last_fails (checks_in s e 0) _ _ f passed misfits at

-- the place of a whole, whose number is before the next
pub last_place : (s : Statement) (e : Term) (next : ℕ) (p : Place) → next ≡ 0 + nodes e → p ≡ place_in s (next - 1) → faults.Kind (place_in s (last_node e)) ≡ faults.Kind p
last_place s e next p is at =
    let same : next ≡ nodes e = omega arith in
    ap (λ q. faults.Kind q) (ap (λ n. place_in s (n - 1)) (sym same) ∙ sym at)
