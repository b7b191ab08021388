-- Methods one after the other.
use Rattle.std.proofs.Common.{◌≡◌, ℕ, suc, ◌+◌, ◌<◌, List, ◌∷◌, ◌++◌, length, map, drop, get_or, Some, None, Result, Ok, Err, sym, ap, ap₂, subst, ◌∙◌, arith}
use Rattle.std.specs.Prelude.{All}
use Rattle.std.specs.Result.{IsErrAnd}
use Rattle.std.proofs.Math.Seq.{drop-cons}
use Rattle.std.proofs.lemmas.List.Elements.{All-head, All-tail}
use Rattle.pap_tree.specs.declared.plan.Method.{Method}
use Rattle.pap_tree.specs.Flowchart.{Routine, routine_of, flowchart_of, body_of}
use Rattle.pap_tree.specs.declared.plan.Stmt.{Stmt}
use Rattle.pap_tree.specs.Statements.{written}
use Rattle.pap_types.specs.declared.fault.TypeFault.{TypeFault}
use Rattle.pap_types.specs.declared.scope.Scope.{Scope as InScope}
use Rattle.pap_types.specs.Routines.{method_names}
use Rattle.pap_tree.specs.Names.{main_name}
use Rattle.pap_types.specs.Counts.{AreSmallTerms, methods_written}
use Rattle.pap_types.specs.Checks.{first_fault, method_checks}
use Rattle.pap_types.specs.private.StatementViews.{IsVerdict}
use Rattle.pap_types.specs.private.PlanViews.{statement_checks, method_checks_in, other_checks_in}
use Rattle.pap_types.proofs.CheckLemmas.{past, front}

-- some methods are left: the names so far and theirs are all, and the first fault is that of the checks that are left
pub record AreLeft (old now : List (List ℕ)) (ms left : List Routine) : Type 0 where
  pub names : old ++ method_names ms ≡ now ++ method_names left
  pub faults : first_fault (method_checks (main_name ∷ old) ms) ≡ first_fault (method_checks (main_name ∷ now) left)

-- the methods from a number on
pub methods_from : (ms : List Method) (i : ℕ) (m : Method) → m ≡ get_or ms i m → i < length ms → map routine_of (drop i ms) ≡ routine_of m ∷ map routine_of (drop (i + 1) ms)
methods_from ms i m is less =
    let next : suc i ≡ i + 1 = omega arith in
    ap (map routine_of) (drop-cons ms i m less ∙ ap (λ x. x ∷ drop (suc i) ms) (sym is) ∙ ap (λ k. m ∷ drop k ms) next)

-- ---- statements

-- the statements of some methods are left
pub record AreUnderWay (s : InScope) (all left : List Routine) : Type 0 where
  pub faults : first_fault (other_checks_in s all) ≡ first_fault (other_checks_in s left)
  pub small : All (λ m. AreSmallTerms m.body) left
  pub room : methods_written left < 4294967296

module _ (s : InScope) (all left behind : List Routine) (m : Routine) (is : left ≡ m ∷ behind) (h : AreUnderWay s all left) where
  pub small_method : AreSmallTerms m.body
  small_method = All-head (λ (m : Routine). AreSmallTerms m.body) m behind (subst (All (λ (m : Routine). AreSmallTerms m.body)) is h.small)

  pub room_method : written m.body < 4294967296
  room_method = let a = h.room in let b = ap methods_written is in omega arith

  pub failed_method : (r : Result (Unit {0}) TypeFault) (f : TypeFault) → first_fault (method_checks_in s m.name m.body) ≡ Some f → IsErrAnd r (λ y. y ≡ f) → IsVerdict (other_checks_in s all) r
  failed_method (Ok u) f found e = absurd e
  failed_method (Err g) f found e =
      h.faults ∙ ap (λ ms. first_fault (other_checks_in s ms)) is ∙ front (method_checks_in s m.name m.body) _ f found ∙ ap (λ h. Some h) (sym e)

  pub passed_method : first_fault (method_checks_in s m.name m.body) ≡ None → AreUnderWay s all behind
  passed_method passed = record {
    faults = h.faults ∙ ap (λ ms. first_fault (other_checks_in s ms)) is ∙ past (method_checks_in s m.name m.body) _ passed;
    small = All-tail (λ (m : Routine). AreSmallTerms m.body) m behind (subst (All (λ (m : Routine). AreSmallTerms m.body)) is h.small);
    room = (let a = h.room in let b = ap methods_written is in omega arith);
  }

-- MAIN, then the others
module _ (s : InScope) (name : List ℕ) (main : List Stmt) (named : name ≡ main_name) (are : main ≡ s.plan.now.main.items) where
  main_checks : first_fault (method_checks_in s name (body_of main)) ≡ first_fault (method_checks_in s main_name (body_of s.plan.now.main.items))
  main_checks = ap₂ (λ n ss. first_fault (method_checks_in s n (body_of ss))) named are

  pub main_early : (r : Result (Unit {0}) TypeFault) (f : TypeFault) → first_fault (method_checks_in s name (body_of main)) ≡ Some f → IsErrAnd r (λ y. y ≡ f) → IsVerdict (statement_checks (flowchart_of s.plan.now)) r
  main_early (Ok u) f found e = absurd e
  main_early (Err g) f found e =
      front (method_checks_in s main_name (body_of s.plan.now.main.items)) _ f (sym main_checks ∙ found) ∙ ap (λ h. Some h) (sym e)

  main_passed : first_fault (method_checks_in s name (body_of main)) ≡ None → first_fault (statement_checks (flowchart_of s.plan.now)) ≡ first_fault (other_checks_in s (flowchart_of s.plan.now).methods)
  main_passed passed = past (method_checks_in s main_name (body_of s.plan.now.main.items)) _ (sym main_checks ∙ passed)

  pub main_then : (ms : List Method) (r : Result (Unit {0}) TypeFault) → ms ≡ s.plan.now.methods.items → first_fault (method_checks_in s name (body_of main)) ≡ None → IsVerdict (other_checks_in s (map routine_of ms)) r → IsVerdict (statement_checks (flowchart_of s.plan.now)) r
  main_then ms (Ok u) same passed h = main_passed passed ∙ sym (ap (λ l. first_fault (other_checks_in s (map routine_of l))) same) ∙ h
  main_then ms (Err f) same passed h = main_passed passed ∙ sym (ap (λ l. first_fault (other_checks_in s (map routine_of l))) same) ∙ h
