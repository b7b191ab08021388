-- Statements one after the other.
use Rattle.std.proofs.Common.{◌≡◌, ℕ, ◌+◌, ◌≤◌, List, [], ◌∷◌, ◌++◌, length, drop, get_or, ◌<◌, Some, None, Option, Bool, true, false, refl, sym, ap, subst, ◌∙◌, arith, Ok, Err, Result}
use Rattle.std.specs.Prelude.{◌||◌, if◌then◌else◌, is_some}
use Rattle.std.specs.List.{list_any}
use Rattle.std.specs.Str.{bytes_eq}
use Rattle.pap_tree.specs.declared.place.Place.{Place}
use Rattle.std.specs.Result.{IsErrAnd}
use Rattle.std.proofs.lemmas.List.{append_assoc, append-nil}
use Rattle.pap_tree.proofs.Laws.{stmt_at}
use Rattle.pap_tree.specs.declared.plan.Stmt.{Stmt, Eval, If', Execute}
use Rattle.pap_tree.specs.Term.{Term, term_of}
use Rattle.pap_tree.specs.Flowchart.{Body, done, branch, execute, Routine, flowchart_of, stmt_then, body_of, body_of_row}
use Rattle.pap_tree.specs.Statements.{written}
use Rattle.pap_types.specs.declared.fault.TypeFault.{TypeFault}
use Rattle.pap_types.specs.declared.nodes.Statement.{Statement}
use Rattle.pap_types.specs.declared.statements.Checking.{Checking}
use Rattle.pap_types.specs.Checks.{first_fault, place}
use Rattle.pap_types.specs.Routines.{body_named, method_names}
use Rattle.pap_types.specs.declared.fault.TypeFault.TheVariants as faults
use Rattle.pap_types.specs.Counts.{AreSmallTerms}
use Rattle.pap_types.specs.private.StatementViews.{checks_from, statement_of, eval_checks_in, test_checks_in, BodyAnswer, BranchesAnswer, checks_of_branches}
use Rattle.pap_types.proofs.CheckLemmas.{past, front}

-- some statements are left: the first fault is that of their checks, and their expressions are small
pub record IsUnderWay (c : Checking) (at number : ℕ) (all left : Body) : Type 0 where
  pub faults : first_fault (checks_from c at all) ≡ first_fault (checks_from c number left)
  pub from : at ≤ number
  pub count : number + written left ≡ at + written all
  pub small : AreSmallTerms left

-- a statement and those behind it
pub written_then : (s : Stmt) (rest : Body) → written (stmt_then s rest) ≡ written (stmt_then s done) + written rest
written_then (Eval x e) rest = omega arith
written_then (If' t m ys n zs) rest = omega arith
written_then (Execute x) rest = omega arith

pub small_then : (s : Stmt) (rest : Body) → AreSmallTerms (stmt_then s rest) → AreSmallTerms (stmt_then s done) × AreSmallTerms rest
small_then (Eval x e) rest h = ((h.0, tt), h.1)
small_then (If' t m ys n zs) rest h = ((h.0, h.1, h.2, tt), h.3)
small_then (Execute x) rest h = (tt, h)

-- lists behind one another
pub four : {A : Type 0} (a b c d : List A) → a ++ (b ++ (c ++ d)) ≡ (a ++ (b ++ (c ++ []))) ++ d
four a b c d =
    ap (λ x. a ++ (b ++ (x ++ d))) (sym (append-nil c))
    ∙ ap (λ x. a ++ x) (sym (append_assoc b (c ++ []) d))
    ∙ sym (append_assoc a (b ++ (c ++ [])) d)

-- the checks of a statement, and those of the statements behind it
pub checks_then : (c : Checking) (at next : ℕ) (s : Stmt) (rest : Body) → next ≡ at + written (stmt_then s done) → checks_from c at (stmt_then s rest) ≡ checks_from c at (stmt_then s done) ++ checks_from c next rest
checks_then c at next (Eval x e) rest is =
    let same : at + 1 ≡ next = omega arith in
    ap (λ n. eval_checks_in (statement_of c at) x (term_of e) ++ checks_from c n rest) same
    ∙ ap (λ cs. cs ++ checks_from c next rest) (sym (append-nil (eval_checks_in (statement_of c at) x (term_of e))))
checks_then c at next (If' t m ys n zs) rest is =
    let a = body_of_row ys in
    let b = body_of_row zs in
    let same : at + 1 + written a + written b ≡ next = omega arith in
    ap (λ n. test_checks_in (statement_of c at) (term_of t) ++ (checks_from c (at + 1) a ++ (checks_from c (at + 1 + written a) b ++ checks_from c n rest))) same
    ∙ four (test_checks_in (statement_of c at) (term_of t)) (checks_from c (at + 1) a) (checks_from c (at + 1 + written a) b) (checks_from c next rest)
checks_then c at next (Execute x) rest is =
    let same : at + 1 ≡ next = omega arith in
    ap (λ n. checks_from c at (execute x done) ++ checks_from c n rest) same

-- ---- a branch

-- what is said of a statement's test, by its number
pub of_statement : {s w : Statement} (t : Term) (found : Option TypeFault) → s ≡ w → first_fault (test_checks_in s t) ≡ found → first_fault (test_checks_in w t) ≡ found
of_statement t found is h = subst (λ s. first_fault (test_checks_in s t) ≡ found) is h

module _ (c : Checking) (at : ℕ) (a b : Body) where
  pub branches_early : (r : Result ℕ TypeFault) (f : TypeFault) → first_fault (checks_from c at a) ≡ Some f → IsErrAnd r (λ y. y ≡ f) → BranchesAnswer c at a b r
  branches_early (Ok n) f found is = absurd is
  branches_early (Err g) f found is = front (checks_from c at a) _ f found ∙ ap (λ h. Some h) (sym is)

  second_left : (next : ℕ) → first_fault (checks_from c at a) ≡ None → next ≡ at + written a → first_fault (checks_of_branches c at a b) ≡ first_fault (checks_from c next b)
  second_left next passed is = past (checks_from c at a) _ passed ∙ ap (λ n. first_fault (checks_from c n b)) (sym is)

  pub branches_answer : (next : ℕ) (r : Result ℕ TypeFault) → first_fault (checks_from c at a) ≡ None → next ≡ at + written a → BodyAnswer c next b r → BranchesAnswer c at a b r
  branches_answer next (Ok n) passed is h = (second_left next passed is ∙ h.0, (let count = h.1 in omega arith))
  branches_answer next (Err f) passed is h = second_left next passed is ∙ h

module _ (c : Checking) (at : ℕ) (t : Term) (a b : Body) where
  pub branch_early : (r : Result ℕ TypeFault) (f : TypeFault) → first_fault (test_checks_in (statement_of c at) t) ≡ Some f → IsErrAnd r (λ y. y ≡ f) → BodyAnswer c at (branch t a b done) r
  branch_early (Ok n) f found is = absurd is
  branch_early (Err g) f found is = front (test_checks_in (statement_of c at) t) _ f found ∙ ap (λ h. Some h) (sym is)

  branches_left : first_fault (test_checks_in (statement_of c at) t) ≡ None → first_fault (checks_from c at (branch t a b done)) ≡ first_fault (checks_of_branches c (at + 1) a b)
  branches_left tested =
      past (test_checks_in (statement_of c at) t) _ tested
      ∙ ap (λ cs. first_fault (checks_from c (at + 1) a ++ cs)) (append-nil (checks_from c (at + 1 + written a) b))

  pub branch_answer : (r : Result ℕ TypeFault) → first_fault (test_checks_in (statement_of c at) t) ≡ None → BranchesAnswer c (at + 1) a b r → BodyAnswer c at (branch t a b done) r
  branch_answer (Ok n) tested h = (branches_left tested ∙ h.0, (let count = h.1 in omega arith))
  branch_answer (Err f) tested h = branches_left tested ∙ h

-- ---- an execution

named_or_not : (ms : List Routine) (m : Routine) (x : List ℕ) → list_any (bytes_eq x) (method_names ms) ≡ is_some (body_named ms x) → (same : Bool) → (same || list_any (bytes_eq x) (method_names ms)) ≡ is_some (if same then Some m.body else body_named ms x)
named_or_not ms m x h true = refl
named_or_not ms m x h false = h

-- a method is there where its name is one of theirs
pub is_named : (ms : List Routine) (x : List ℕ) → list_any (bytes_eq x) (method_names ms) ≡ is_some (body_named ms x)
is_named [] x = refl
is_named (m ∷ ms) x = named_or_not ms m x (is_named ms x) (bytes_eq x m.name)

module _ (c : Checking) (at : ℕ) (x : List ℕ) (names : List (List ℕ)) (are : names ≡ method_names (flowchart_of c.scope.plan.now).methods) where
  pub execute_passes : list_any (bytes_eq x) names ≡ true → first_fault (checks_from c at (execute x done)) ≡ None
  execute_passes found =
      let there : is_some (body_named (flowchart_of c.scope.plan.now).methods x) ≡ true = sym (is_named (flowchart_of c.scope.plan.now).methods x) ∙ sym (ap (list_any (bytes_eq x)) are) ∙ found in
      rw there refl

  pub execute_fails : (p : Place) → list_any (bytes_eq x) names ≡ false → p ≡ place c.method at 0 → first_fault (checks_from c at (execute x done)) ≡ Some (faults.NoMethod p)
  execute_fails p found is =
      let there : is_some (body_named (flowchart_of c.scope.plan.now).methods x) ≡ false = sym (is_named (flowchart_of c.scope.plan.now).methods x) ∙ sym (ap (list_any (bytes_eq x)) are) ∙ found in
      rw there (ap (λ q. Some (faults.NoMethod q)) (sym is))

-- ---- a step

-- what is left at a place is the statement there, and the others
module _ (c : Checking) (at number : ℕ) (ss : List Stmt) (i : ℕ) (s : Stmt) (is : s ≡ get_or ss i s) (less : i < length ss) (h : IsUnderWay c at number (body_of ss) (body_of (drop i ss))) where
  abbrev behind : Body
  behind = body_of (drop (i + 1) ss)

  here : body_of (drop i ss) ≡ stmt_then s behind
  here = stmt_at ss i s is less

  pub small_here : AreSmallTerms (stmt_then s done)
  small_here = (small_then s behind (subst AreSmallTerms here h.small)).0

  pub room_here : number + written (stmt_then s done) + written behind ≡ at + written (body_of ss)
  room_here = let a = h.count in let b = ap written here in let d = written_then s behind in omega arith

  pub failed_here : (r : Result ℕ TypeFault) (f : TypeFault) → first_fault (checks_from c number (stmt_then s done)) ≡ Some f → IsErrAnd r (λ y. y ≡ f) → BodyAnswer c at (body_of ss) r
  failed_here (Ok n) f found e = absurd e
  failed_here (Err g) f found e =
      h.faults
      ∙ ap (λ b. first_fault (checks_from c number b)) here
      ∙ ap (λ cs. first_fault cs) (checks_then c number (number + written (stmt_then s done)) s behind refl)
      ∙ front (checks_from c number (stmt_then s done)) _ f found
      ∙ ap (λ h. Some h) (sym e)

  pub one_step : (next : ℕ) → first_fault (checks_from c number (stmt_then s done)) ≡ None → next ≡ number + written (stmt_then s done) → IsUnderWay c at next (body_of ss) behind
  one_step next passed e = record {
    faults = h.faults ∙ ap (λ b. first_fault (checks_from c number b)) here ∙ ap (λ cs. first_fault cs) (checks_then c number next s behind e) ∙ past (checks_from c number (stmt_then s done)) _ passed;
    from = (let a = h.from in omega arith);
    count = (let a = room_here in omega arith);
    small = (small_then s behind (subst AreSmallTerms here h.small)).1;
  }
