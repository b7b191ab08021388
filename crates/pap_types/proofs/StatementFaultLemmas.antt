-- The faults of statements, one after the other.
use Rattle.std.proofs.Common.{◌≡◌, ℕ, ◌+◌, ◌<◌, ◌≤◌, List, [], ◌∷◌, ◌++◌, length, drop, get_or, Bool, true, false, sym, ap, ap₂, subst, ◌∙◌, append-nil, append_assoc, arith}
use Rattle.std.specs.Prelude.{All, if◌then◌else◌}
use Rattle.std.specs.List.{list_any}
use Rattle.std.specs.Str.{bytes_eq}
use Rattle.std.proofs.lemmas.List.{drop_all}
use Rattle.std.proofs.lemmas.List.Elements.{All-head, All-tail}
use Rattle.pap_tree.proofs.Laws.{stmt_at}
use Rattle.pap_tree.specs.declared.place.Place.{Place}
use Rattle.pap_tree.specs.declared.plan.Stmt.{Stmt, Eval, If', Execute}
use Rattle.pap_tree.specs.Term.{Term, term_of}
use Rattle.pap_tree.specs.Flowchart.{Body, done, branch, execute, Routine, flowchart_of, stmt_then, body_of, body_of_row}
use Rattle.pap_tree.specs.Names.{main_name}
use Rattle.pap_tree.specs.Statements.{written}
use Rattle.pap_types.specs.declared.fault.TypeFault.{TypeFault}
use Rattle.pap_types.specs.declared.fault.TypeFault.TheVariants as faults
use Rattle.pap_types.specs.declared.scope.Scope.{Scope as InScope}
use Rattle.pap_types.specs.declared.statements.Checking.{Checking}
use Rattle.pap_types.specs.Checks.{check}
use Rattle.pap_types.specs.Routines.{method_names}
use Rattle.pap_types.specs.AllFaults.{own_fault, is_twice, statement_faults}
use Rattle.pap_types.specs.Counts.{AreSmallTerms, methods_written}
use Rattle.pap_types.specs.private.FaultViews.{faults_from, method_faults_in, other_faults_in}
use Rattle.pap_types.specs.private.StatementViews.{place_in, statement_of, eval_checks_in, test_checks_in, execute_checks_in}
use Rattle.pap_types.proofs.BodyLemmas.{four, written_then, small_then, is_named}

-- the faults of a statement, and those of the statements behind it
faults_then : (c : Checking) (at next : ℕ) (s : Stmt) (rest : Body) → next ≡ at + written (stmt_then s done)
    → faults_from c at (stmt_then s rest) ≡ faults_from c at (stmt_then s done) ++ faults_from c next rest
faults_then c at next (Eval x e) rest is =
    let same : at + 1 ≡ next = omega arith in
    let own = own_fault (eval_checks_in (statement_of c at) x (term_of e)) in
    ap (λ n. own ++ faults_from c n rest) same ∙ ap (λ fs. fs ++ faults_from c next rest) (sym (append-nil own))
faults_then c at next (If' t m ys n zs) rest is =
    let a = body_of_row ys in
    let b = body_of_row zs in
    let same : at + 1 + written a + written b ≡ next = omega arith in
    let own = own_fault (test_checks_in (statement_of c at) (term_of t)) in
    ap (λ n. own ++ (faults_from c (at + 1) a ++ (faults_from c (at + 1 + written a) b ++ faults_from c n rest))) same
    ∙ four own (faults_from c (at + 1) a) (faults_from c (at + 1 + written a) b) (faults_from c next rest)
faults_then c at next (Execute x) rest is =
    let same : at + 1 ≡ next = omega arith in
    let own = own_fault (execute_checks_in (statement_of c at) x) in
    ap (λ n. own ++ faults_from c n rest) same ∙ ap (λ fs. fs ++ faults_from c next rest) (sym (append-nil own))

-- the faults of a branch: that of its test, then those of its two lists
pub branch_found : (c : Checking) (at next : ℕ) (t : Term) (a b : Body) (before tested first after : List TypeFault)
    → tested ≡ before ++ own_fault (test_checks_in (statement_of c at) t) → first ≡ tested ++ faults_from c (at + 1) a → next ≡ at + 1 + written a
    → after ≡ first ++ faults_from c next b → after ≡ before ++ faults_from c at (branch t a b done)
branch_found c at next t a b before tested first after test in_yes count in_no =
    let own = own_fault (test_checks_in (statement_of c at) t) in
    let in_first = faults_from c (at + 1) a in
    let in_second = faults_from c (at + 1 + written a) b in
    in_no
    ∙ ap₂ (λ l n. l ++ faults_from c n b) (in_yes ∙ ap (λ l. l ++ in_first) test) count
    ∙ append_assoc (before ++ own) in_first in_second
    ∙ append_assoc before own (in_first ++ in_second)
    ∙ ap (λ l. before ++ (own ++ (in_first ++ l))) (sym (append-nil in_second))

-- the fault of an execution, whose method is known or not
pub execution_found : (c : Checking) (at : ℕ) (x : List ℕ) (names : List (List ℕ)) (known : Bool) (place : Place) (before after : List TypeFault)
    → names ≡ method_names (flowchart_of c.scope.plan.now).methods → known ≡ list_any (bytes_eq x) names → place ≡ place_in (statement_of c at) 0
    → after ≡ before ++ own_fault (check known (faults.NoMethod place) ∷ []) → after ≡ before ++ faults_from c at (execute x done)
execution_found c at x names known place before after are is there kept =
    let ms = (flowchart_of c.scope.plan.now).methods in
    kept
    ∙ ap₂ (λ k p. before ++ own_fault (check k (faults.NoMethod p) ∷ [])) (is ∙ ap (list_any (bytes_eq x)) are ∙ is_named ms x) there
    ∙ ap (λ l. before ++ l) (sym (append-nil (own_fault (execute_checks_in (statement_of c at) x))))

-- ---- a list of statements

-- what is found in the statements that are left is, behind what was found, what is found in all; and their expressions are small
pub record IsFoundSoFar (c : Checking) (at number : ℕ) (before found : List TypeFault) (all left : Body) : Type 0 where
  pub faults : found ++ faults_from c number left ≡ before ++ faults_from c at all
  pub from : at ≤ number
  pub count : number + written left ≡ at + written all
  pub small : AreSmallTerms left

module _ (c : Checking) (at number : ℕ) (before found : List TypeFault) (ss : List Stmt) (i : ℕ) (h : IsFoundSoFar c at number before found (body_of ss) (body_of (drop i ss))) where
  -- the statement at a place
  module _ (s : Stmt) (is : s ≡ get_or ss i s) (less : i < length ss) where
    abbrev behind : Body
    behind = body_of (drop (i + 1) ss)

    here : body_of (drop i ss) ≡ stmt_then s behind
    here = stmt_at ss i s is less

    pub small_statement : AreSmallTerms (stmt_then s done)
    small_statement = (small_then s behind (subst AreSmallTerms here h.small)).0

    pub room_statement : number + written (stmt_then s done) + written behind ≡ at + written (body_of ss)
    room_statement = let a = h.count in let b = ap written here in let d = written_then s behind in omega arith

    pub next_statement : (next : ℕ) (after : List TypeFault) → next ≡ number + written (stmt_then s done)
        → after ≡ found ++ faults_from c number (stmt_then s done) → IsFoundSoFar c at next before after (body_of ss) behind
    next_statement next after e kept = record {
      faults =
          ap (λ l. l ++ faults_from c next behind) kept
          ∙ append_assoc found (faults_from c number (stmt_then s done)) (faults_from c next behind)
          ∙ ap (λ l. found ++ l) (sym (ap (faults_from c number) here ∙ faults_then c number next s behind e))
          ∙ h.faults;
      from = (let a = h.from in omega arith);
      count = (let a = room_statement in omega arith);
      small = (small_then s behind (subst AreSmallTerms here h.small)).1;
    }

  -- no statement is left
  module _ (past : length ss ≤ i) where
    none_left : body_of (drop i ss) ≡ done
    none_left = ap body_of (drop_all i ss past)

    pub all_statements : found ≡ before ++ faults_from c at (body_of ss)
    all_statements = sym (append-nil found) ∙ ap (λ b. found ++ faults_from c number b) (sym none_left) ∙ h.faults

    pub last_number : number ≡ at + written (body_of ss)
    last_number = let a = h.count in let b = ap written none_left in omega arith

-- ---- methods

-- the same of the methods that are left
pub record AreFoundSoFar (s : InScope) (before found : List TypeFault) (all left : List Routine) : Type 0 where
  pub faults : found ++ other_faults_in s left ≡ before ++ other_faults_in s all
  pub small : All (λ m. AreSmallTerms m.body) left
  pub room : methods_written left < 4294967296

module _ (s : InScope) (before found : List TypeFault) (all left behind : List Routine) (m : Routine) (is : left ≡ m ∷ behind) (h : AreFoundSoFar s before found all left) where
  pub small_method : AreSmallTerms m.body
  small_method = All-head (λ (m : Routine). AreSmallTerms m.body) m behind (subst (All (λ (m : Routine). AreSmallTerms m.body)) is h.small)

  pub room_method : written m.body < 4294967296
  room_method = let a = h.room in let b = ap methods_written is in omega arith

  pub next_method : (after : List TypeFault) → after ≡ found ++ method_faults_in s m.name m.body → AreFoundSoFar s before after all behind
  next_method after kept = record {
    faults =
        ap (λ l. l ++ other_faults_in s behind) kept
        ∙ append_assoc found (method_faults_in s m.name m.body) (other_faults_in s behind)
        ∙ ap (λ l. found ++ l) (sym (ap (other_faults_in s) is))
        ∙ h.faults;
    small = All-tail (λ (m : Routine). AreSmallTerms m.body) m behind (subst (All (λ (m : Routine). AreSmallTerms m.body)) is h.small);
    room = (let a = h.room in let b = ap methods_written is in omega arith);
  }

-- no method is left
pub all_methods : (s : InScope) (before found : List TypeFault) (all left : List Routine) → left ≡ [] → AreFoundSoFar s before found all left
    → found ≡ before ++ other_faults_in s all
all_methods s before found all left none h = sym (append-nil found) ∙ ap (λ l. found ++ other_faults_in s l) (sym none) ∙ h.faults

-- ---- the statements of a plan

-- MAIN, then the others
pub all_found : (s : InScope) (name : List ℕ) (main : List Stmt) (ms : List Routine) (before first after : List TypeFault) → name ≡ main_name
    → main ≡ s.plan.now.main.items → ms ≡ (flowchart_of s.plan.now).methods → first ≡ before ++ method_faults_in s name (body_of main)
    → after ≡ first ++ other_faults_in s ms → list_any is_twice before ≡ false
    → after ≡ before ++ (if list_any is_twice before then [] else statement_faults (flowchart_of s.plan.now))
all_found s name main ms before first after named same are in_main in_others free =
    in_others
    ∙ ap₂ (λ l k. l ++ other_faults_in s k) (in_main ∙ ap₂ (λ n b. before ++ method_faults_in s n (body_of b)) named same) are
    ∙ append_assoc before (method_faults_in s main_name (flowchart_of s.plan.now).main) (other_faults_in s (flowchart_of s.plan.now).methods)
    ∙ ap (λ (b : Bool). before ++ (if b then [] else statement_faults (flowchart_of s.plan.now))) (sym free)

-- no statement is looked at where a name stands twice
pub none_found : (s : InScope) (before : List TypeFault) → list_any is_twice before ≡ true
    → before ≡ before ++ (if list_any is_twice before then [] else statement_faults (flowchart_of s.plan.now))
none_found s before twice =
    sym (append-nil before) ∙ ap (λ (b : Bool). before ++ (if b then [] else statement_faults (flowchart_of s.plan.now))) (sym twice)
