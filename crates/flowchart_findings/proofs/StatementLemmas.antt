-- The findings of statements, one after the other.
use Rattle.std.proofs.Common.{◌≡◌, ℕ, ◌+◌, ◌<◌, ◌≤◌, List, [], ◌∷◌, ◌++◌, length, drop, get_or, Bool, true, false, Result, Ok, Err, refl, sym, ap, subst, ◌∙◌, Vec, Global, append_assoc, arith}
use Rattle.std.specs.Prelude.{if◌then◌else◌}
use Rattle.std.specs.declared.alloc.AllocError.{AllocError}
use Rattle.std.proofs.lemmas.List.{append-nil}
use Rattle.pap_tree.specs.declared.expression.Expr.{Expr}
use Rattle.pap_tree.specs.declared.plan.Stmt.{Stmt, Eval, If, If', Execute}
use Rattle.pap_tree.specs.Flowchart.{Body, done, body_of, body_of_row, stmt_then}
use Rattle.pap_tree.specs.Statements.{written}
use Rattle.pap_tree.proofs.Laws.{stmt_at, branch_is, written-then}
use Rattle.flowchart_findings.specs.declared.finding.Finding.{Finding}
use Rattle.flowchart_findings.specs.declared.statements.Inspection.{Inspection}
use Rattle.flowchart_findings.specs.Findings.{begins_dead}
use Rattle.flowchart_findings.specs.private.StatementViews.{AddsFindings, dead_in, dead_found, value_found, tests_found, found_in, found_inside, FindsInBody, FindsInBranches}

module _ (i : Inspection) where
  -- a statement, and those behind it
  pub found_then : (at : ℕ) (behind : Bool) (s : Stmt) (rest : Body)
      → found_in i at behind (stmt_then s rest)
      ≡ found_in i at behind (stmt_then s done) ++ found_in i (at + written (stmt_then s done)) (dead_in i at) rest
  found_then at behind (Eval x e) rest =
      ap (λ l. l ++ found_in i (at + 1) (dead_in i at) rest)
      (sym (append-nil (if dead_in i at then dead_found i at behind else value_found i x at)))
  found_then at behind (If' t m ys n zs) rest =
      let a = body_of_row ys in
      let b = body_of_row zs in
      let count : at + 1 + written a + written b ≡ at + written (stmt_then (If' t m ys n zs) done) = omega arith in
      ap (λ n. (if dead_in i at then dead_found i at behind else found_inside i at a b) ++ found_in i n (dead_in i at) rest) count
      ∙ ap (λ l. l ++ found_in i (at + written (stmt_then (If' t m ys n zs) done)) (dead_in i at) rest)
      (sym (append-nil (if dead_in i at then dead_found i at behind else found_inside i at a b)))
  found_then at behind (Execute x) rest =
      ap (λ l. l ++ found_in i (at + 1) (dead_in i at) rest)
      (sym (append-nil (if dead_in i at then dead_found i at behind else [])))

  -- some statements are left: with their findings those of all will be added
  pub record IsUnderWay (all left : Body) (at number : ℕ) (behind : Bool) (before now : List Finding) : Type 0 where
    pub added : now ++ found_in i number behind left ≡ before ++ found_in i at false all
    pub count : number + written left ≡ at + written all
    pub from : at ≤ number

  pub one_step : (ss : List Stmt) (k : ℕ) (s : Stmt) (at number next : ℕ) (behind dead : Bool) (before now then' : List Finding)
      → s ≡ get_or ss k s → k < length ss → dead ≡ dead_in i number
      → IsUnderWay (body_of ss) (body_of (drop k ss)) at number behind before now
      → AddsFindings (found_in i number behind (stmt_then s done)) now then' next (number + written (stmt_then s done))
      → IsUnderWay (body_of ss) (body_of (drop (k + 1) ss)) at next dead before then'
  one_step ss k s at number next behind dead before now then' is lt same way adds =
      let rest = body_of (drop (k + 1) ss) in
      let here = stmt_at ss k s is lt in
      let one = found_in i number behind (stmt_then s done) in
      let counted = ap written here ∙ written-then s rest in
      let count = way.count in
      let from = way.from in
      let number_is = adds.number in
      record {
        added = ap (λ l. l ++ found_in i next dead rest) adds.added
            ∙ append_assoc now one (found_in i next dead rest)
            ∙ ap (λ n. now ++ (one ++ found_in i n dead rest)) adds.number
            ∙ ap (λ d. now ++ (one ++ found_in i (number + written (stmt_then s done)) d rest)) same
            ∙ ap (λ l. now ++ l) (sym (ap (found_in i number behind) here ∙ found_then number behind s rest))
            ∙ way.added;
        count = omega (arith, counted, count, number_is);
        from = omega (arith, from, number_is);
      }

  pub all_found : (all left : Body) (at number : ℕ) (behind : Bool) (before now : List Finding) → left ≡ done
      → IsUnderWay all left at number behind before now
      → AddsFindings (found_in i at false all) before now number (at + written all)
  all_found all left at number behind before now none way =
      let ended = subst (λ l. IsUnderWay all l at number behind before now) none way in
      let count = ended.count in
      record { added = sym (append-nil now) ∙ ended.added; number = omega (arith, count) }

  -- a dead statement
  pub dead_added : (s : Stmt) (at : ℕ) (behind : Bool) → dead_in i at ≡ true
      → found_in i at behind (stmt_then s done) ≡ dead_found i at behind
  dead_added (Eval x e) at behind dead =
      append-nil (if dead_in i at then dead_found i at behind else value_found i x at)
      ∙ ap (λ b. if b then dead_found i at behind else value_found i x at) dead
  dead_added (If' t m ys n zs) at behind dead =
      append-nil (if dead_in i at then dead_found i at behind else found_inside i at (body_of_row ys) (body_of_row zs))
      ∙ ap (λ b. if b then dead_found i at behind else found_inside i at (body_of_row ys) (body_of_row zs)) dead
  dead_added (Execute x) at behind dead =
      append-nil (if dead_in i at then dead_found i at behind else [])
      ∙ ap (λ b. if b then dead_found i at behind else []) dead

  -- an EVAL that may be executed
  pub eval_added : (s : Stmt) (x : List ℕ) (e : Expr) (at : ℕ) (behind : Bool)
      → stmt_then s done ≡ stmt_then (Eval x e) done → dead_in i at ≡ false
      → found_in i at behind (stmt_then s done) ≡ value_found i x at
  eval_added s x e at behind is live =
      ap (found_in i at behind) is
      ∙ append-nil (if dead_in i at then dead_found i at behind else value_found i x at)
      ∙ ap (λ b. if b then dead_found i at behind else value_found i x at) live

  -- an EXECUTE that may be executed
  pub execute_added : (s : Stmt) (x : List ℕ) (at : ℕ) (behind : Bool)
      → stmt_then s done ≡ stmt_then (Execute x) done → dead_in i at ≡ false
      → found_in i at behind (stmt_then s done) ≡ []
  execute_added s x at behind is live =
      ap (found_in i at behind) is
      ∙ append-nil (if dead_in i at then dead_found i at behind else [])
      ∙ ap (λ b. if b then dead_found i at behind else []) live

  -- an IF that may be executed
  pub if_added : (s : Stmt) (t : Expr) (ys zs : Vec Stmt Global) (a b : List Stmt) (at : ℕ) (behind : Bool)
      → s ≡ If t ys zs → a ≡ ys.items → b ≡ zs.items → dead_in i at ≡ false
      → found_in i at behind (stmt_then s done) ≡ found_inside i at (body_of a) (body_of b)
  if_added s t ys zs a b at behind is ea eb live =
      ap (found_in i at behind) (branch_is s t ys zs a b is ea eb done)
      ∙ append-nil (if dead_in i at then dead_found i at behind else found_inside i at (body_of a) (body_of b))
      ∙ ap (λ d. if d then dead_found i at behind else found_inside i at (body_of a) (body_of b)) live

-- the number behind an IF
pub if_written : (s : Stmt) (t : Expr) (ys zs : Vec Stmt Global) (a b : List Stmt) → s ≡ If t ys zs → a ≡ ys.items → b ≡ zs.items
    → written (stmt_then s done) ≡ 1 + written (body_of a) + written (body_of b)
if_written s t ys zs a b is ea eb =
    let same = ap written (branch_is s t ys zs a b is ea eb done) in omega (arith, same)

-- ---- the parts of an IF

module _ (i : Inspection) (number second : ℕ) (a b : Body) where
  pub branches_added : (l0 l1 l2 l3 : List Finding) (n : ℕ) (r : Result ℕ AllocError) → second ≡ number + 1 + written a
      → l1 ≡ l0 ++ tests_found i number a second b
      → AddsFindings (found_in i (number + 1) false a) l1 l2 n (number + 1 + written a)
      → FindsInBody i second false b l2 l3 r → FindsInBranches i number a b l0 l3 r
  branches_added l0 l1 l2 l3 n (Ok next) is tested first h =
      let t = tests_found i number a second b in
      let x = found_in i (number + 1) false a in
      let y = found_in i second false b in
      let behind = h.number in
      record {
        added = h.added ∙ ap (λ l. l ++ y) (first.added ∙ ap (λ l. l ++ x) tested)
            ∙ append_assoc (l0 ++ t) x y ∙ append_assoc l0 t (x ++ y)
            ∙ ap (λ m. l0 ++ (tests_found i number a m b ++ (x ++ found_in i m false b))) is;
        number = omega (arith, behind, is);
      }
  branches_added l0 l1 l2 l3 n (Err e) is tested first h = tt

-- ---- the first statement of a list

pub begins_none : (dead : ℕ → Bool) (at : ℕ) (ss : List Stmt) → length ss ≡ 0 → begins_dead dead at (body_of ss) ≡ false
begins_none dead at [] none = refl
begins_none dead at (s ∷ ss) none = absurd (omega (arith, none))

begins_then : (dead : ℕ → Bool) (at : ℕ) (s : Stmt) (rest : Body) → begins_dead dead at (stmt_then s rest) ≡ dead at
begins_then dead at (Eval x e) rest = refl
begins_then dead at (If' t m ys n zs) rest = refl
begins_then dead at (Execute x) rest = refl

pub begins_some : (dead : ℕ → Bool) (at : ℕ) (ss : List Stmt) → 0 < length ss → begins_dead dead at (body_of ss) ≡ dead at
begins_some dead at [] some = absurd (omega (arith, some))
begins_some dead at (s ∷ ss) some = begins_then dead at s (body_of ss)

-- ---- a statement, by its kind

module _ (i : Inspection) (s : Stmt) (at : ℕ) (behind dead : Bool) (known : dead ≡ dead_in i at) where
  pub dead_finds : (l0 l1 : List Finding) (k : ℕ) → dead ≡ true → l1 ≡ l0 ++ dead_found i at behind → k ≡ written (stmt_then s done)
      → AddsFindings (found_in i at behind (stmt_then s done)) l0 l1 (at + k) (at + written (stmt_then s done))
  dead_finds l0 l1 k is added count = record {
    added = added ∙ ap (λ l. l0 ++ l) (sym (dead_added i s at behind (sym known ∙ is)));
    number = ap (λ n. at + n) count;
  }

  pub eval_finds : (x : List ℕ) (e : Expr) (l0 l1 : List Finding) → s ≡ Eval x e → dead ≡ false → l1 ≡ l0 ++ value_found i x at
      → AddsFindings (found_in i at behind (stmt_then s done)) l0 l1 (at + 1) (at + written (stmt_then s done))
  eval_finds x e l0 l1 is live added =
      let same = ap (λ y. stmt_then y done) is in
      record {
        added = added ∙ ap (λ l. l0 ++ l) (sym (eval_added i s x e at behind same (sym known ∙ live)));
        number = ap (λ b. at + written b) (sym same);
      }

  pub execute_finds : (x : List ℕ) (l0 : List Finding) → s ≡ Execute x → dead ≡ false
      → AddsFindings (found_in i at behind (stmt_then s done)) l0 l0 (at + 1) (at + written (stmt_then s done))
  execute_finds x l0 is live =
      let same = ap (λ y. stmt_then y done) is in
      record {
        added = sym (append-nil l0) ∙ ap (λ l. l0 ++ l) (sym (execute_added i s x at behind same (sym known ∙ live)));
        number = ap (λ b. at + written b) (sym same);
      }

  pub if_finds : (t : Expr) (ys zs : Vec Stmt Global) (a b : List Stmt) (l0 l1 : List Finding) (r : Result ℕ AllocError)
      → s ≡ If t ys zs → a ≡ ys.items → b ≡ zs.items → dead ≡ false
      → FindsInBranches i at (body_of a) (body_of b) l0 l1 r → FindsInBody i at behind (stmt_then s done) l0 l1 r
  if_finds t ys zs a b l0 l1 (Ok next) is ea eb live h =
      let count = if_written s t ys zs a b is ea eb in
      let number = h.number in
      record {
        added = h.added ∙ ap (λ l. l0 ++ l) (sym (if_added i s t ys zs a b at behind is ea eb (sym known ∙ live)));
        number = omega (arith, count, number);
      }
  if_finds t ys zs a b l0 l1 (Err e) is ea eb live h = tt
