-- The names of statements, as they are added one after the other.
use Rattle.std.proofs.Common.{◌≡◌, ℕ, ◌+◌, ◌<◌, List, [], ◌∷◌, ◌++◌, length, drop, get_or, refl, sym, ap, subst, ◌∙◌, Vec, Global, append_assoc}
use Rattle.std.proofs.lemmas.List.{append-nil}
use Rattle.pap_tree.specs.declared.expression.Expr.{Expr}
use Rattle.pap_tree.specs.declared.plan.Stmt.{Stmt, Eval, If, If', Execute}
use Rattle.pap_tree.specs.Term.{term_of}
use Rattle.pap_tree.specs.Flowchart.{Body, done, body_of, body_of_row, stmt_then}
use Rattle.pap_tree.proofs.Laws.{stmt_at, branch_is}
use Rattle.flowchart_findings.specs.declared.uses.Uses.{Uses}
use Rattle.flowchart_findings.specs.Uses.{named_in, read_in, assigned_in}
use Rattle.flowchart_findings.specs.private.UseViews.{AddsUses}

regroup : (t a b r : List (List ℕ)) → t ++ (a ++ (b ++ r)) ≡ (t ++ (a ++ (b ++ []))) ++ r
regroup t a b r =
    ap (λ l. t ++ (a ++ (l ++ r))) (sym (append-nil b))
    ∙ ap (λ l. t ++ l) (sym (append_assoc a (b ++ []) r))
    ∙ sym (append_assoc t (a ++ (b ++ [])) r)

regroup_two : (a b r : List (List ℕ)) → a ++ (b ++ r) ≡ (a ++ (b ++ [])) ++ r
regroup_two a b r = ap (λ l. a ++ (l ++ r)) (sym (append-nil b)) ∙ sym (append_assoc a (b ++ []) r)

read_then : (s : Stmt) (rest : Body) → read_in (stmt_then s rest) ≡ read_in (stmt_then s done) ++ read_in rest
read_then (Eval x e) rest = ap (λ l. l ++ read_in rest) (sym (append-nil (named_in (term_of e))))
read_then (If' t m ys n zs) rest = regroup (named_in (term_of t)) (read_in (body_of_row ys)) (read_in (body_of_row zs)) (read_in rest)
read_then (Execute x) rest = refl

assigned_then : (s : Stmt) (rest : Body) → assigned_in (stmt_then s rest) ≡ assigned_in (stmt_then s done) ++ assigned_in rest
assigned_then (Eval x e) rest = refl
assigned_then (If' t m ys n zs) rest = regroup_two (assigned_in (body_of_row ys)) (assigned_in (body_of_row zs)) (assigned_in rest)
assigned_then (Execute x) rest = refl

-- with the names of what is left, those of all will be added
pub record AreLeft (all rest : Body) (before now : Uses) : Type 0 where
  pub read : now.read.items ++ read_in rest ≡ before.read.items ++ read_in all
  pub assigned : now.assigned.items ++ assigned_in rest ≡ before.assigned.items ++ assigned_in all

one_added : (rest one whole left before now next : List (List ℕ)) → left ≡ one ++ rest
    → now ++ left ≡ before ++ whole → next ≡ now ++ one → next ++ rest ≡ before ++ whole
one_added rest one whole left before now next parts so_far adds =
    ap (λ l. l ++ rest) adds ∙ append_assoc now one rest ∙ ap (λ l. now ++ l) (sym parts) ∙ so_far

pub one_more : (all : Body) (ss : List Stmt) (i : ℕ) (s : Stmt) (before now next : Uses)
    → s ≡ get_or ss i s → i < length ss → AreLeft all (body_of (drop i ss)) before now
    → AddsUses (stmt_then s done) now next → AreLeft all (body_of (drop (i + 1) ss)) before next
one_more all ss i s before now next is lt left adds =
    let rest = body_of (drop (i + 1) ss) in
    let here = stmt_at ss i s is lt in
    record {
      read = one_added (read_in rest) (read_in (stmt_then s done)) (read_in all) (read_in (body_of (drop i ss)))
          before.read.items now.read.items next.read.items (ap read_in here ∙ read_then s rest) left.read adds.read;
      assigned = one_added (assigned_in rest) (assigned_in (stmt_then s done)) (assigned_in all)
          (assigned_in (body_of (drop i ss))) before.assigned.items now.assigned.items next.assigned.items
          (ap assigned_in here ∙ assigned_then s rest) left.assigned adds.assigned;
    }

pub all_added : (all rest : Body) (before now : Uses) → rest ≡ done → AreLeft all rest before now → AddsUses all before now
all_added all rest before now none left =
    let ended = subst (λ r. AreLeft all r before now) none left in
    record {
      read = sym (append-nil now.read.items) ∙ ended.read;
      assigned = sym (append-nil now.assigned.items) ∙ ended.assigned;
    }

-- the parts of an IF, one after the other: of its test, and of its two lists
pub if_added : (s : Stmt) (t : Expr) (ys zs : Vec Stmt Global) (a b : List Stmt) (u0 u1 u2 u3 : Uses)
    → s ≡ If t ys zs → a ≡ ys.items → b ≡ zs.items
    → u1.read.items ≡ u0.read.items ++ named_in (term_of t) → u1.assigned.items ≡ u0.assigned.items
    → AddsUses (body_of a) u1 u2 → AddsUses (body_of b) u2 u3 → AddsUses (stmt_then s done) u0 u3
if_added s t ys zs a b u0 u1 u2 u3 is ea eb tested kept first second =
    let body = branch_is s t ys zs a b is ea eb done in
    let names = named_in (term_of t) in
    let x = read_in (body_of a) in
    let y = read_in (body_of b) in
    let p = assigned_in (body_of a) in
    let q = assigned_in (body_of b) in
    record {
      read = second.read ∙ ap (λ l. l ++ y) (first.read ∙ ap (λ l. l ++ x) tested)
          ∙ append_assoc (u0.read.items ++ names) x y
          ∙ append_assoc u0.read.items names (x ++ y)
          ∙ ap (λ l. u0.read.items ++ (names ++ (x ++ l))) (sym (append-nil y))
          ∙ ap (λ l. u0.read.items ++ read_in l) (sym body);
      assigned = second.assigned ∙ ap (λ l. l ++ q) (first.assigned ∙ ap (λ l. l ++ p) kept)
          ∙ append_assoc u0.assigned.items p q
          ∙ ap (λ l. u0.assigned.items ++ (p ++ l)) (sym (append-nil q))
          ∙ ap (λ l. u0.assigned.items ++ assigned_in l) (sym body);
    }

pub eval_added : (s : Stmt) (x : List ℕ) (e : Expr) (u0 u1 : Uses) → stmt_then s done ≡ stmt_then (Eval x e) done
    → u1.read.items ≡ u0.read.items ++ named_in (term_of e) → u1.assigned.items ≡ u0.assigned.items ++ (x ∷ [])
    → AddsUses (stmt_then s done) u0 u1
eval_added s x e u0 u1 is read assigned = record {
  read = read ∙ ap (λ l. u0.read.items ++ l) (sym (append-nil (named_in (term_of e)))) ∙ ap (λ b. u0.read.items ++ read_in b) (sym is);
  assigned = assigned ∙ ap (λ b. u0.assigned.items ++ assigned_in b) (sym is);
}
