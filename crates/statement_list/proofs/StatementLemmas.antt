-- The statements of a list, as they are added one after the other.
use Rattle.std.proofs.Common.{◌≡◌, ℕ, ◌+◌, ◌<◌, List, [], ◌∷◌, ◌++◌, length, drop, get_or, refl, sym, ap, subst, ◌∙◌, Vec, Global, append_assoc}
use Rattle.std.proofs.lemmas.List.{append-nil}
use Rattle.pap_tree.specs.declared.expression.Expr.{Expr}
use Rattle.pap_tree.specs.declared.plan.Stmt.{Stmt, Eval, If, If', Execute}
use Rattle.pap_tree.specs.Term.{term_of}
use Rattle.pap_tree.specs.Flowchart.{Body, done, body_of, body_of_row, stmt_then}
use Rattle.pap_tree.proofs.Laws.{stmt_then-If, stmt_at, branch_is}
use Rattle.statement_list.specs.Statements.{Listed, listed_test, listed_assignment, listed_call, listed_body}
use Rattle.statement_list.specs.private.StatementViews.{AddsStatements}

regroup : (t : Listed) (a b r : List Listed) → t ∷ (a ++ (b ++ r)) ≡ (t ∷ (a ++ (b ++ []))) ++ r
regroup t a b r = ap (λ l. t ∷ l) (ap (λ l. a ++ (l ++ r)) (sym (append-nil b)) ∙ sym (append_assoc a (b ++ []) r))

statements-then : (s : Stmt) (rest : Body)
    → listed_body (stmt_then s rest) ≡ listed_body (stmt_then s done) ++ listed_body rest
statements-then (Eval x e) rest = refl
statements-then (If' t m ys n zs) rest =
    regroup (listed_test (term_of t)) (listed_body (body_of_row ys)) (listed_body (body_of_row zs)) (listed_body rest)
statements-then (Execute x) rest = refl

statements_at : (ss : List Stmt) (i : ℕ) (s : Stmt) → s ≡ get_or ss i s → i < length ss
    → listed_body (body_of (drop i ss)) ≡ listed_body (stmt_then s done) ++ listed_body (body_of (drop (i + 1) ss))
statements_at ss i s is lt = ap listed_body (stmt_at ss i s is lt) ∙ statements-then s (body_of (drop (i + 1) ss))

-- with the statements of what is left, those of all will be added
abbrev pub IsLeft : Body → Body → List Listed → List Listed → Type 0
IsLeft all rest before now = now ++ listed_body rest ≡ before ++ listed_body all

pub one_more : (all : Body) (ss : List Stmt) (i : ℕ) (s : Stmt) (before now next : List Listed)
    → s ≡ get_or ss i s → i < length ss → IsLeft all (body_of (drop i ss)) before now
    → AddsStatements (stmt_then s done) now next → IsLeft all (body_of (drop (i + 1) ss)) before next
one_more all ss i s before now next is lt left adds =
    let rest = body_of (drop (i + 1) ss) in
    ap (λ l. l ++ listed_body rest) adds
    ∙ append_assoc now (listed_body (stmt_then s done)) (listed_body rest)
    ∙ ap (λ l. now ++ l) (sym (statements_at ss i s is lt))
    ∙ left

pub all_added : (all rest : Body) (before now : List Listed) → rest ≡ done → IsLeft all rest before now
    → AddsStatements all before now
all_added all rest before now none left =
    sym (append-nil now) ∙ subst (λ r. IsLeft all r before now) none left

pub if_added : (s : Stmt) (t : Expr) (ys zs : Vec Stmt Global) (a b : List Stmt) (one : Listed)
    (l0 l1 l2 l3 : List Listed) → s ≡ If t ys zs → a ≡ ys.items → b ≡ zs.items → one ≡ listed_test (term_of t)
    → l1 ≡ l0 ++ (one ∷ []) → AddsStatements (body_of a) l1 l2 → AddsStatements (body_of b) l2 l3
    → AddsStatements (stmt_then s done) l0 l3
if_added s t ys zs a b one l0 l1 l2 l3 is ea eb same e1 e2 e3 =
    let body = branch_is s t ys zs a b is ea eb done in
    let x = listed_body (body_of a) in
    let y = listed_body (body_of b) in
    e3 ∙ ap (λ l. l ++ y) (e2 ∙ ap (λ l. l ++ x) (e1 ∙ ap (λ o. l0 ++ (o ∷ [])) same))
    ∙ append_assoc (l0 ++ (listed_test (term_of t) ∷ [])) x y
    ∙ append_assoc l0 (listed_test (term_of t) ∷ []) (x ++ y)
    ∙ ap (λ l. l0 ++ (listed_test (term_of t) ∷ (x ++ l))) (sym (append-nil y))
    ∙ ap (λ l. l0 ++ listed_body l) (sym body)

pub eval_added : (s : Stmt) (x : List ℕ) (e : Expr) (one : Listed) (before after : List Listed)
    → stmt_then s done ≡ stmt_then (Eval x e) done → one ≡ listed_assignment x (term_of e)
    → after ≡ before ++ (one ∷ []) → AddsStatements (stmt_then s done) before after
eval_added s x e one before after is same adds =
    adds ∙ ap (λ o. before ++ (o ∷ [])) same ∙ ap (λ l. before ++ listed_body l) (sym is)

pub execute_added : (s : Stmt) (x : List ℕ) (one : Listed) (before after : List Listed)
    → stmt_then s done ≡ stmt_then (Execute x) done → one ≡ listed_call x
    → after ≡ before ++ (one ∷ []) → AddsStatements (stmt_then s done) before after
execute_added s x one before after is same adds =
    adds ∙ ap (λ o. before ++ (o ∷ [])) same ∙ ap (λ l. before ++ listed_body l) (sym is)
