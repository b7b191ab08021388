-- The lines of a list of statements, as they are added one after the other.
use Rattle.std.proofs.Common.{◌≡◌, ℕ, ◌+◌, ◌<◌, List, [], ◌∷◌, ◌++◌, length, drop, get_or, refl, sym, ap, subst, ◌∙◌, arith, Vec, Global, append_assoc, map}
use Rattle.std.specs.Prelude.{codes, true, false, ◌==◌}
use Rattle.std.proofs.lemmas.List.{append-nil}
use Rattle.std.proofs.lemmas.Bool.{eqb-true}
use Rattle.pap_tree.specs.declared.expression.Expr.{Expr}
use Rattle.pap_tree.specs.declared.plan.Stmt.{Stmt, Eval, If, If', Execute}
use Rattle.pap_tree.specs.Term.{term_of}
use Rattle.pap_tree.specs.Spelling.{spelling}
use Rattle.pap_tree.specs.Flowchart.{Body, done, body_of, body_of_row, stmt_then, flowchart_of}
use Rattle.pap_tree.specs.Statements.{written}
use Rattle.pap_tree.proofs.Laws.{stmt_then-If, stmt_at, branch_is}
use Rattle.pap_tree.specs.Declarations.{declaration_of}
use Rattle.pap_tree.specs.declared.declaration.Declared.{Declared}
use Rattle.pap_tree.specs.declared.plan.PlanText.{PlanText}
use Rattle.flowchart_comparison.specs.Outlines.{TextLine, TextItem, statement, mark, else_mark, outline_lines, declared_item, declared_items}
use Rattle.flowchart_comparison.specs.private.OutlineViews.{AddsLines, AddsOne, AddsMark, AddsElse}

-- ---- how many statements there are

written-then : (s : Stmt) (rest : Body) → written (stmt_then s rest) ≡ written (stmt_then s done) + written rest
written-then (Eval x e) rest = omega arith
written-then (If' t m ys n zs) rest = omega arith
written-then (Execute x) rest = omega arith

pub written_at : (ss : List Stmt) (i : ℕ) (s : Stmt) → s ≡ get_or ss i s → i < length ss
    → written (body_of (drop i ss)) ≡ written (stmt_then s done) + written (body_of (drop (i + 1) ss))
written_at ss i s is lt = ap written (stmt_at ss i s is lt) ∙ written-then s (body_of (drop (i + 1) ss))

pub written_if : (s : Stmt) (t : Expr) (ys zs : Vec Stmt Global) → s ≡ If t ys zs
    → written (stmt_then s done) ≡ 1 + written (body_of ys.items) + written (body_of zs.items)
written_if s t ys zs is = ap (λ x. written (stmt_then x done)) is ∙ ap written (stmt_then-If t ys zs done) ∙ omega arith

-- ---- the lines of a statement and of what follows it

regroup : (a e b r : List TextLine) (m : TextLine) → a ++ (e ++ (b ++ (m ∷ r))) ≡ (a ++ (e ++ (b ++ (m ∷ [])))) ++ r
regroup a e b r m =
    sym (append_assoc a (e ++ (b ++ (m ∷ []))) r
    ∙ ap (λ l. a ++ l) (append_assoc e (b ++ (m ∷ [])) r ∙ ap (λ l. e ++ l) (append_assoc b (m ∷ []) r)))

-- the lines of an IF, of its parts
abbrev if_lines : ℕ → ℕ → List ℕ → Body → Body → Body → List TextLine
if_lines at behind test a b rest =
    statement at test ∷ (outline_lines (at + 1) a ++ (else_mark b ++ (outline_lines (at + 1 + written a) b
    ++ (mark (codes "END IF") ∷ outline_lines behind rest))))

if-then : (at n : ℕ) (test : List ℕ) (a b rest : Body) → n ≡ at + 1 + written a + written b
    → if_lines at (at + 1 + written a + written b) test a b rest ≡ if_lines at (at + 1 + written a + written b) test a b done ++ outline_lines n rest
if-then at n test a b rest e =
    subst (λ k. if_lines at (at + 1 + written a + written b) test a b rest ≡ if_lines at (at + 1 + written a + written b) test a b done ++ outline_lines k rest) (sym e)
    (ap (λ l. statement at test ∷ l)
    (regroup (outline_lines (at + 1) a) (else_mark b) (outline_lines (at + 1 + written a) b)
    (outline_lines (at + 1 + written a + written b) rest) (mark (codes "END IF"))))

lines-then : (at : ℕ) (s : Stmt) (rest : Body)
    → outline_lines at (stmt_then s rest) ≡ outline_lines at (stmt_then s done) ++ outline_lines (at + written (stmt_then s done)) rest
lines-then at (Eval x e) rest = refl
lines-then at (If' t m ys n zs) rest =
    if-then at (at + (1 + written (body_of_row ys) + written (body_of_row zs) + 0)) (codes "IF " ++ spelling (term_of t))
    (body_of_row ys) (body_of_row zs) rest (omega arith)
lines-then at (Execute x) rest = refl

lines_at : (at : ℕ) (ss : List Stmt) (i : ℕ) (s : Stmt) → s ≡ get_or ss i s → i < length ss
    → outline_lines at (body_of (drop i ss))
    ≡ outline_lines at (stmt_then s done) ++ outline_lines (at + written (stmt_then s done)) (body_of (drop (i + 1) ss))
lines_at at ss i s is lt = ap (outline_lines at) (stmt_at ss i s is lt) ∙ lines-then at s (body_of (drop (i + 1) ss))

-- ---- a list, as far as its lines are added

-- with the lines of what is left, those of all statements will be added
pub record IsLeft (all rest : Body) (first next : ℕ) (before lines : List TextLine) : Type 0 where
  pub counted : next + written rest ≡ first + written all
  pub added : lines ++ outline_lines next rest ≡ before ++ outline_lines first all

pub one_more : (all : Body) (ss : List Stmt) (i : ℕ) (s : Stmt) (first next next' : ℕ) (before lines lines' : List TextLine)
    → s ≡ get_or ss i s → i < length ss → IsLeft all (body_of (drop i ss)) first next before lines
    → AddsLines (stmt_then s done) next next' lines lines'
    → IsLeft all (body_of (drop (i + 1) ss)) first next' before lines'
one_more all ss i s first next next' before lines lines' is lt left adds =
    let w = written_at ss i s is lt in
    let rest = body_of (drop (i + 1) ss) in
    record {
      counted = omega (arith, w, left.counted, adds.counted);
      added = ap (λ l. l ++ outline_lines next' rest) adds.added
          ∙ append_assoc lines (outline_lines next (stmt_then s done)) (outline_lines next' rest)
          ∙ ap (λ n. lines ++ (outline_lines next (stmt_then s done) ++ outline_lines n rest)) adds.counted
          ∙ ap (λ l. lines ++ l) (sym (lines_at next ss i s is lt))
          ∙ left.added;
    }

pub all_added : (all rest : Body) (first next : ℕ) (before lines : List TextLine) → rest ≡ done
    → IsLeft all rest first next before lines → AddsLines all first next before lines
all_added all rest first next before lines none left =
    let k = subst (λ r. IsLeft all r first next before lines) none left in
    let c : next + 0 ≡ first + written all = k.counted in
    record {
      counted = omega (arith, c);
      added = sym (append-nil lines) ∙ k.added;
    }

-- ---- ELSE

pub else_none : (ss : List Stmt) (n : ℕ) (l : List TextLine) → (length ss == 0) ≡ true → AddsElse (body_of ss) n n l l
else_none [] n l e = record { counted = refl; added = sym (append-nil l) }
else_none (s ∷ ss) n l e = let z = eqb-true (length (s ∷ ss)) 0 e in absurd (omega (arith, z))

pub else_some : (ss : List Stmt) (n n' : ℕ) (l l' : List TextLine) → (length ss == 0) ≡ false
    → AddsMark (codes "ELSE") n n' l l' → AddsElse (body_of ss) n n' l l'
else_some [] n n' l l' e adds = absurd cc
else_some (Eval x v ∷ ss) n n' l l' e adds = record { counted = adds.counted; added = adds.added }
else_some (If' t m ys k zs ∷ ss) n n' l l' e adds = record { counted = adds.counted; added = adds.added }
else_some (Execute x ∷ ss) n n' l l' e adds = record { counted = adds.counted; added = adds.added }

-- ---- an IF

in_turn : (l0 l1 l2 l3 l4 l5 a b c : List TextLine) (s m : TextLine) → l1 ≡ l0 ++ (s ∷ []) → l2 ≡ l1 ++ a → l3 ≡ l2 ++ b
    → l4 ≡ l3 ++ c → l5 ≡ l4 ++ (m ∷ []) → l5 ≡ l0 ++ (s ∷ (a ++ (b ++ (c ++ (m ∷ [])))))
in_turn l0 l1 l2 l3 l4 l5 a b c s m e1 e2 e3 e4 e5 =
    e5
    ∙ ap (λ l. l ++ (m ∷ [])) (e4 ∙ ap (λ l. l ++ c) (e3 ∙ ap (λ l. l ++ b) (e2 ∙ ap (λ l. l ++ a) e1)))
    ∙ simp append_assoc

pub if_added : (s : Stmt) (t : Expr) (ys zs : Vec Stmt Global) (a b b' : List Stmt) (text : List ℕ)
    (n0 n1 n2 n3 n4 n5 : ℕ) (l0 l1 l2 l3 l4 l5 : List TextLine)
    → s ≡ If t ys zs → a ≡ ys.items → b ≡ zs.items → b' ≡ zs.items → text ≡ codes "IF " ++ spelling (term_of t)
    → AddsOne text n0 n1 l0 l1 → AddsLines (body_of a) n1 n2 l1 l2 → AddsElse (body_of b') n2 n3 l2 l3
    → AddsLines (body_of b) n3 n4 l3 l4 → AddsMark (codes "END IF") n4 n5 l4 l5
    → AddsLines (stmt_then s done) n0 n5 l0 l5
if_added s t ys zs a b b' text n0 n1 n2 n3 n4 n5 l0 l1 l2 l3 l4 l5 is ea eb eb' same one first none second end =
    let body = branch_is s t ys zs a b is ea eb done in
    let at_b : n3 ≡ n0 + 1 + written (body_of a) = omega (arith, one.counted, first.counted, none.counted) in
    let else_is : else_mark (body_of b') ≡ else_mark (body_of b) = ap (λ l. else_mark (body_of l)) (eb' ∙ sym eb) in
    let total : written (stmt_then s done) ≡ 1 + written (body_of a) + written (body_of b) + 0 = ap written body in
    record {
      counted = omega (arith, one.counted, first.counted, none.counted, second.counted, end.counted, total);
      added =
          in_turn l0 l1 l2 l3 l4 l5 (outline_lines (n0 + 1) (body_of a)) (else_mark (body_of b))
          (outline_lines (n0 + 1 + written (body_of a)) (body_of b)) (statement n0 (codes "IF " ++ spelling (term_of t)))
          (mark (codes "END IF"))
          (one.added ∙ ap (λ x. l0 ++ (statement n0 x ∷ [])) same)
          (first.added ∙ ap (λ n. l1 ++ outline_lines n (body_of a)) one.counted)
          (none.added ∙ ap (λ l. l2 ++ l) else_is)
          (second.added ∙ ap (λ n. l3 ++ outline_lines n (body_of b)) at_b)
          end.added
          ∙ ap (λ x. l0 ++ outline_lines n0 x) (sym body);
    }

-- ---- one statement

pub eval_added : (s : Stmt) (x : List ℕ) (e : Expr) (text : List ℕ) (next next' : ℕ) (lines lines' : List TextLine)
    → stmt_then s done ≡ stmt_then (Eval x e) done → text ≡ x ++ (codes " = " ++ spelling (term_of e))
    → AddsOne text next next' lines lines' → AddsLines (stmt_then s done) next next' lines lines'
eval_added s x e text next next' lines lines' is same adds =
    subst (λ b. AddsLines b next next' lines lines') (sym is)
    (record { counted = adds.counted; added = adds.added ∙ ap (λ t. lines ++ (statement next t ∷ [])) same })

pub execute_added : (s : Stmt) (x : List ℕ) (text : List ℕ) (next next' : ℕ) (lines lines' : List TextLine)
    → stmt_then s done ≡ stmt_then (Execute x) done → text ≡ codes "EXECUTE " ++ x
    → AddsOne text next next' lines lines' → AddsLines (stmt_then s done) next next' lines lines'
execute_added s x text next next' lines lines' is same adds =
    subst (λ b. AddsLines b next next' lines lines') (sym is)
    (record { counted = adds.counted; added = adds.added ∙ ap (λ t. lines ++ (statement next t ∷ [])) same })

-- ---- all declarations

pub items_in_turn : (p : PlanText) (a0 a1 a2 a3 a4 : List TextItem) (i o n k : List Declared) → a0 ≡ []
    → i ≡ p.inputs.items → o ≡ p.outputs.items → n ≡ p.internals.items → k ≡ p.constants.items
    → a1 ≡ a0 ++ map (declared_item (codes "INPUT")) (map declaration_of i)
    → a2 ≡ a1 ++ map (declared_item (codes "OUTPUT")) (map declaration_of o)
    → a3 ≡ a2 ++ map (declared_item (codes "INTERNAL")) (map declaration_of n)
    → a4 ≡ a3 ++ map (declared_item (codes "CONSTANT")) (map declaration_of k)
    → a4 ≡ declared_items (flowchart_of p)
items_in_turn p a0 a1 a2 a3 a4 i o n k e0 ei eo en ek e1 e2 e3 e4 =
    let g = λ (group : List ℕ) (ds : List Declared). map (declared_item group) (map declaration_of ds) in
    parts a0 a1 a2 a3 a4 (g (codes "INPUT") p.inputs.items) (g (codes "OUTPUT") p.outputs.items)
    (g (codes "INTERNAL") p.internals.items) (g (codes "CONSTANT") p.constants.items) e0
    (e1 ∙ ap (λ l. a0 ++ g (codes "INPUT") l) ei) (e2 ∙ ap (λ l. a1 ++ g (codes "OUTPUT") l) eo)
    (e3 ∙ ap (λ l. a2 ++ g (codes "INTERNAL") l) en) (e4 ∙ ap (λ l. a3 ++ g (codes "CONSTANT") l) ek)
  where
    parts : (b0 b1 b2 b3 b4 x y z w : List TextItem) → b0 ≡ [] → b1 ≡ b0 ++ x → b2 ≡ b1 ++ y → b3 ≡ b2 ++ z → b4 ≡ b3 ++ w
        → b4 ≡ x ++ (y ++ (z ++ w))
    parts b0 b1 b2 b3 b4 x y z w f0 f1 f2 f3 f4 =
        f4 ∙ ap (λ l. l ++ w) (f3 ∙ ap (λ l. l ++ z) (f2 ∙ ap (λ l. l ++ y) (f1 ∙ ap (λ l. l ++ x) f0)))
        ∙ append_assoc (x ++ y) z w ∙ append_assoc x y (z ++ w)
