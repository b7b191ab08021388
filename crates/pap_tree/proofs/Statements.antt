-- The statements of a `Vec` inside a statement, as a list.
use Rattle.std.proofs.Common.{◌≡◌, ℕ, zero, suc, ◌+◌, ◌<◌, List, [], ◌∷◌, length, drop, get_or, refl, sym, ap, ◌∙◌, add-one, arith, Vec, Global}
use Rattle.pap_tree.specs.declared.expression.Expr.{Expr}
use Rattle.pap_tree.specs.declared.plan.Stmt.{Stmt, If, If', Row_of-Stmt, end_of-Stmt, more_of-Stmt, items-the_row-Stmt, items_hidden-the_row-Stmt-0}
use Rattle.pap_tree.specs.Term.{term_of}
use Rattle.pap_tree.specs.Flowchart.{Body, branch, body_of, stmt_then, body_of_row}
use mathlib.Core.Former.{Count}

pub body_of_row_is : (n : Count) (row : Row_of-Stmt n) → body_of_row row ≡ body_of (items-the_row-Stmt n row)
body_of_row_is n end_of-Stmt = refl
body_of_row_is n (more_of-Stmt s rest) = ap (stmt_then s) (body_of_row_is _ rest)

-- the two rows of a branch
abbrev Held : Type 0
Held = (n : Count) × Row_of-Stmt n

abbrev first_row : Stmt → Held
first_row (If' t m ys n zs) = (_, ys)
first_row _ = (_, end_of-Stmt)

abbrev second_row : Stmt → Held
second_row (If' t m ys n zs) = (_, zs)
second_row _ = (_, end_of-Stmt)

-- a branch, from the lists of its two branches
pub stmt_then-If : (t : Expr) (ys zs : Vec Stmt Global) (rest : Body) → stmt_then (If t ys zs) rest ≡ branch (term_of t) (body_of ys.items) (body_of zs.items) rest
stmt_then-If t ys zs rest =
    let a = first_row (If t ys zs) in
    let b = second_row (If t ys zs) in
    let y : body_of_row a.1 ≡ body_of ys.items = body_of_row_is a.0 a.1 ∙ ap body_of (items_hidden-the_row-Stmt-0 ys) in
    let z : body_of_row b.1 ≡ body_of zs.items = body_of_row_is b.0 b.1 ∙ ap body_of (items_hidden-the_row-Stmt-0 zs) in
    ap (λ x. branch (term_of t) x (body_of_row b.1) rest) y ∙ ap (λ x. branch (term_of t) (body_of ys.items) x rest) z

-- the statements from a place on
body_at-suc : (ss : List Stmt) (i : ℕ) (d : Stmt) → i < length ss → body_of (drop i ss) ≡ stmt_then (get_or ss i d) (body_of (drop (suc i) ss))
body_at-suc [] i d lt = absurd (omega arith)
body_at-suc (s ∷ ss) zero d lt = refl
body_at-suc (s ∷ ss) (suc i) d lt = body_at-suc ss i d (omega arith)

pub body_at : (ss : List Stmt) (i : ℕ) (d : Stmt) → i < length ss → body_of (drop i ss) ≡ stmt_then (get_or ss i d) (body_of (drop (i + 1) ss))
body_at ss i d lt = rw add-one (body_at-suc ss i d lt)

pub stmt_at : (ss : List Stmt) (i : ℕ) (s : Stmt) → s ≡ get_or ss i s → i < length ss → body_of (drop i ss) ≡ stmt_then s (body_of (drop (i + 1) ss))
stmt_at ss i s is lt = body_at ss i s lt ∙ ap (λ x. stmt_then x (body_of (drop (i + 1) ss))) (sym is)

-- a branch, by the lists that the code has
pub branch_is : (s : Stmt) (t : Expr) (ys zs : Vec Stmt Global) (a b : List Stmt) → s ≡ If t ys zs → a ≡ ys.items → b ≡ zs.items → (rest : Body) → stmt_then s rest ≡ branch (term_of t) (body_of a) (body_of b) rest
branch_is s t ys zs a b is ea eb rest =
    ap (λ x. stmt_then x rest) is
    ∙ stmt_then-If t ys zs rest
    ∙ ap (λ l. branch (term_of t) (body_of l) (body_of zs.items) rest) (sym ea)
    ∙ ap (λ l. branch (term_of t) (body_of a) (body_of l) rest) (sym eb)
