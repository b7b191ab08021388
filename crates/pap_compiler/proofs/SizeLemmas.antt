-- Sizes, taken apart.
use Rattle.std.proofs.Common.{◌≡◌, ℕ, ◌+◌, ◌<◌, ◌≤◌, max, List, length, drop, get_or, ap, ◌∙◌, Vec, Global, arith}
use Rattle.pap_tree.specs.declared.expression.Expr.{Expr}
use Rattle.pap_tree.specs.declared.expression.Binary.TheVariants as binaries
use Rattle.pap_tree.specs.declared.plan.Stmt.{Stmt, Eval, If, If', Execute}
use Rattle.pap_tree.specs.Term.{Term, leaf, item, one, two, choice, Two, operator, term_of}
use Rattle.pap_tree.specs.Flowchart.{Body, done, branch, body_of, stmt_then}
use Rattle.pap_tree.proofs.Laws.{stmt_at, stmt_then-If}
use Rattle.pap_compiler.specs.CodeDecisions.{term_length, body_length}
use Rattle.pap_compiler.specs.Heights.{term_height, body_height, right_height}

-- an operation puts one value more below its right operand, at most
right_within : (op : Two) (h : ℕ) → right_height op h ≤ h + 1
right_within (operator binaries.And) h = omega arith
right_within (operator binaries.Or) h = omega arith
right_within op h = omega arith

-- an expression has no more values on the stack than instructions
pub height_within : (t : Term) → term_height t ≤ term_length t
height_within (leaf l) = omega arith
height_within (item x e) = omega (arith, height_within e)
height_within (one op e) = omega (arith, height_within e)
height_within (two op e f) = omega (arith, height_within e, height_within f, right_within op (term_height f))
height_within (choice c e f) = omega (arith, height_within c, height_within e, height_within f)

pub length_then : (s : Stmt) (rest : Body) → body_length (stmt_then s rest) ≡ body_length (stmt_then s done) + body_length rest
length_then (Eval x e) rest = omega arith
length_then (If' t m ys n zs) rest = omega arith
length_then (Execute x) rest = omega arith

height_then : (s : Stmt) (rest : Body) → body_height (stmt_then s rest) ≡ max (body_height (stmt_then s done)) (body_height rest)
height_then (Eval x e) rest = omega arith
height_then (If' t m ys n zs) rest = omega arith
height_then (Execute x) rest = omega arith

pub record IsSplit (whole first rest : Body) : Type 0 where
  pub length : body_length whole ≡ body_length first + body_length rest
  pub height : body_height whole ≡ max (body_height first) (body_height rest)

-- the statements from a place on
pub size_at : (ss : List Stmt) (i : ℕ) (s : Stmt) → s ≡ get_or ss i s → i < length ss → IsSplit (body_of (drop i ss)) (stmt_then s done) (body_of (drop (i + 1) ss))
size_at ss i s is lt =
    let rest = body_of (drop (i + 1) ss) in
    record { length = ap body_length (stmt_at ss i s is lt) ∙ length_then s rest; height = ap body_height (stmt_at ss i s is lt) ∙ height_then s rest }

pub record IsSame (one other : Body) : Type 0 where
  pub length : body_length one ≡ body_length other
  pub height : body_height one ≡ body_height other

pub size_if : (s : Stmt) (t : Expr) (ys zs : Vec Stmt Global) → s ≡ If t ys zs → IsSame (stmt_then s done) (branch (term_of t) (body_of ys.items) (body_of zs.items) done)
size_if s t ys zs is =
    let same = ap (λ x. stmt_then x done) is ∙ stmt_then-If t ys zs done in
    record { length = ap body_length same; height = ap body_height same }
