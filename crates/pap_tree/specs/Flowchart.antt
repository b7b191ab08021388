-- A plan as it is written, without pointers. Source: the elements of the published flowcharts
-- (Programmablaufplan Lohnsteuer as pseudocode).
use Rattle.std.specs.Prelude.{ℕ, List, [], ◌∷◌, map}
use Rattle.pap_tree.specs.declared.plan.Stmt.{Stmt, Eval, If', Execute, Row_of-Stmt, end_of-Stmt, more_of-Stmt}
use Rattle.pap_tree.specs.declared.plan.Method.{Method}
use Rattle.pap_tree.specs.declared.plan.PlanText.{PlanText}
use Rattle.pap_tree.specs.Term.{Term, term_of}
use Rattle.pap_tree.specs.Declarations.{Declaration, declaration_of}

-- a list of statements: each with those that follow it
pub data Body : Type 0 where
  -- no statement
  done : Body
  -- EVAL: the target gets the value of the expression
  eval : List ℕ → Term → Body → Body
  -- IF: the first list where the test holds, else the second
  branch : Term → Body → Body → Body → Body
  -- EXECUTE: the body of the method of a name
  execute : List ℕ → Body → Body

abbrev mutual
  -- a statement of the program, and those that follow it
  pub stmt_then : Stmt → Body → Body
  stmt_then (Eval x e) rest = eval x (term_of e) rest
  stmt_then (If' t m ys n zs) rest = branch (term_of t) (body_of_row ys) (body_of_row zs) rest
  stmt_then (Execute x) rest = execute x rest

  -- what the statements of a branch of the program stand for
  pub body_of_row : {m : _} → Row_of-Stmt m → Body
  body_of_row end_of-Stmt = done
  body_of_row (more_of-Stmt s rest) = stmt_then s (body_of_row rest)

-- what a list of statements of the program stands for
abbrev pub body_of : List Stmt → Body
body_of [] = done
body_of (s ∷ ss) = stmt_then s (body_of ss)

-- a method other than MAIN
pub record Routine : Type 0 where
  pub name : List ℕ
  pub body : Body

-- what a method of the program stands for
abbrev pub routine_of : Method → Routine
routine_of m = record { name = m.name; body = body_of m.body.items }

-- a plan: its declarations and methods in the order of the text
pub record Flowchart : Type 0 where
  pub inputs : List Declaration
  pub outputs : List Declaration
  pub internals : List Declaration
  pub constants : List Declaration
  pub main : Body
  pub methods : List Routine

-- what a plan of the program stands for
abbrev pub flowchart_of : PlanText → Flowchart
flowchart_of p = record {
  inputs = map declaration_of p.inputs.items;
  outputs = map declaration_of p.outputs.items;
  internals = map declaration_of p.internals.items;
  constants = map declaration_of p.constants.items;
  main = body_of p.main.items;
  methods = map routine_of p.methods.items;
}
