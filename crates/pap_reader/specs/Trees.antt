-- What is written in a plan's file, without pointers: its elements, with the texts of their attributes.
use Rattle.std.specs.Prelude.{ℕ, Option, option_map, Vec, List, [], ◌∷◌, map}
use Rattle.std.specs.declared.alloc.Global.{Global}
use Rattle.pap_tree.specs.declared.declaration.Kind.{Kind}
use Rattle.pap_reader.specs.declared.elements.RawDeclared.{RawDeclared}
use Rattle.pap_reader.specs.declared.elements.RawStmt.{RawStmt, Row_of-RawStmt, end_of-RawStmt, more_of-RawStmt}
use Rattle.pap_reader.specs.declared.elements.RawStmt as raws
use Rattle.pap_reader.specs.declared.elements.RawMethod.{RawMethod}
use Rattle.pap_reader.specs.declared.elements.Elements.{Elements}

-- a declared name, its type, and the text of the value that it begins with, where one is written
pub record RawDeclaration : Type 0 where
  pub name : List ℕ
  pub kind : Kind
  pub value : Option (List ℕ)

-- a list of statements: each with those that follow it
pub data RawBody : Type 0 where
  -- no statement
  done : RawBody
  -- EVAL, with the text of its assignment
  eval : List ℕ → RawBody → RawBody
  -- IF, with the text of its test, and the statements of THEN and of ELSE
  branch : List ℕ → RawBody → RawBody → RawBody → RawBody
  -- EXECUTE, with the name of its method
  execute : List ℕ → RawBody → RawBody

-- a method other than MAIN
pub record RawRoutine : Type 0 where
  pub name : List ℕ
  pub body : RawBody

-- the elements of a plan, in the order of the text
pub record ElementTree : Type 0 where
  pub inputs : List RawDeclaration
  pub outputs : List RawDeclaration
  pub internals : List RawDeclaration
  pub constants : List RawDeclaration
  pub main : RawBody
  pub methods : List RawRoutine

-- ---- the tree of what was read

-- a text that may be missing
abbrev pub items_of : Option (Vec ℕ Global) → Option (List ℕ)
items_of v = option_map (λ t. t.items) v

-- what a declaration of the program stands for
abbrev pub raw_declaration_of : RawDeclared → RawDeclaration
raw_declaration_of d = record { name = d.name; kind = d.kind; value = items_of d.value }

abbrev mutual
  -- a statement, and those that follow it
  pub raw_stmt_then : RawStmt → RawBody → RawBody
  raw_stmt_then (raws.Eval x) rest = eval x.items rest
  raw_stmt_then (raws.If' t m ys n zs) rest = branch t.items (raw_body_of_row ys) (raw_body_of_row zs) rest
  raw_stmt_then (raws.Execute x) rest = execute x rest

  -- what the statements of a branch of the program stand for
  pub raw_body_of_row : {m : _} → Row_of-RawStmt m → RawBody
  raw_body_of_row end_of-RawStmt = done
  raw_body_of_row (more_of-RawStmt s rest) = raw_stmt_then s (raw_body_of_row rest)

-- what a list of statements of the program stands for
abbrev pub raw_body_of : List RawStmt → RawBody
raw_body_of [] = done
raw_body_of (s ∷ ss) = raw_stmt_then s (raw_body_of ss)

-- what a method of the program stands for
abbrev pub raw_routine_of : RawMethod → RawRoutine
raw_routine_of m = record { name = m.name; body = raw_body_of m.body.items }

-- what the elements of the program stand for
abbrev pub tree_of : Elements → ElementTree
tree_of x = record {
  inputs = map raw_declaration_of x.inputs.items;
  outputs = map raw_declaration_of x.outputs.items;
  internals = map raw_declaration_of x.internals.items;
  constants = map raw_declaration_of x.constants.items;
  main = raw_body_of x.main.items;
  methods = map raw_routine_of x.methods.items;
}
