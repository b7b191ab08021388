-- What a plan declares, without pointers.
use Rattle.std.specs.Prelude.{ℕ, List, Option, option_map}
use Rattle.scaled_decimal.specs.Decimals.{Decimal}
use Rattle.pap_tree.specs.Term.{Leaf, whole, long, point}
use Rattle.pap_tree.specs.declared.declaration.Kind.{Kind}
use Rattle.pap_tree.specs.declared.declaration.Literal.{Literal}
use Rattle.pap_tree.specs.declared.declaration.Literal.TheVariants as literals
use Rattle.pap_tree.specs.declared.declaration.Declared.{Declared}

-- a declared literal
pub data DeclaredLiteral : Type 0 where
  -- a literal of `int` or of `long`, or one with a point
  number : Leaf → DeclaredLiteral
  -- a decimal
  big : Decimal → DeclaredLiteral
  -- the items of a table
  table : List Decimal → DeclaredLiteral

-- the declared literal that one of the program stands for
abbrev pub declared_of : Literal → DeclaredLiteral
declared_of (literals.Int i) = number (whole i)
declared_of (literals.Long i) = number (long i)
declared_of (literals.Point d) = number (point d)
declared_of (literals.Big d) = big d
declared_of (literals.Table ds) = table ds.items

-- a declared variable or constant, with the value that it begins with, where one is written
pub record Declaration : Type 0 where
  pub name : List ℕ
  pub kind : Kind
  pub value : Option DeclaredLiteral

-- what a declaration of the program stands for
abbrev pub declaration_of : Declared → Declaration
declaration_of d = record {
  name = d.name;
  kind = d.kind;
  value = option_map declared_of d.value;
}
