-- What the names of a plan stand for: its variables by kind, its constants by value.
use Rattle.std.specs.Prelude.{ℕ, if◌then◌else◌, List, [], ◌∷◌, ◌++◌, map, position, Option, Some, None, pos}
use Rattle.std.specs.Option.{option_map, option_or}
use Rattle.std.specs.Str.{bytes_eq}
use Rattle.scaled_decimal.specs.Decimals.{Decimal, decimal, numerator_at}
use Rattle.pap_tree.specs.declared.declaration.Kind.{Kind}
use Rattle.pap_tree.specs.declared.declaration.Kind.TheVariants.{Int, Long, Big, Factor, Table}
use Rattle.pap_tree.specs.Term.{Leaf, whole, long, point, text, known, named}
use Rattle.pap_tree.specs.Declarations.{Declaration, DeclaredLiteral, number, big, table}
use Rattle.pap_tree.specs.Flowchart.{Flowchart}

-- what an expression is read in
pub record Scope : Type 0 where
  -- inputs, outputs and internals
  pub variables : List Declaration
  pub constants : List Declaration

-- the first declaration of a name
abbrev pub declared_as : List Declaration → List ℕ → Option Declaration
declared_as [] x = None
declared_as (d ∷ ds) x = if bytes_eq x d.name then Some d else declared_as ds x

-- the names of declarations, in their order
abbrev pub names_of : List Declaration → List (List ℕ)
names_of ds = map (λ d. d.name) ds

-- the number of a name among names, from 0: the place of the first that is the same
abbrev pub number_of : List (List ℕ) → List ℕ → Option ℕ
number_of names x = position (bytes_eq x) names

-- the declaration of a variable's or a constant's name
abbrev pub declaration_in : Scope → List ℕ → Option Declaration
declaration_in scope x = option_or (declared_as scope.variables x) (declared_as scope.constants x)

-- a `double` is kept with three places
abbrev pub factor_places : ℕ
factor_places = 3

-- a decimal of at most three places, at three places
abbrev pub at_factor_scale : Decimal → Decimal
at_factor_scale d = decimal (numerator_at factor_places d) factor_places

-- a value as a variable of a kind keeps it
abbrev pub kept_as : Kind → Decimal → Decimal
kept_as Factor d = at_factor_scale d
kept_as Int d = d
kept_as Long d = d
kept_as Big d = d
kept_as Table d = d

-- zero with scale 0
abbrev pub zero : Decimal
zero = decimal (pos 0) 0

-- the decimal that a declared literal stands for; a table stands for none
abbrev pub leaf_decimal : Leaf → Decimal
leaf_decimal (whole i) = decimal i 0
leaf_decimal (long i) = decimal i 0
leaf_decimal (point d) = d
leaf_decimal (text d) = d
leaf_decimal (known k) = zero
leaf_decimal (named x) = zero

-- the decimal of a declared literal; 0 for a table
abbrev pub literal_decimal : DeclaredLiteral → Decimal
literal_decimal (number l) = leaf_decimal l
literal_decimal (big d) = d
literal_decimal (table ds) = zero

-- the items of a declared table; another literal has none
abbrev pub literal_table : DeclaredLiteral → List Decimal
literal_table (number l) = []
literal_table (big d) = []
literal_table (table ds) = ds

-- the decimal that a declaration begins with: the written one, or zero
abbrev pub declared_decimal : Option DeclaredLiteral → Decimal
declared_decimal None = zero
declared_decimal (Some l) = literal_decimal l

-- the items that a declaration writes; none where it declares no table
abbrev pub declared_table : Option DeclaredLiteral → List Decimal
declared_table None = []
declared_table (Some l) = literal_table l

-- what a declared name begins with: its written value or zero, that of a `double` with three places
abbrev pub first_value : Declaration → Decimal
first_value d = kept_as d.kind (declared_decimal d.value)

-- the value of a constant
abbrev pub constant_in : Scope → List ℕ → Option Decimal
constant_in scope x = option_map first_value (declared_as scope.constants x)

-- the items of a table; a name that isn't a table has no items
abbrev pub table_items : Option Declaration → List Decimal
table_items None = []
table_items (Some d) = declared_table d.value

-- the items of the table of a name
abbrev pub table_in : Scope → List ℕ → List Decimal
table_in scope x = table_items (declaration_in scope x)

-- the variables of a plan in the order of their numbers
abbrev pub variables_of : Flowchart → List Declaration
variables_of f = f.inputs ++ (f.outputs ++ f.internals)

-- what the expressions of a plan are read in
abbrev pub scope_of : Flowchart → Scope
scope_of f = record { variables = variables_of f; constants = f.constants }
