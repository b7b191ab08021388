-- A flowchart as lists of texts. Source: docs/PROFILE.md, "Spelling", for the expressions.
use Rattle.std.specs.Prelude.{ℕ, ◌+◌, Bool, true, false, if◌then◌else◌, List, [], ◌∷◌, ◌++◌, map, codes, Option, Some, None}
use Rattle.std.specs.List.{flat_map}
use Rattle.scaled_decimal.specs.Decimals.{Decimal}
use Rattle.scaled_decimal.specs.PlainTexts.{plain_text}
use Rattle.pap_tree.specs.declared.declaration.Kind.{Kind}
use Rattle.pap_tree.specs.declared.declaration.Kind.TheVariants as kinds
use Rattle.pap_tree.specs.Declarations.{Declaration, DeclaredLiteral, number, big, table}
use Rattle.pap_tree.specs.Names.{main_name}
use Rattle.pap_tree.specs.Spelling.{spelling, spelled_leaf}
use Rattle.pap_tree.specs.Statements.{written}
use Rattle.pap_tree.specs.Flowchart.{Body, done, eval, branch, execute, Flowchart}

-- ---- statements

-- a line of a method: its text, and its number where it begins a statement
pub record TextLine : Type 0 where
  pub number : Option ℕ
  pub text : List ℕ

-- the line of the statement of a number
abbrev pub statement : ℕ → List ℕ → TextLine
statement at text = record { number = Some at; text = text }

-- a line that begins no statement
abbrev pub mark : List ℕ → TextLine
mark text = record { number = None; text = text }

-- the list has no statement
abbrev pub is_done : Body → Bool
is_done done = true
is_done _ = false

-- the word that stands before the second list of an IF, where that has a statement
abbrev pub else_mark : Body → List TextLine
else_mark b = if is_done b then [] else mark (codes "ELSE") ∷ []

-- The lines of statements that are numbered from `at`, in the order of the text: an assignment, an IF with its test, the
-- first list, the second behind ELSE and the end, and an EXECUTE.
abbrev pub outline_lines : ℕ → Body → List TextLine
outline_lines at done = []
outline_lines at (eval x e rest) = statement at (x ++ (codes " = " ++ spelling e)) ∷ outline_lines (at + 1) rest
outline_lines at (branch t a b rest) =
    statement at (codes "IF " ++ spelling t)
    ∷ (outline_lines (at + 1) a
    ++ (else_mark b
    ++ (outline_lines (at + 1 + written a) b
    ++ (mark (codes "END IF") ∷ outline_lines (at + 1 + written a + written b) rest))))
outline_lines at (execute m rest) = statement at (codes "EXECUTE " ++ m) ∷ outline_lines (at + 1) rest

-- ---- declarations

-- a name with a text
pub record TextItem : Type 0 where
  pub name : List ℕ
  pub text : List ℕ

-- the word for a type
abbrev pub kind_word : Kind → List ℕ
kind_word kinds.Int = codes "int"
kind_word kinds.Long = codes "long"
kind_word kinds.Big = codes "BigDecimal"
kind_word kinds.Factor = codes "double"
kind_word kinds.Table = codes "BigDecimal[]"

-- the items of a table, each behind a space
abbrev pub items_text : List Decimal → List ℕ
items_text items = flat_map (λ d. codes " " ++ plain_text d) items

-- a declared literal, behind a space
abbrev pub literal_text : DeclaredLiteral → List ℕ
literal_text (number l) = codes " " ++ spelled_leaf l
literal_text (big d) = codes " " ++ plain_text d
literal_text (table ds) = items_text ds

-- the value that is written
abbrev pub value_text : Option DeclaredLiteral → List ℕ
value_text None = []
value_text (Some l) = codes " =" ++ literal_text l

-- a name with a text, as an item
abbrev pub text_item : List ℕ → List ℕ → TextItem
text_item name text = record { name = name; text = text }

-- a declaration of a group: the group, the type, and the value that is written
abbrev pub declared_item : List ℕ → Declaration → TextItem
declared_item group d =
    text_item d.name (group ++ (codes " " ++ (kind_word d.kind ++ value_text d.value)))

-- all declarations, in the order of their groups
abbrev pub declared_items : Flowchart → List TextItem
declared_items f =
    map (declared_item (codes "INPUT")) f.inputs
    ++ (map (declared_item (codes "OUTPUT")) f.outputs
    ++ (map (declared_item (codes "INTERNAL")) f.internals
    ++ map (declared_item (codes "CONSTANT")) f.constants))

-- ---- methods

-- a method with its lines
pub record LinedMethod : Type 0 where
  pub name : List ℕ
  pub lines : List TextLine

-- the lines of a method
abbrev pub lined : List ℕ → Body → LinedMethod
lined name body = record { name = name; lines = outline_lines 0 body }

-- all methods, MAIN first
abbrev pub lined_methods : Flowchart → List LinedMethod
lined_methods f = lined main_name f.main ∷ map (λ m. lined m.name m.body) f.methods

-- a flowchart as lists of texts
pub record TextOutline : Type 0 where
  pub declarations : List TextItem
  pub methods : List LinedMethod

-- the lists of a flowchart
abbrev pub outline_of : Flowchart → TextOutline
outline_of f = record { declarations = declared_items f; methods = lined_methods f }
