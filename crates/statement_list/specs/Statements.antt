-- The statements of a flowchart by method and number. Source: docs/PROFILE.md, for the numbers and for the spelling.
use Rattle.std.specs.Prelude.{ℕ, if◌then◌else◌, List, [], ◌∷◌, ◌++◌, map, Option, Some, None, slice_get}
use Rattle.std.specs.List.{list_any}
use Rattle.std.specs.Option.{option_and_then}
use Rattle.std.specs.Str.{bytes_eq}
use Rattle.pap_tree.specs.Term.{Term, leaf, item, one, two, choice, whole, long, point, text, known, named}
use Rattle.pap_tree.specs.Spelling.{spelling}
use Rattle.pap_tree.specs.Flowchart.{Body, done, eval, branch, execute, Flowchart}
use Rattle.statement_list.specs.declared.statement.Form.{Form}
use Rattle.statement_list.specs.declared.statement.Form.TheVariants.{Set, Test, Enter}

-- ---- the names that an expression reads

-- some names and one more, unless it is there
abbrev pub with_name : List (List ℕ) → List ℕ → List (List ℕ)
with_name names x = if list_any (bytes_eq x) names then names else names ++ (x ∷ [])

-- some names and those that an expression reads, in the order of the text; the name of a table isn't among them
abbrev pub with_names : List (List ℕ) → Term → List (List ℕ)
with_names names (leaf (named x)) = with_name names x
with_names names (leaf (whole i)) = names
with_names names (leaf (long i)) = names
with_names names (leaf (point d)) = names
with_names names (leaf (text d)) = names
with_names names (leaf (known k)) = names
with_names names (item x e) = with_names names e
with_names names (one op e) = with_names names e
with_names names (two op a b) = with_names (with_names names a) b
with_names names (choice t a b) = with_names (with_names (with_names names t) a) b

-- the names that an expression reads, each once
abbrev pub names_read : Term → List (List ℕ)
names_read e = with_names [] e

-- ---- statements

-- a statement: what it does, its expression as a text, and the names that this reads
pub record Listed : Type 0 where
  pub form : Form
  pub text : List ℕ
  pub reads : List (List ℕ)

-- a statement of these parts
abbrev pub listed_statement : Form → List ℕ → List (List ℕ) → Listed
listed_statement form spelled reads = record { form = form; text = spelled; reads = reads }

-- an assignment
abbrev pub listed_assignment : List ℕ → Term → Listed
listed_assignment x e = listed_statement (Set x) (spelling e) (names_read e)

-- the test of an IF
abbrev pub listed_test : Term → Listed
listed_test t = listed_statement Test (spelling t) (names_read t)

-- an EXECUTE
abbrev pub listed_call : List ℕ → Listed
listed_call m = listed_statement (Enter m) [] []

-- the statements of a list by their numbers: in the order of the text, an IF before its first list and this before its second
abbrev pub listed_body : Body → List Listed
listed_body done = []
listed_body (eval x e rest) = listed_assignment x e ∷ listed_body rest
listed_body (branch t a b rest) = listed_test t ∷ (listed_body a ++ (listed_body b ++ listed_body rest))
listed_body (execute m rest) = listed_call m ∷ listed_body rest

-- the statements of all methods, MAIN first
abbrev pub listed_methods : Flowchart → List (List Listed)
listed_methods f = listed_body f.main ∷ map (λ m. listed_body m.body) f.methods
