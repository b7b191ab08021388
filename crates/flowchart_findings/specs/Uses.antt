-- The names that a flowchart reads and those that it assigns, by its text alone.
use Rattle.std.specs.Prelude.{ℕ, Bool, not, ◌&&◌, List, [], ◌∷◌, ◌++◌}
use Rattle.std.specs.List.{list_any, flat_map}
use Rattle.std.specs.Str.{bytes_eq}
use Rattle.pap_tree.specs.Term.{Term, leaf, item, one, two, choice, whole, long, point, text, known, named}
use Rattle.pap_tree.specs.Flowchart.{Body, done, eval, branch, execute, Flowchart}
use Rattle.pap_types.specs.Checks.{has_name}
use Rattle.pap_types.specs.Scopes.{names_of}

-- the names in an expression, of variables, constants and tables, as often as they stand there
abbrev pub named_in : Term → List (List ℕ)
named_in (leaf (named x)) = x ∷ []
named_in (leaf (whole i)) = []
named_in (leaf (long i)) = []
named_in (leaf (point d)) = []
named_in (leaf (text d)) = []
named_in (leaf (known k)) = []
named_in (item x e) = x ∷ named_in e
named_in (one op e) = named_in e
named_in (two op a b) = named_in a ++ named_in b
named_in (choice t a b) = named_in t ++ (named_in a ++ named_in b)

-- the names in the expressions of some statements, and of those inside them
abbrev pub read_in : Body → List (List ℕ)
read_in done = []
read_in (eval x e rest) = named_in e ++ read_in rest
read_in (branch t a b rest) = named_in t ++ (read_in a ++ (read_in b ++ read_in rest))
read_in (execute m rest) = read_in rest

-- the targets of the EVALs among some statements, and inside them
abbrev pub assigned_in : Body → List (List ℕ)
assigned_in done = []
assigned_in (eval x e rest) = x ∷ assigned_in rest
assigned_in (branch t a b rest) = assigned_in a ++ (assigned_in b ++ assigned_in rest)
assigned_in (execute m rest) = assigned_in rest

-- the names in all expressions of a flowchart
abbrev pub read_names : Flowchart → List (List ℕ)
read_names f = read_in f.main ++ flat_map (λ m. read_in m.body) f.methods

-- the targets of all EVALs of a flowchart
abbrev pub assigned_names : Flowchart → List (List ℕ)
assigned_names f = assigned_in f.main ++ flat_map (λ m. assigned_in m.body) f.methods

-- some expression of the flowchart names it
abbrev pub is_read : Flowchart → List ℕ → Bool
is_read f x = list_any (bytes_eq x) (read_names f)

-- some EVAL of the flowchart assigns it
abbrev pub is_assigned : Flowchart → List ℕ → Bool
is_assigned f x = list_any (bytes_eq x) (assigned_names f)

-- an internal name that no expression names: what is assigned to it is never read
abbrev pub is_unused : Flowchart → List ℕ → Bool
is_unused f x = has_name (names_of f.internals) x && not (is_read f x)
