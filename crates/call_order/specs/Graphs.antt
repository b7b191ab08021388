-- Which methods a list of statements executes, by number: the methods other than MAIN are numbered from 0 in declared
-- order. Source: the usual notions of a directed graph, its paths, cycles and topological order.
use Rattle.std.specs.Prelude.{ℕ, List, [], ◌++◌, map}
use Rattle.std.specs.List.{cons_option}
use Rattle.pap_tree.specs.Flowchart.{Body, done, eval, branch, execute, Routine}
use Rattle.pap_tree.specs.Statements.{written}
use Rattle.pap_types.specs.Scopes.{number_of}
use Rattle.pap_types.specs.Routines.{method_names}

-- the methods that a list of statements executes, as written
abbrev pub executed : List Routine → Body → List ℕ
executed ms done = []
executed ms (eval x e rest) = executed ms rest
executed ms (branch t a b rest) = executed ms a ++ (executed ms b ++ executed ms rest)
executed ms (execute m rest) = cons_option (number_of (method_names ms) m) (executed ms rest)

-- a list of statements in short: how many they are, as written, and the methods that they execute
pub record Content : Type 0 where
  pub statements : ℕ
  pub methods : List ℕ

-- what a list of statements comes to in short
abbrev pub content_of : List Routine → Body → Content
content_of ms b = record { statements = written b; methods = executed ms b }

-- what each method has, by number
abbrev pub Graph : Type 0
Graph = List Content

-- the graph of some of the methods
abbrev pub graph_within : List Routine → List Routine → Graph
graph_within all ms = map (λ m. content_of all m.body) ms

-- what each of the methods has, where all of them may be executed
abbrev pub graph_of : List Routine → Graph
graph_of ms = graph_within ms ms
