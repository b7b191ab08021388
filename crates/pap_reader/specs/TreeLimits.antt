-- How large the tree of an element text within the limits is.
use Rattle.std.specs.Prelude.{ℕ, ◌+◌, ◌≤◌, max, List, [], ◌∷◌, length}
use Rattle.pap_tree.specs.Limits.{most_inputs, most_outputs, most_internals, most_constants, most_methods, most_statements, most_nesting}
use Rattle.pap_reader.specs.Trees.{RawBody, done, eval, branch, execute, RawRoutine, ElementTree}

-- how many statements a list has as it is written
abbrev pub raw_written : RawBody → ℕ
raw_written done = 0
raw_written (eval x rest) = 1 + raw_written rest
raw_written (branch x a b rest) = 1 + raw_written a + raw_written b + raw_written rest
raw_written (execute x rest) = 1 + raw_written rest

-- how many of its IFs stand in one another, at most
abbrev pub raw_nesting : RawBody → ℕ
raw_nesting done = 0
raw_nesting (eval x rest) = raw_nesting rest
raw_nesting (branch x a b rest) = max (1 + max (raw_nesting a) (raw_nesting b)) (raw_nesting rest)
raw_nesting (execute x rest) = raw_nesting rest

-- how many statements the methods have as they are written
abbrev pub methods_written : List RawRoutine → ℕ
methods_written [] = 0
methods_written (m ∷ ms) = raw_written m.body + methods_written ms

-- how deep the IFs of the methods are nested at most
abbrev pub methods_nesting : List RawRoutine → ℕ
methods_nesting [] = 0
methods_nesting (m ∷ ms) = max (raw_nesting m.body) (methods_nesting ms)

-- the tree is within the limits of plans
pub record IsSmallTree (x : ElementTree) : Type 0 where
  pub inputs : length x.inputs ≤ most_inputs
  pub outputs : length x.outputs ≤ most_outputs
  pub internals : length x.internals ≤ most_internals
  pub constants : length x.constants ≤ most_constants
  pub methods : length x.methods ≤ most_methods
  pub statements : raw_written x.main + methods_written x.methods ≤ most_statements
  pub main_nesting : raw_nesting x.main ≤ most_nesting
  pub nesting : methods_nesting x.methods ≤ most_nesting
